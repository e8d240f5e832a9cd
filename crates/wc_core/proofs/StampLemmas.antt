-- Items that change one after the other.
use Rattle.std.proofs.Common.{◌≡◌, Bool, true, false, if◌then◌else◌, sym, ℕ, zero, suc, ◌+◌, ◌<◌, List, [], ◌∷◌, ◌++◌, map, take, drop, set, get_or, length, ap, refl, ◌∙◌, arith, add-one}
use Rattle.wc_core.specs.Inner.Touching.{stamped}

module _ {A : Type 0} (f : A → A) where
  mapped_suc : (xs : List A) (k : ℕ) (d : A) → k < length xs → set (map f (take k xs) ++ drop k xs) k (f (get_or (map f (take k xs) ++ drop k xs) k d)) ≡ map f (take (suc k) xs) ++ drop (suc k) xs
  mapped_suc [] k d below = absurd (omega arith)
  mapped_suc (x ∷ xs) zero d below = refl
  mapped_suc (x ∷ xs) (suc k) d below = ap (λ l. f x ∷ l) (mapped_suc xs k d (omega arith))

  pub mapped_next : (xs ys : List A) (k : ℕ) (d : A) → ys ≡ map f (take k xs) ++ drop k xs → k < length xs → set ys k (f (get_or ys k d)) ≡ map f (take (k + 1) xs) ++ drop (k + 1) xs
  mapped_next xs ys k d is below = ap (λ (l : List A). set l k (f (get_or l k d))) is ∙ rw add-one (mapped_suc xs k d below)

module _ (touched : ℕ → Bool) (count : ℕ) (xs ys : List (ℕ × ℕ)) (k : ℕ) (x : ℕ × ℕ) (is : ys ≡ map (stamped touched count) (take k xs) ++ drop k xs) (below : k < length xs) (item : x ≡ get_or ys k x) where
  pub then_next : touched x.0 ≡ true → set ys k (x.0, count) ≡ map (stamped touched count) (take (k + 1) xs) ++ drop (k + 1) xs
  then_next here = ap (λ (v : ℕ × ℕ). set ys k v) (sym (ap (λ b. if b then (x.0, count) else x) here) ∙ ap (stamped touched count) item) ∙ mapped_next (stamped touched count) xs ys k x is below

  pub else_next : touched x.0 ≡ false → set ys k x ≡ map (stamped touched count) (take (k + 1) xs) ++ drop (k + 1) xs
  else_next apart = ap (λ (v : ℕ × ℕ). set ys k v) (sym (ap (λ b. if b then (x.0, count) else x) apart) ∙ ap (stamped touched count) item) ∙ mapped_next (stamped touched count) xs ys k x is below
