-- Two lists whose items stand for one another.
use Rattle.std.proofs.Common.{ℕ, zero, suc, ◌≡◌, List, [], ◌∷◌, ◌++◌, Some, length, refl, ap, subst}
use Rattle.std.specs.List.{AllZip, slice_get}
use Rattle.std.proofs.lemmas.Option.{none-some, same_Some}

module _ {A B : Type 0} (R : A → B → Type 0) where
  pub zip_right : (xs : List A) (ys : List B) (k : ℕ) (x : A) → AllZip R xs ys → slice_get xs k ≡ Some x → (y : B) × (slice_get ys k ≡ Some y) × R x y
  zip_right [] ys k x zip at = absurd (none-some x at)
  zip_right (a ∷ xs) [] k x zip at = absurd zip
  zip_right (a ∷ xs) (b ∷ ys) zero x zip at = (b, refl, subst (λ (z : A). R z b) (same_Some a x at) zip.0)
  zip_right (a ∷ xs) (b ∷ ys) (suc k) x zip at = zip_right xs ys k x zip.1 at

  pub zip_left : (xs : List A) (ys : List B) (k : ℕ) (y : B) → AllZip R xs ys → slice_get ys k ≡ Some y → (x : A) × (slice_get xs k ≡ Some x) × R x y
  zip_left xs [] k y zip at = absurd (none-some y at)
  zip_left [] (b ∷ ys) k y zip at = absurd zip
  zip_left (a ∷ xs) (b ∷ ys) zero y zip at = (a, refl, subst (λ (z : B). R a z) (same_Some b y at) zip.0)
  zip_left (a ∷ xs) (b ∷ ys) (suc k) y zip at = zip_left xs ys k y zip.1 at

  pub zip_length : (xs : List A) (ys : List B) → AllZip R xs ys → length xs ≡ length ys
  zip_length [] [] zip = refl
  zip_length [] (y ∷ ys) zip = absurd zip
  zip_length (x ∷ xs) [] zip = absurd zip
  zip_length (x ∷ xs) (y ∷ ys) zip = ap suc (zip_length xs ys zip.1)

  pub zip_so : (S : A → B → Type 0) → ((x : A) (y : B) → R x y → S x y) → (xs : List A) (ys : List B) → AllZip R xs ys → AllZip S xs ys
  zip_so S so [] [] zip = zip
  zip_so S so [] (y ∷ ys) zip = absurd zip
  zip_so S so (x ∷ xs) [] zip = absurd zip
  zip_so S so (x ∷ xs) (y ∷ ys) zip = (so x y zip.0, zip_so S so xs ys zip.1)

  pub zip_push : (xs : List A) (ys : List B) (x : A) (y : B) → AllZip R xs ys → R x y → AllZip R (xs ++ x ∷ []) (ys ++ y ∷ [])
  zip_push [] [] x y zip is = (is, tt)
  zip_push [] (b ∷ ys) x y zip is = absurd zip
  zip_push (a ∷ xs) [] x y zip is = absurd zip
  zip_push (a ∷ xs) (b ∷ ys) x y zip is = (zip.0, zip_push xs ys x y zip.1 is)
