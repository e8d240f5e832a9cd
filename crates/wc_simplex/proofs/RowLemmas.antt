-- Steps over the entries of a row.
use mir.Syntax.{w128}
use mir.Val.{SFits, of_z, to_z}
use Rattle.std.proofs.Common.{suc, Bool, true, false, if◌then◌else◌, pos, length, get_or, set, take, drop, map, arith, ◌≡◌, ℕ, ◌+◌, ◌<◌, ◌^◌, ℤ, ◌*ℤ◌, ◌-ℤ◌, List, [], ◌∷◌, ◌++◌, Option, None, Some, option_map, option_and_then, refl, sym, subst, ap, ap₂, ◌∙◌, append_assoc}
use Rattle.std.specs.Int.RustNames.{int_div, unsigned_abs}
use Rattle.std.specs.Option.{IfSome}
use Rattle.std.proofs.lemmas.Int.{to_z-of_z}
use Rattle.std.proofs.lemmas.List.{length-set, length-take}
use Rattle.std.proofs.lemmas.List.Edits.{map_over_more}
use Rattle.wc_model.specs.Flow.RowMachine.{place_from}
use Rattle.wc_model.specs.Flow.Exact.{exact, gcd, mix, mix_row, row_gcd}
use Rattle.wc_simplex.specs.Inner.Steps.{Leaves, behind}
use Rattle.wc_simplex.proofs.DivisorLemmas.{gcd_small}
use Rattle.wc_simplex.proofs.ExactLemmas.{kept_is}

-- what a mixed entry is
pub mix_value : (a b x y v : ℤ) → mix a b x y ≡ Some v → (v ≡ a *ℤ x -ℤ b *ℤ y) × (unsigned_abs v < 2 ^ 127)
mix_value a b x y v is = by (exact (a *ℤ x)) refl (exact (b *ℤ y)) refl is
  where
    by : (l : Option ℤ) → exact (a *ℤ x) ≡ l → (r : Option ℤ) → exact (b *ℤ y) ≡ r
        → option_and_then (λ left. option_and_then (λ right. exact (left -ℤ right)) r) l ≡ Some v → (v ≡ a *ℤ x -ℤ b *ℤ y) × (unsigned_abs v < 2 ^ 127)
    by None p r q e = absurd (cc)
    by (Some left) p None q e = absurd (cc)
    by (Some left) p (Some right) q e =
        let first = kept_is (a *ℤ x) left p in
        let second = kept_is (b *ℤ y) right q in
        let both = kept_is (left -ℤ right) v e in
        (sym both.0 ∙ sym (ap₂ (λ m n. m -ℤ n) first.0 second.0), both.1)

pub record IsMixed (a b x y : ℤ) (xs ys new : List ℤ) : Type 0 where
  pub head : ℤ
  pub tail : List ℤ
  pub here : mix a b x y ≡ Some head
  pub later : mix_row a b xs ys ≡ Some tail
  pub whole : new ≡ head ∷ tail

pub mixes_cons : (a b x y : ℤ) (xs ys new : List ℤ) → mix_row a b (x ∷ xs) (y ∷ ys) ≡ Some new → IsMixed a b x y xs ys new
mixes_cons a b x y xs ys new is = by (mix a b x y) refl (mix_row a b xs ys) refl is
  where
    by : (o : Option ℤ) → mix a b x y ≡ o → (l : Option (List ℤ)) → mix_row a b xs ys ≡ l
        → option_and_then (λ z. option_map (λ zs. z ∷ zs) l) o ≡ Some new → IsMixed a b x y xs ys new
    by None p l q e = absurd (cc)
    by (Some z) p None q e = absurd (cc)
    by (Some z) p (Some zs) q e =
        let whole : new ≡ z ∷ zs = cc in
        record { head = z; tail = zs; here = p; later = q; whole = whole }

-- What a mixed row has in common stays in the range.
pub mixed_small : (a b : ℤ) (row pivot new : List ℤ) (g : ℕ) → g < 2 ^ 127 → mix_row a b row pivot ≡ Some new → row_gcd g new < 2 ^ 127
mixed_small a b [] pivot new g few is =
    let none : new ≡ [] = cc in
    subst (λ row. row_gcd g row < 2 ^ 127) (sym none) few
mixed_small a b (x ∷ xs) [] new g few is =
    let none : new ≡ [] = cc in
    subst (λ row. row_gcd g row < 2 ^ 127) (sym none) few
mixed_small a b (x ∷ xs) (y ∷ ys) new g few is =
    let parts = mixes_cons a b x y xs ys new is in
    let small = (mix_value a b x y parts.head parts.here).1 in
    let rest = mixed_small a b xs ys parts.tail (gcd g (unsigned_abs parts.head)) (gcd_small g (unsigned_abs parts.head) (2 ^ 127) few small) parts.later in
    subst (λ row. row_gcd g row < 2 ^ 127) (sym parts.whole) rest

-- a step in place over one more entry
pub behind_more : {X : Type 0} (front : List X) (x : X) (later : Option (List X)) → behind (front ++ x ∷ []) later ≡ behind front (option_map (λ zs. x ∷ zs) later)
behind_more front x None = refl
behind_more front x (Some zs) = ap Some (append_assoc front (x ∷ []) zs)

pub lower_small : (a b : ℤ) (row pivot new : List ℤ) (r : Unit {0}) → Leaves (mix_row a b row pivot) (Some r) new → row_gcd 0 new < 2 ^ 127
lower_small a b row pivot new r left = by (mix_row a b row pivot) refl left
  where
    by : (o : Option (List ℤ)) → mix_row a b row pivot ≡ o → Leaves o (Some r) new → row_gcd 0 new < 2 ^ 127
    by None is stopped = absurd (cc)
    by (Some mixed) is done = mixed_small a b row pivot new 0 (omega arith) (is ∙ ap Some (sym done.1))

-- one more entry is divided
pub divided : (xs ys : List ℤ) (i by : ℕ) (x q : ℤ) → i < length xs → length ys ≡ length xs → ys ≡ map (λ z. int_div z (pos by)) (take i xs) ++ drop i xs
    → x ≡ get_or ys i x → SFits w128 q → q ≡ int_div x (pos by)
    → (length (set ys i (to_z w128 (of_z w128 q))) ≡ length xs) × (set ys i (to_z w128 (of_z w128 q)) ≡ map (λ z. int_div z (pos by)) (take (i + 1) xs) ++ drop (i + 1) xs)
divided xs ys i by x q within same so_far here fits is = (
  length-set ys i (to_z w128 (of_z w128 q)) ∙ same,
  ap (λ z. set ys i z) (to_z-of_z w128 q fits ∙ is) ∙ map_over_more (λ z. int_div z (pos by)) xs ys i x within so_far here,
)

-- where a test first passes
further : (i n : ℕ) (o : Option ℕ) → IfSome o (λ j. j < i + 1 + n) → IfSome o (λ j. j < i + suc n)
further i n None h = tt
further i n (Some j) h = omega (arith, h)

placed : (test : ℤ → Bool) (i : ℕ) (xs : List ℤ) → IfSome (place_from test i xs) (λ j. j < i + length xs)
placed test i [] = tt
placed test i (x ∷ xs) = by (test x) (further i (length xs) (place_from test (i + 1) xs) (placed test (i + 1) xs))
  where
    by : (b : Bool) → IfSome (place_from test (i + 1) xs) (λ j. j < i + suc (length xs)) → IfSome (if b then Some i else place_from test (i + 1) xs) (λ j. j < i + suc (length xs))
    by true h = omega arith
    by false h = h

pub place_within : (test : ℤ → Bool) (xs : List ℤ) (n : ℕ) (o : Option ℕ) → o ≡ place_from test 0 (take n xs) → IfSome o (λ j. j < n)
place_within test xs n o is = few o (subst (λ p. IfSome p (λ j. j < 0 + length (take n xs))) (sym is) (placed test 0 (take n xs)))
  where
    few : (p : Option ℕ) → IfSome p (λ j. j < 0 + length (take n xs)) → IfSome p (λ j. j < n)
    few None h = tt
    few (Some j) h = omega (arith, h, length-take n xs)
