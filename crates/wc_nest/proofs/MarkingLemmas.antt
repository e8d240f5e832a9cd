-- Some places set alike.
use Rattle.std.proofs.Common.{ℕ, zero, suc, ◌≡◌, ◌+◌, ◌<◌, ◌⊎◌, inl, inr, ⊎_elim, List, [], ◌∷◌, Some, length, set, get_or, sum_by, refl, sym, ap, subst, ◌∙◌, arith}
use Rattle.std.specs.List.{Contains, slice_get}
use Rattle.std.proofs.lemmas.Bool.{cases_eq}
use Rattle.std.proofs.lemmas.List.{length-set}
use Rattle.std.proofs.lemmas.List.Sums.{sum_by-set}
use Rattle.std.proofs.lemmas.Option.{slice_get_within, get_or_from_slice_get}
use Rattle.wc_model.proofs.Places.{get_set_cases, get_set, get_set_other}
use Rattle.wc_nest.specs.declared.marking.Mark.{Mark}
use Rattle.wc_nest.specs.Inner.Marking.{set_all}
use Rattle.wc_nest.specs.Inner.Searches.{weight}
use Rattle.wc_nest.proofs.ListLemmas.{contains_head, contains_tail}

pub length-set_all : {X : Type 0} (xs : List X) (ps : List ℕ) (m : X) → length (set_all xs ps m) ≡ length xs
length-set_all xs [] m = refl
length-set_all xs (p ∷ ps) m = length-set_all (set xs p m) ps m ∙ length-set xs p m

-- a node that isn't marked keeps its mark
pub set_all_out : {X : Type 0} (xs : List X) (ps : List ℕ) (m : X) (q : ℕ) (x : X) → (Contains ps q → ⊥) → slice_get xs q ≡ Some x → slice_get (set_all xs ps m) q ≡ Some x
set_all_out xs [] m q x apart at = at
set_all_out xs (p ∷ ps) m q x apart at =
    set_all_out (set xs p m) ps m q x (λ among. apart (contains_tail p ps q among)) (get_set_other xs p q m x (λ (e : q ≡ p). apart (subst (λ (z : ℕ). Contains (p ∷ ps) z) (sym e) (contains_head p ps))) at)

-- a mark stays or becomes the new one
pub set_all_some : {X : Type 0} (xs : List X) (ps : List ℕ) (m : X) (q : ℕ) (x : X) → slice_get xs q ≡ Some x → (slice_get (set_all xs ps m) q ≡ Some m) ⊎ (slice_get (set_all xs ps m) q ≡ Some x)
set_all_some xs [] m q x at = inr at
set_all_some xs (p ∷ ps) m q x at = ⊎_elim
    (λ (same : q ≡ p).
    let now : slice_get (set xs p m) q ≡ Some m = subst (λ (z : ℕ). slice_get (set xs p m) z ≡ Some m) (sym same) (get_set xs p m (omega (arith, slice_get_within xs q x at))) in
    ⊎_elim (λ done. inl done) (λ done. inl done) (set_all_some (set xs p m) ps m q m now))
    (λ (other : q ≡ p → ⊥). set_all_some (set xs p m) ps m q x (get_set_other xs p q m x other at))
    (cases_eq q p)

keeps : {X : Type 0} (xs : List X) (ps : List ℕ) (m : X) (q : ℕ) → slice_get xs q ≡ Some m → slice_get (set_all xs ps m) q ≡ Some m
keeps xs ps m q at = ⊎_elim (λ is. is) (λ is. is) (set_all_some xs ps m q m at)

pub set_all_in : {X : Type 0} (xs : List X) (ps : List ℕ) (m : X) (q : ℕ) → Contains ps q → q < length xs → slice_get (set_all xs ps m) q ≡ Some m
set_all_in xs [] m q among known = absurd (omega (arith, among.1))
set_all_in xs (p ∷ ps) m q (zero, within, is) known = keeps (set xs p m) ps m q (subst (λ (z : ℕ). slice_get (set xs p m) z ≡ Some m) is (get_set xs p m (omega (arith, is))))
set_all_in xs (p ∷ ps) m q (suc k, within, is) known = set_all_in (set xs p m) ps m q (k, omega arith, is) (omega (arith, length-set xs p m))

pub set_all_cases : {X : Type 0} (xs : List X) (ps : List ℕ) (m : X) (q : ℕ) (x : X) → slice_get (set_all xs ps m) q ≡ Some x → (Contains ps q × (m ≡ x)) ⊎ (slice_get xs q ≡ Some x)
set_all_cases xs [] m q x at = inr at
set_all_cases xs (p ∷ ps) m q x at = ⊎_elim
    (λ new. inl (contains_tail p ps q new.0, new.1))
    (λ old. ⊎_elim
    (λ here. inl (subst (λ (z : ℕ). Contains (p ∷ ps) z) (sym here.0) (contains_head p ps), here.1))
    (λ other. inr other.1)
    (get_set_cases xs p q m x old))
    (set_all_cases (set xs p m) ps m q x at)

-- nodes without a weight that get a mark without a weight
pub weight-set_all : (marks : List Mark) (ps : List ℕ) (m : Mark) → weight m ≡ 0 → ((p : ℕ) → Contains ps p → (x : Mark) × (slice_get marks p ≡ Some x) × (weight x ≡ 0)) → sum_by weight (set_all marks ps m) ≡ sum_by weight marks
weight-set_all marks [] m light old = refl
weight-set_all marks (p ∷ ps) m light old =
    let here : (x : Mark) × (slice_get marks p ≡ Some x) × (weight x ≡ 0) = old p (contains_head p ps) in
    let within : p < length marks = slice_get_within marks p here.0 here.1 in
    let now : sum_by weight (set marks p m) + weight (get_or marks p here.0) ≡ sum_by weight marks + weight m = sum_by-set weight marks p m here.0 within in
    let is : weight (get_or marks p here.0) ≡ weight here.0 = ap weight (get_or_from_slice_get marks p here.0 here.0 here.1) in
    let rest : sum_by weight (set_all (set marks p m) ps m) ≡ sum_by weight (set marks p m) = weight-set_all (set marks p m) ps m light (λ q among. after q (old q (contains_tail p ps q among)) within) in
    omega (arith, here.2)
  where
    after : (q : ℕ) → (x : Mark) × (slice_get marks q ≡ Some x) × (weight x ≡ 0) → p < length marks → (x : Mark) × (slice_get (set marks p m) q ≡ Some x) × (weight x ≡ 0)
    after q known within = ⊎_elim
        (λ (same : q ≡ p). (m, subst (λ (z : ℕ). slice_get (set marks p m) z ≡ Some m) (sym same) (get_set marks p m within), light))
        (λ (other : q ≡ p → ⊥). (known.0, get_set_other marks p q m known.0 other known.1, known.2))
        (cases_eq q p)
