-- The nodes of a class are raised one after another.
use Rattle.std.specs.Prelude.{ℕ, ◌≡◌, ◌<◌, ◌^◌, ℤ, pos, List, length, slice_get, slice_index_or, Option, None, Some}
use Rattle.wc_nestsolve.specs.declared.found.Found.{Found}
use Rattle.wc_nestsolve.specs.Inner.Potentials.{raised_by}
use Rattle.wc_nestsolve.specs.Inner.Tables.{found_at}

abbrev pub AreBelow : List (Option Found) → Type 0
AreBelow best = (p : ℕ) (f : Found) → found_at best p ≡ Some f → f.value < 2 ^ 101

abbrev pub potential_at : List (Option ℤ) → ℕ → Option ℤ
potential_at u p = slice_index_or u p None

pub record AreRaisable (class : List ℕ) (best : List (Option Found)) (u : List (Option ℤ)) : Type 0 where
  pub once : (i j p : ℕ) → slice_get class i ≡ Some p → slice_get class j ≡ Some p → i ≡ j
  pub known : (i p : ℕ) → slice_get class i ≡ Some p → p < length best
  pub known_u : (i p : ℕ) → slice_get class i ≡ Some p → p < length u

abbrev pub raised_at : List (Option Found) → ℤ → ℕ → List (Option ℤ) → Option ℤ
raised_at best from p u = raised_by (potential_at u p) (found_at best p) from

-- the first `count` nodes are raised, and the others are as before
pub record IsRaised (class : List ℕ) (count : ℕ) (best : List (Option Found)) (from : ℤ) (old new : List (Option ℤ)) : Type 0 where
  pub counted : length new ≡ length old
  pub inside : (j p : ℕ) → j < count → slice_get class j ≡ Some p → potential_at new p ≡ raised_by (potential_at old p) (found_at best p) from
  pub outside : (p : ℕ) → ((j : ℕ) → j < count → slice_get class j ≡ Some p → ⊥) → potential_at new p ≡ potential_at old p

-- the potential of a node in the end: each has one
abbrev pub settled : Option ℤ → ℤ
settled None = pos 0
settled (Some z) = z
