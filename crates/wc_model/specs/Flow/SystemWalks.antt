-- Walks of a system, as the places of their steps: two steps of a system may be equal, so only places have counts.
use Rattle.std.specs.Prelude.{ℕ, ◌≡◌, ◌+◌, ◌*◌, ◌≤◌, ℤ, pos, ◌+ℤ◌, ◌*ℤ◌, ◌≤ℤ◌, Bool, false, ◌==◌, if◌then◌else◌, List, [], ◌∷◌, slice_get, Option, None, Some, All}
use Rattle.wc_base.specs.Sums.{sum_in, chosen}
use Rattle.wc_model.specs.declared.flow_system.System.{System}
use Rattle.wc_model.specs.declared.flow_system.SystemLimit.{SystemLimit}
use Rattle.wc_model.specs.declared.flow_system.SystemLoop.{SystemLoop}
use Rattle.wc_model.specs.declared.flow_system.SystemStep.{SystemStep}
use Rattle.wc_model.specs.Flow.Places.{is_listed}

-- from `at` to `end`, where nothing is the exit: each step leaves where the one before led
abbrev pub IsPlaceWalk : List SystemStep → Option ℕ → List ℕ → Option ℕ → Type 0
IsPlaceWalk steps at [] end = at ≡ end
IsPlaceWalk steps at (i ∷ walk) end = (t : SystemStep) × (slice_get steps i ≡ Some t) × (at ≡ Some t.source) × IsPlaceWalk steps t.target walk end

-- how often a walk takes the step at a place
abbrev pub visits : List ℕ → ℕ → ℤ
visits [] i = pos 0
visits (j ∷ walk) i = chosen (j == i) (pos 1) +ℤ visits walk i

-- how many of its steps are among some places
abbrev pub passes : List ℕ → List ℕ → ℕ
passes places [] = 0
passes places (i ∷ walk) = (if is_listed i places then 1 else 0) + passes places walk

-- how often it leaves a node
abbrev pub is_from : ℕ → Option SystemStep → Bool
is_from p None = false
is_from p (Some t) = t.source == p

abbrev pub leaves : List SystemStep → ℕ → List ℕ → ℕ
leaves steps p [] = 0
leaves steps p (i ∷ walk) = (if is_from p (slice_get steps i) then 1 else 0) + leaves steps p walk

-- it takes the back steps at most `bound` times as often as it enters the loop, and it enters a loop round the
-- start once more
abbrev pub MeetsLoop : ℕ → List ℕ → SystemLoop → Type 0
MeetsLoop start walk l = passes l.back walk ≤ l.bound * (passes l.entry walk + (if l.head == start then 1 else 0))

abbrev pub MeetsLimit : List SystemStep → List ℕ → SystemLimit → Type 0
MeetsLimit steps walk l = sum_in (λ f. f.1 *ℤ pos (leaves steps f.0 walk)) l.factors ≤ℤ l.constant

pub record MeetsRows (s : System) (walk : List ℕ) : Type 0 where
  pub loops : All (MeetsLoop s.start walk) s.loops
  pub limits : All (MeetsLimit s.steps walk) s.limits

-- the sum of its steps' costs
abbrev pub cost_at : (SystemStep → ℤ) → Option SystemStep → ℤ
cost_at cost None = pos 0
cost_at cost (Some t) = cost t

abbrev pub walk_value : (SystemStep → ℤ) → List SystemStep → List ℕ → ℤ
walk_value cost steps [] = pos 0
walk_value cost steps (i ∷ walk) = cost_at cost (slice_get steps i) +ℤ walk_value cost steps walk
