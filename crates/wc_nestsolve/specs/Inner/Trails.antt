-- Ways to a goal as lists of places: steps ahead, and a last step that leads to the goal.
use Rattle.std.specs.Prelude.{ℕ, zero, suc, ◌≡◌, ◌+◌, Bool, true, false, ℤ, pos, ◌+ℤ◌, List, [], ◌∷◌, slice_index, slice_get, Option, None, Some, IfSome}
use Rattle.wc_model.specs.declared.flow_system.System.{System}
use Rattle.wc_model.specs.declared.flow_system.SystemStep.{SystemStep}
use Rattle.wc_model.specs.declared.graphs.Nest.{Nest}
use Rattle.wc_model.specs.Flow.Systems.{is_marked}
use Rattle.wc_nestsolve.specs.declared.found.Found.{Found}
use Rattle.wc_nestsolve.specs.Inner.Nested.{IsStep}
use Rattle.wc_nestsolve.specs.Inner.Tables.{found_at}

-- `z` is the value of the way: the costs of its steps and the surcharges of the nodes on it but the goal
module _ (s : System) (nest : Nest) (goal : Option ℕ) (Inside : ℕ → Type 0) (extra : List ℕ) where
  pub data IsTrail : ℕ → List ℕ → ℕ → Type 0 where
    ends : (i : ℕ) (t : SystemStep) → IsStep s nest i t → Inside t.source → t.target ≡ goal → IfSome goal (λ _. is_marked nest i ≡ true) → IsTrail t.source (i ∷ []) t.cost
    goes : (i q z : ℕ) (t : SystemStep) (rest : List ℕ) → IsStep s nest i t → Inside t.source → is_marked nest i ≡ false → t.target ≡ Some q → IsTrail q rest z
        → IsTrail t.source (i ∷ rest) (t.cost + (slice_index extra q + z))

-- the sum over the places of a walk of what each step gives
abbrev pub given_at : (ℕ → SystemStep → ℤ) → ℕ → Option SystemStep → ℤ
given_at g i None = pos 0
given_at g i (Some t) = g i t

abbrev pub tally : (ℕ → SystemStep → ℤ) → List SystemStep → List ℕ → ℤ
tally g steps [] = pos 0
tally g steps (i ∷ walk) = given_at g i (slice_get steps i) +ℤ tally g steps walk

-- the walk that a table gives, of at most some number of steps
abbrev pub goes_to : Bool → Option SystemStep → Option ℕ
goes_to true o = None
goes_to false None = None
goes_to false (Some t) = t.target

abbrev pub begins_with : Option Found → (ℕ → List ℕ) → List ℕ
begins_with None rest = []
begins_with (Some f) rest = f.place ∷ rest f.place

abbrev pub walk_from : System → Nest → List (Option Found) → ℕ → Option ℕ → List ℕ
walk_from s nest best zero at = []
walk_from s nest best (suc most) None = []
walk_from s nest best (suc most) (Some p) = begins_with (found_at best p) (λ place. walk_from s nest best most (goes_to (is_marked nest place) (slice_get s.steps place)))
