-- Paths by the places of their steps, as a test.
use Rattle.std.specs.Prelude.{ℕ, ◌==◌, ◌&&◌, Bool, false, List, [], ◌∷◌, map, Option, None, Some, is_none, slice_get}
use Rattle.std.specs.List.{filter_map}
use Rattle.wc_model.specs.declared.graphs.Graph.{Graph}
use Rattle.wc_model.specs.declared.graphs.Step.{Step}
use Rattle.wc_model.specs.declared.machine.Cycles.{Cycles}
use Rattle.wc_model.specs.Cache.Timing.{Timed, timed_step}

abbrev pub leaves : Option ℕ → ℕ → Bool
leaves None source = false
leaves (Some p) source = p == source

abbrev pub goes_on : Option Step → Option ℕ → (Option ℕ → Bool) → Bool
goes_on None at later = false
goes_on (Some s) at later = leaves at s.source && later s.target

-- whether the steps at the places lead from a node to the exit
abbrev pub is_walk : List Step → Option ℕ → List ℕ → Bool
is_walk steps at [] = is_none at
is_walk steps at (k ∷ places) = goes_on (slice_get steps k) at (λ target. is_walk steps target places)

-- the steps at the places, as timing sees them
abbrev pub steps_at : List Step → List ℕ → List Step
steps_at steps places = filter_map (λ k. slice_get steps k) places

abbrev pub timed_at : Graph → Cycles → List ℕ → List Timed
timed_at graph c places = map (timed_step graph c) (steps_at graph.steps places)
