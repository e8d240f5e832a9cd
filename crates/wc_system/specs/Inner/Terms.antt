-- The terms of one side of a limit.
use Rattle.std.specs.Prelude.{ℕ, ◌≡◌, ℤ, pos, ◌-ℤ◌, ◌+◌, ◌<◌, ◌≤◌, if◌then◌else◌, List, [], ◌∷◌, length, slice_index_or}
use Rattle.std.specs.List.{filter}
use Rattle.wc_model.specs.declared.graphs.Context.{Context}
use Rattle.wc_model.specs.declared.graphs.Node.{Node}
use Rattle.wc_model.specs.declared.flow_facts.Term.{Term}
use Rattle.wc_model.specs.Flow.Bounds.{fits}
use Rattle.wc_model.specs.Flow.Systems.{counts_some, times_in}
use Rattle.wc_model.specs.Program.Positions.{Position}
use Rattle.wc_system.specs.declared.terms.Visit.{Visit}
use Rattle.wc_system.specs.Inner.Contexts.{position_in}

-- how often terms count a visit of a position
abbrev pub visit_times : Position → Visit → ℕ
visit_times p v = if fits v.at v.within.now p then v.times else 0

abbrev pub visit_sum : Position → List Visit → ℕ
visit_sum p [] = 0
visit_sum p (v ∷ vs) = visit_times p v + visit_sum p vs

-- the terms before a place have smaller addresses, the others don't
abbrev pub IsFirstAt : List Visit → ℕ → ℕ → Type 0
IsFirstAt visits at place = ((k : ℕ) (d : Visit) → k < place → (slice_index_or visits k d).at < at) × ((k : ℕ) (d : Visit) → place ≤ k → k < length visits → at ≤ (slice_index_or visits k d).at)

-- each node with its factor, by the terms of both sides
abbrev pub visit_pairs : List Context → List Visit → List Visit → ℕ → List Node → List (ℕ × ℤ)
visit_pairs contexts plus minus first [] = []
visit_pairs contexts plus minus first (node ∷ nodes) =
    (first, pos (visit_sum (position_in contexts node) plus) -ℤ pos (visit_sum (position_in contexts node) minus)) ∷ visit_pairs contexts plus minus (first + 1) nodes

-- those of factor 0 are left out
abbrev pub some_factor : ℕ → ℤ → List (ℕ × ℤ)
some_factor node factor = filter counts_some ((node, factor) ∷ [])

abbrev pub visit_factors : List Context → List Visit → List Visit → List Node → List (ℕ × ℤ)
visit_factors contexts plus minus nodes = filter counts_some (visit_pairs contexts plus minus 0 nodes)

-- one term more
abbrev pub AddsVisits : Term → List Visit → List Visit → Type 0
AddsVisits term old new = (p : Position) → visit_sum p new ≡ visit_sum p old + times_in p (term ∷ [])

-- how often the term at a place counts a visit of a node
abbrev pub IsTimesAt : List Context → Node → List Visit → ℕ → ℕ → Type 0
IsTimesAt contexts node visits place times = (v : Visit) → times ≡ visit_times (position_in contexts node) (slice_index_or visits place v)
