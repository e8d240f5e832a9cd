-- A step of a level as a step between nodes.
use Rattle.std.specs.Prelude.{ℕ, Option, Some, List}
use Rattle.wc_model.specs.Flow.Ends.{Ends}
use Rattle.wc_model.specs.Flow.Walks.{Joins}
use Rattle.wc_nest.specs.declared.ways.Way.{Way}

abbrev pub way_ends : Way → Ends
way_ends w = record { source = w.source; target = Some w.target }

abbrev pub WaysLead : List Way → ℕ → Option ℕ → Type 0
WaysLead = Joins way_ends
