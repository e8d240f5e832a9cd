-- A system before and after its limits are added.
use Rattle.std.specs.Prelude.{ℕ, ◌≡◌, ◌↔◌, Bool, IsTrue, List, [], Result, Ok, Err, length}
use Rattle.std.specs.List.{flat_map}
use Rattle.wc_base.specs.declared.faults.Fault.{Fault}
use Rattle.wc_base.specs.declared.faults.Fault.TheVariants.{SystemLimit}
use Rattle.wc_model.specs.declared.flow_facts.Fact.{Fact}
use Rattle.wc_model.specs.declared.flow_system.System.{System}
use Rattle.wc_model.specs.declared.flow_system.SystemLimit.{SystemLimit as Limit}
use Rattle.wc_model.specs.declared.graphs.Graph.{Graph}
use Rattle.wc_model.specs.Flow.Systems.{fact_limits}
use Rattle.wc_model.specs.Workspace.Phases.{IsTooBig}

abbrev pub facts_limits : Graph → List (ℕ × Fact) → List Limit
facts_limits graph facts = flat_map (λ f. fact_limits graph f.1) facts

abbrev pub with_limits : System → List Limit → System
with_limits s limits = record s { limits = limits }

-- the system with the limits, or that it is then too big
abbrev pub IsLimited : Graph → List (ℕ × Fact) → System → Result System Fault → Type 0
IsLimited graph facts s (Ok limited) = (limited ≡ with_limits s (facts_limits graph facts)) × (IsTooBig (with_limits s (facts_limits graph facts)) → ⊥)
IsLimited graph facts s (Err fault) = (fault ≡ SystemLimit) × IsTooBig (with_limits s (facts_limits graph facts))

-- whether the system is too big with so many limits
abbrev pub TellsSize : System → ℕ → Bool → Type 0
TellsSize s count big = (limits : List Limit) → length limits ≡ count → IsTrue big ↔ IsTooBig (with_limits s limits)
