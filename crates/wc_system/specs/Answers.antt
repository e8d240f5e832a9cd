-- What a call answers of a phase that may refuse, where it doesn't meet want of memory.
use Rattle.std.specs.Prelude.{ℕ, ◌≡◌, List, Result, Ok, Err}
use Rattle.wc_base.specs.declared.faults.Fault.{Fault}
use Rattle.wc_base.specs.declared.troubles.Trouble.{Trouble}
use Rattle.wc_base.specs.declared.troubles.Trouble.TheVariants.{Fault as Refused, Memory}
use Rattle.wc_model.specs.declared.flow_facts.Fact.{Fact}
use Rattle.wc_model.specs.declared.flow_system.System.{System}
use Rattle.wc_model.specs.declared.graphs.Bounds.{Bounds}
use Rattle.wc_model.specs.declared.graphs.Costs.{Costs}
use Rattle.wc_model.specs.declared.graphs.Graph.{Graph}
use Rattle.wc_model.specs.declared.graphs.Nest.{Nest}
use Rattle.wc_model.specs.Workspace.Edits.{Setting}
use Rattle.wc_model.specs.Workspace.Phases.{SystemOf}

abbrev pub Answers : {T : Type 0} → (Result T Fault → Type 0) → Result T Trouble → Type 0
Answers Is (Ok value) = Is (Ok value)
Answers Is (Err (Refused fault)) = Is (Err fault)
Answers Is (Err (Memory _)) = Unit {0}

-- the flow system of inputs with these facts
abbrev pub AnswersSystem : Graph → Nest → Bounds → Costs → List (ℕ × Fact) → Result System Trouble → Type 0
AnswersSystem graph nest bounds costs facts result = (inputs : Setting) → inputs.facts ≡ facts → Answers (SystemOf inputs graph nest bounds costs) result
