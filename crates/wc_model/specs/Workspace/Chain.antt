-- The outcome of the analysis of one function, from the inputs alone, and that it is safe.
use Rattle.std.specs.Prelude.{ℕ, ◌≡◌, ◌≤◌, List, Result, Ok, Err}
use Rattle.wc_base.specs.declared.faults.Fault.{Fault}
use Rattle.wc_model.specs.declared.graphs.Costs.{Costs}
use Rattle.wc_model.specs.declared.graphs.Graph.{Graph}
use Rattle.wc_model.specs.declared.values.Outcome.{Outcome}
use Rattle.wc_model.specs.declared.values.Outcome.TheVariants.{Bound, Fault as Refused, Memory}
use Rattle.wc_model.specs.Cache.Costs.{AreCosts}
use Rattle.wc_model.specs.Cache.Lru.{Held, IsAllowed}
use Rattle.wc_model.specs.Cache.Timing.{path_cycles}
use Rattle.wc_model.specs.Flow.Bounds.{MeetsFacts}
use Rattle.wc_model.specs.Program.Paths.{IsPath}
use Rattle.wc_model.specs.Program.Positions.{start_of}
use Rattle.wc_model.specs.Program.Steps.{Step, LeadsBy, steps_of}
use Rattle.wc_model.specs.Program.Words.{find_of}
use Rattle.wc_model.specs.Workspace.Edits.{Setting}
use Rattle.wc_model.specs.Workspace.Phases.{After, stated, GraphOf, NestOf, BoundsOf, SystemOf, SolutionOf, BoundOf}

-- lines, must and may, categories and costs refuse nothing
abbrev pub CostsOf : Setting → Graph → Result Costs Fault → Type 0
CostsOf inputs graph (Ok costs) = AreCosts graph inputs.hardware costs
CostsOf inputs graph (Err fault) = ⊥

-- the phases one after the other: the first fault, else the bound
abbrev pub ChainResult : Setting → List ℕ → Result ℕ Fault → Type 0
ChainResult inputs name =
    After (GraphOf inputs name) (λ graph.
    After (NestOf graph) (λ nest.
    After (BoundsOf inputs graph nest) (λ bounds.
    After (CostsOf inputs graph) (λ costs.
    After (SystemOf inputs graph nest bounds costs) (λ system.
    After (SolutionOf system) (λ solution. BoundOf system))))))

-- an outcome of a name; want of memory is none of the chain's
abbrev pub chain : Setting → List ℕ → Outcome → Type 0
chain inputs name (Bound bound) = ChainResult inputs name (Ok bound)
chain inputs name (Refused fault) = ChainResult inputs name (Err fault)
chain inputs name Memory = ⊥

-- A number is at least the cycles of every path from the function's start to its exit that meets the facts, from every
-- state of the cache that the hardware allows.
abbrev pub IsSafeAt : Setting → ℕ → ℕ → Type 0
IsSafeAt inputs entry bound =
    (path : List Step) (held : Held)
    → IsPath (steps_of inputs.image (stated inputs) entry) (start_of entry) path
    → MeetsFacts (LeadsBy (steps_of inputs.image (stated inputs) entry)) (start_of entry) (stated inputs) path
    → IsAllowed inputs.hardware.cache held
    → path_cycles inputs.image inputs.hardware held path ≤ bound

abbrev pub IsSafe : Setting → List ℕ → ℕ → Type 0
IsSafe inputs name bound = (entry : ℕ) → find_of inputs.image name ≡ Ok entry → IsSafeAt inputs entry bound
