-- The law of the chain as a whole.
use Rattle.std.specs.Prelude.{ℕ, List, Ok}
use Rattle.wc_model.specs.Workspace.Chain.{ChainResult, IsSafe}
use Rattle.wc_model.specs.Workspace.Edits.{Setting}

-- each bound is at least the cycles of every path from the function's start to its exit that meets the facts, from every
-- state of the cache that the hardware allows
abbrev pub ChainIsSafe : Type 0
ChainIsSafe = (inputs : Setting) (name : List ℕ) (bound : ℕ) → ChainResult inputs name (Ok bound) → IsSafe inputs name bound
