-- The calls that are open in a context.
use Rattle.std.specs.Prelude.{ℕ, ◌≡◌, ◌<◌, ◌==◌, ◌+◌, ◌%◌, ◌^◌, if◌then◌else◌, false, List, ◌∷◌, Option, None, Some, IfSome, length, slice_get}
use Rattle.wc_model.specs.declared.graphs.Context.{Context}
use Rattle.wc_model.specs.declared.graphs.Node.{Node}
use Rattle.wc_model.specs.Flow.Bounds.{calls_fit}
use Rattle.wc_model.specs.Flow.Systems.{calls_from}
use Rattle.wc_model.specs.Program.Positions.{Call, Position}

-- parents stand before their contexts
abbrev pub AreContexts : List Context → Type 0
AreContexts contexts = (k : ℕ) (c : Context) → slice_get contexts k ≡ Some c → IfSome c.parent (λ j. j < k)

abbrev pub calls_in : List Context → ℕ → List Call
calls_in contexts k = calls_from contexts (length contexts) k

abbrev pub position_in : List Context → Node → Position
position_in contexts node = record { calls = calls_in contexts node.context; pc = node.pc }

-- the context below the innermost call, where that is the call of an instruction
abbrev pub IsBelow : List Context → ℕ → ℕ → Option ℕ → Type 0
IsBelow contexts k at None = (ats : List ℕ) → calls_fit (at ∷ ats) (calls_in contexts k) ≡ false
IsBelow contexts k at (Some j) = (j < length contexts) × ((ats : List ℕ) → calls_fit (at ∷ ats) (calls_in contexts k) ≡ calls_fit ats (calls_in contexts j))

abbrev pub below_call : Context → ℕ → Option ℕ
below_call c at = if c.returns == (at + 4) % 2 ^ 32 then c.parent else None
