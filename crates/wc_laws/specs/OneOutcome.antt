-- The chain has at most one outcome, so that what a fresh sequential chain gives is one value.
use Rattle.std.specs.Prelude.{ℕ, ◌≡◌, List}
use Rattle.wc_model.specs.declared.values.Outcome.{Outcome}
use Rattle.wc_model.specs.Workspace.Chain.{chain}
use Rattle.wc_model.specs.Workspace.Edits.{Setting}

abbrev pub HasAtMostOneOutcome : Type 0
HasAtMostOneOutcome = (inputs : Setting) (name : List ℕ) (a b : Outcome) → chain inputs name a → chain inputs name b → a ≡ b
