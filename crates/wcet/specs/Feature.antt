-- What a bound has to be for inputs and a name, while it is the one feature. After the features of OTAWA 2010.
use Rattle.std.specs.Prelude.{ℕ, ◌≡◌, List, Result, Ok, Err}
use Rattle.wc_base.specs.declared.faults.Fault.{Fault}
use Rattle.wc_model.specs.declared.values.Outcome.{Outcome}
use Rattle.wc_model.specs.declared.values.Outcome.TheVariants as outcome
use Rattle.wc_model.specs.Workspace.Edits.{Setting}
use Rattle.wc_model.specs.Workspace.History.{bound_kind}
use Rattle.wc_model.specs.Workspace.Chain.{chain}

-- the outcome that a bound tells, or the reason why there is none
abbrev pub outcome_of : Result ℕ Fault → Outcome
outcome_of (Ok bound) = outcome.Bound bound
outcome_of (Err fault) = outcome.Fault fault

-- a bound is the feature of its kind where it is the chain's outcome; the other kinds have no features yet
abbrev pub IsFeature : ℕ → Setting → List ℕ → Result ℕ Fault → Type 0
IsFeature kind inputs name bound = (kind ≡ bound_kind) × chain inputs name (outcome_of bound)
