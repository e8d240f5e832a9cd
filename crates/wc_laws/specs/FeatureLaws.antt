-- What is asked of the features of kinds: what they depend on, and what they tell.
use Rattle.std.specs.Prelude.{ℕ, ◌≡◌, List, Some, Ok, Err}
use Rattle.wc_base.specs.declared.faults.Fault.{Fault}
use Rattle.wc_model.specs.declared.flow_system.Solution.{Solution}
use Rattle.wc_model.specs.declared.flow_system.System.{System}
use Rattle.wc_model.specs.declared.values.Outcome.{Outcome}
use Rattle.wc_model.specs.declared.values.Value.{Value}
use Rattle.wc_model.specs.declared.values.Value.TheVariants as value
use Rattle.wc_model.specs.Workspace.Chain.{chain}
use Rattle.wc_model.specs.Workspace.Closures.{closure}
use Rattle.wc_model.specs.Workspace.Edits.{AgreeOnAll, Setting}
use Rattle.wc_model.specs.Workspace.Feature.{IsFeature, outcome_of}
use Rattle.wc_model.specs.Workspace.Kinds.{eleven_kinds}
use Rattle.wc_model.specs.Workspace.Phases.{SolutionOf}

-- Inputs of one binary that agree on all parts of a kind's closure have the same features of that kind.
abbrev pub FeaturesAgree : Type 0
FeaturesAgree =
    (a b : Setting) (name : List ℕ) (kind : ℕ) (v : Value)
    → AgreeOnAll a b (closure eleven_kinds kind) → IsFeature a name kind v → IsFeature b name kind v

-- A feature of the last kind tells an outcome, which is the chain's.
abbrev pub TellsOutcome : Setting → List ℕ → Value → Type 0
TellsOutcome inputs name v = (told : Outcome) × (outcome_of v ≡ Some told) × chain inputs name told

pub record FeatureTells : Type 0 where
  pub tells : (inputs : Setting) (name : List ℕ) (v : Value) → IsFeature inputs name 11 v → TellsOutcome inputs name v
  pub told :
      (inputs : Setting) (name : List ℕ) (v : Value) (told : Outcome)
      → IsFeature inputs name 11 v → outcome_of v ≡ Some told → chain inputs name told
  pub one :
      (inputs : Setting) (name : List ℕ) (v w : Value)
      → IsFeature inputs name 11 v → IsFeature inputs name 11 w → outcome_of v ≡ outcome_of w

-- Each kind but that of solutions has at most one feature. A fault there excludes each other feature, and each solution
-- is one of the system that is the feature of its kind.
pub record HasAtMostOneFeature : Type 0 where
  pub one :
      (inputs : Setting) (name : List ℕ) (kind : ℕ) (v w : Value)
      → (kind ≡ 10 → ⊥) → IsFeature inputs name kind v → IsFeature inputs name kind w → v ≡ w
  pub refused :
      (inputs : Setting) (name : List ℕ) (fault : Fault) (w : Value)
      → IsFeature inputs name 10 (value.Solution (Err fault)) → IsFeature inputs name 10 w
      → value.Solution (Err fault) ≡ w
  pub solves :
      (inputs : Setting) (name : List ℕ) (system : System) (solution : Solution)
      → IsFeature inputs name 9 (value.System (Ok system)) → IsFeature inputs name 10 (value.Solution (Ok solution))
      → SolutionOf system (Ok solution)
