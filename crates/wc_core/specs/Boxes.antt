-- What a work in a box gives: the feature of its kind, by the definitions of the eleven kinds; and its two laws.
use Rattle.std.proofs.Common.{ℕ, List, Ok, Option, Some, sym, subst}
use Rattle.wc_model.specs.declared.values.Outcome.{Outcome}
use Rattle.wc_model.specs.declared.values.Outcome.TheVariants as outcome
use Rattle.wc_model.specs.declared.values.Value.{Value}
use Rattle.wc_model.specs.declared.values.Value.TheVariants as value
use Rattle.wc_model.specs.Flow.Systems.{IsSystem}
use Rattle.wc_model.specs.Program.Graphs.{IsGraph}
use Rattle.wc_model.specs.Workspace.Chain.{chain}
use Rattle.wc_model.specs.Workspace.Closures.{closure}
use Rattle.wc_model.specs.Workspace.Edits.{AgreeOnAll, Setting}
use Rattle.wc_model.specs.Workspace.Feature.{IsFeature, outcome_of}
use Rattle.wc_model.specs.Workspace.Kinds.{eleven_kinds}
use Rattle.wc_laws.proofs.FeaturesAgreeLemmas.{features_agree}
use Rattle.wc_laws.proofs.FeatureTellsLemmas.{feature_tells}
use Rattle.wc_core.specs.Features.{Tells}

-- What later phases need of a graph and of a system in numbers alone: steps are counted in 32 bits.
abbrev pub HasNumbers : Value → Type 0
HasNumbers (value.Graph (Ok graph)) = IsGraph graph
HasNumbers (value.System (Ok system)) = IsSystem system
HasNumbers _ = Unit {0}

abbrev pub IsUsable : ℕ → Setting → List ℕ → Value → Type 0
IsUsable kind inputs name v = IsFeature inputs name kind v × HasNumbers v

-- inputs of one binary that agree on a kind's closure have the same features of the kind
pub stable : (k : ℕ) (a b : Setting) (name : List ℕ) (v : Value) → AgreeOnAll a b (closure eleven_kinds k) → IsUsable k a name v → IsUsable k b name v
stable k a b name v agree is = (features_agree a b name k v agree is.0, is.1)

-- the last kind tells the chain's outcome
tells_outcome : (inputs : Setting) (name : List ℕ) (told : Outcome) → chain inputs name told → Tells (chain inputs name) (Some told)
tells_outcome inputs name (outcome.Bound bound) is = is
tells_outcome inputs name (outcome.Fault fault) is = is
tells_outcome inputs name outcome.Memory is = is

pub tells : (inputs : Setting) (name : List ℕ) (v : Value) → IsUsable 11 inputs name v → Tells (chain inputs name) (outcome_of v)
tells inputs name v is =
    let told = feature_tells.tells inputs name v is.0 in
    subst (λ (o : Option Outcome). Tells (chain inputs name) o) (sym told.1) (tells_outcome inputs name told.0 told.2)
