-- The order of all nodes by the steps ahead.
use Rattle.std.specs.Prelude.{ℕ, ◌≡◌, ◌<◌, Bool, true, false, List, [], ◌∷◌, slice_get, None, Some}
use Rattle.wc_model.specs.declared.flow_system.System.{System}
use Rattle.wc_model.specs.declared.flow_system.SystemStep.{SystemStep}
use Rattle.wc_model.specs.declared.graphs.Nest.{Nest}
use Rattle.wc_nestsolve.specs.Inner.Tables.{IsDownward}

-- the steps, of which those that are marked lead nowhere
abbrev pub loose : Bool → SystemStep → SystemStep
loose true t = record t { target = None }
loose false t = t

abbrev pub loosened : List Bool → List SystemStep → List SystemStep
loosened marks [] = []
loosened [] (t ∷ steps) = t ∷ loosened [] steps
loosened (m ∷ marks) (t ∷ steps) = loose m t ∷ loosened marks steps

pub record IsDownOrder (s : System) (nest : Nest) (order : List ℕ) : Type 0 where
  pub down : IsDownward s nest order
  pub known : (i p : ℕ) → slice_get order i ≡ Some p → p < s.nodes
  pub all : (p : ℕ) → p < s.nodes → (i : ℕ) × (slice_get order i ≡ Some p)
