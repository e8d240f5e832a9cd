-- Each kind but that of solutions has at most one value.
use Rattle.std.proofs.Common.{ℕ, ◌≡◌, List, Result, Err, sym, ap, ◌∙◌, arith}
use Rattle.wc_base.specs.declared.faults.Fault.{Fault}
use Rattle.wc_model.specs.declared.flow_system.Solution.{Solution}
use Rattle.wc_model.specs.declared.flow_system.System.{System}
use Rattle.wc_model.specs.declared.graphs.Bounds.{Bounds}
use Rattle.wc_model.specs.declared.graphs.Category.{Category}
use Rattle.wc_model.specs.declared.graphs.Costs.{Costs}
use Rattle.wc_model.specs.declared.graphs.Flags.{Flags}
use Rattle.wc_model.specs.declared.graphs.Graph.{Graph}
use Rattle.wc_model.specs.declared.graphs.LineMap.{LineMap}
use Rattle.wc_model.specs.declared.graphs.Nest.{Nest}
use Rattle.wc_model.specs.declared.values.Value.{Value}
use Rattle.wc_model.specs.declared.values.Value.TheVariants as value
use Rattle.wc_model.specs.Workspace.Edits.{Setting}
use Rattle.wc_model.specs.Workspace.Feature.{IsFeature}
use Rattle.wc_laws.proofs.OneFeatureLemmas.{one_bounds, one_category, one_cost, one_graph, one_lines, one_may, one_must, one_nest, one_system}
use Rattle.wc_laws.proofs.TellingLemmas.{one_bound, one_solution_fault, solution_of}
use Rattle.wc_laws.specs.FeatureLaws.{HasAtMostOneFeature}

-- the kind of a value
abbrev number_of : Value → ℕ
number_of (value.Graph r) = 1
number_of (value.Nest r) = 2
number_of (value.Bounds r) = 3
number_of (value.Lines r) = 4
number_of (value.Must r) = 5
number_of (value.May r) = 6
number_of (value.Category r) = 7
number_of (value.Cost r) = 8
number_of (value.System r) = 9
number_of (value.Solution r) = 10
number_of (value.Bound r) = 11

module _ (inputs : Setting) (name : List ℕ) (kind : ℕ) where
  numbered : (v : Value) → IsFeature inputs name kind v → kind ≡ number_of v
  numbered (value.Graph r) is = is.0
  numbered (value.Nest r) is = is.0
  numbered (value.Bounds r) is = is.0
  numbered (value.Lines r) is = is.0
  numbered (value.Must r) is = is.0
  numbered (value.May r) is = is.0
  numbered (value.Category r) is = is.0
  numbered (value.Cost r) is = is.0
  numbered (value.System r) is = is.0
  numbered (value.Solution r) is = is.0
  numbered (value.Bound r) is = is.0

  one : (v w : Value) → (kind ≡ 10 → ⊥) → number_of v ≡ number_of w → IsFeature inputs name kind v → IsFeature inputs name kind w → v ≡ w
  one (value.Graph r) (value.Graph s) no_solution same is also = ap (λ (x : Result Graph Fault). value.Graph x) (one_graph inputs name r s is.1 also.1)
  one (value.Nest r) (value.Nest s) no_solution same is also = ap (λ (x : Result Nest Fault). value.Nest x) (one_nest inputs name r s is.1 also.1)
  one (value.Bounds r) (value.Bounds s) no_solution same is also = ap (λ (x : Result Bounds Fault). value.Bounds x) (one_bounds inputs name r s is.1 also.1)
  one (value.Lines r) (value.Lines s) no_solution same is also = ap (λ (x : Result LineMap Fault). value.Lines x) (one_lines inputs name r s is.1 also.1)
  one (value.Must r) (value.Must s) no_solution same is also = ap (λ (x : Result Flags Fault). value.Must x) (one_must inputs name r s is.1 also.1)
  one (value.May r) (value.May s) no_solution same is also = ap (λ (x : Result Flags Fault). value.May x) (one_may inputs name r s is.1 also.1)
  one (value.Category r) (value.Category s) no_solution same is also = ap (λ (x : Result (List Category) Fault). value.Category x) (one_category inputs name r s is.1 also.1)
  one (value.Cost r) (value.Cost s) no_solution same is also = ap (λ (x : Result Costs Fault). value.Cost x) (one_cost inputs name r s is.1 also.1)
  one (value.System r) (value.System s) no_solution same is also = ap (λ (x : Result System Fault). value.System x) (one_system inputs name r s is.1 also.1)
  one (value.Solution r) w no_solution same is also = absurd (no_solution is.0)
  one (value.Bound r) (value.Bound s) no_solution same is also = ap (λ (x : Result ℕ Fault). value.Bound x) (one_bound inputs name r s is.1 also.1)
  one v w no_solution same is also = absurd (omega (arith, same))

one_value : (inputs : Setting) (name : List ℕ) (kind : ℕ) (v w : Value) → (kind ≡ 10 → ⊥) → IsFeature inputs name kind v → IsFeature inputs name kind w → v ≡ w
one_value inputs name kind v w no_solution is also =
    one inputs name kind v w no_solution (sym (numbered inputs name kind v is) ∙ numbered inputs name kind w also) is also

refused : (inputs : Setting) (name : List ℕ) (fault : Fault) (w : Value) → number_of w ≡ 10
    → IsFeature inputs name 10 (value.Solution (Err fault)) → IsFeature inputs name 10 w → value.Solution (Err fault) ≡ w
refused inputs name fault (value.Solution r) same is also =
    ap (λ (x : Result Solution Fault). value.Solution x) (one_solution_fault inputs name fault r is.1 also.1)
refused inputs name fault w same is also = absurd (omega (arith, same))

pub one_feature : HasAtMostOneFeature
one_feature =
    record {
      one = one_value;
      refused = λ inputs name fault w is also. refused inputs name fault w (sym (numbered inputs name 10 w also)) is also;
      solves = λ inputs name system solution is of. solution_of inputs name system solution is.1 of.1;
    }
