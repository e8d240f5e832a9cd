-- What the values are that a run was given.
use Rattle.std.proofs.Common.{ℕ, ◌≡◌, List, Option, None, Some, Result, Ok, Err, refl, sym, subst, arith}
use Rattle.std.specs.Global.{Global}
use Rattle.std.specs.List.{Contains}
use Rattle.std.specs.declared.sync.Arc.{Arc}
use Rattle.wc_base.specs.declared.faults.Fault.{Fault}
use Rattle.wc_core.specs.declared.work.Job.{Job}
use Rattle.wc_core.specs.Boxes.{HasNumbers, IsUsable}
use Rattle.wc_core.specs.Features.{HasFeature, value_at}
use Rattle.wc_model.specs.declared.flow_system.Solution.{Solution}
use Rattle.wc_model.specs.declared.flow_system.System.{System}
use Rattle.wc_model.specs.declared.graphs.Bounds.{Bounds}
use Rattle.wc_model.specs.declared.graphs.Category.{Category}
use Rattle.wc_model.specs.declared.graphs.Costs.{Costs}
use Rattle.wc_model.specs.declared.graphs.Flags.{Flags}
use Rattle.wc_model.specs.declared.graphs.Graph.{Graph}
use Rattle.wc_model.specs.declared.graphs.LineMap.{LineMap}
use Rattle.wc_model.specs.declared.graphs.Nest.{Nest}
use Rattle.wc_model.specs.declared.values.Value.{Value}
use Rattle.wc_model.specs.declared.values.Value.TheVariants as value
use Rattle.wc_model.specs.Flow.Systems.{IsSystem}
use Rattle.wc_model.specs.Program.Graphs.{IsGraph}
use Rattle.wc_model.specs.Workspace.Closures.{requires_of}
use Rattle.wc_model.specs.Workspace.Edits.{Setting, setting_of}
use Rattle.wc_model.specs.Workspace.Feature.{BoundsFeature, CategoryFeature, CostFeature, GraphFeature, LinesFeature, MayFeature, MustFeature, NestFeature, SolutionFeature, SystemFeature}
use Rattle.wc_model.specs.Workspace.Kinds.{eleven_kinds}
use Rattle.wc_laws.proofs.OneFeatureLemmas.{one_graph, one_system}
use Rattle.wc_works.specs.Required.{IsGiven, IsThere, number_of}

numbered : (inputs : Setting) (name : List ℕ) (kind : ℕ) (v : Value) → IsUsable kind inputs name v → number_of v ≡ kind
numbered inputs name kind (value.Graph r) is = sym is.0.0
numbered inputs name kind (value.Nest r) is = sym is.0.0
numbered inputs name kind (value.Bounds r) is = sym is.0.0
numbered inputs name kind (value.Lines r) is = sym is.0.0
numbered inputs name kind (value.Must r) is = sym is.0.0
numbered inputs name kind (value.May r) is = sym is.0.0
numbered inputs name kind (value.Category r) is = sym is.0.0
numbered inputs name kind (value.Cost r) is = sym is.0.0
numbered inputs name kind (value.System r) is = sym is.0.0
numbered inputs name kind (value.Solution r) is = sym is.0.0
numbered inputs name kind (value.Bound r) is = sym is.0.0

-- A value of a kind is its variant.
pub no_other_graph : (v : Value) → number_of v ≡ 1 → ((r : Result Graph Fault) → v ≡ value.Graph r → ⊥) → ⊥
no_other_graph (value.Graph r) is other = other r refl
no_other_graph v is other = omega (arith, is)

pub no_other_nest : (v : Value) → number_of v ≡ 2 → ((r : Result Nest Fault) → v ≡ value.Nest r → ⊥) → ⊥
no_other_nest (value.Nest r) is other = other r refl
no_other_nest v is other = omega (arith, is)

pub no_other_bounds : (v : Value) → number_of v ≡ 3 → ((r : Result Bounds Fault) → v ≡ value.Bounds r → ⊥) → ⊥
no_other_bounds (value.Bounds r) is other = other r refl
no_other_bounds v is other = omega (arith, is)

pub no_other_lines : (v : Value) → number_of v ≡ 4 → ((r : Result LineMap Fault) → v ≡ value.Lines r → ⊥) → ⊥
no_other_lines (value.Lines r) is other = other r refl
no_other_lines v is other = omega (arith, is)

pub no_other_must : (v : Value) → number_of v ≡ 5 → ((r : Result Flags Fault) → v ≡ value.Must r → ⊥) → ⊥
no_other_must (value.Must r) is other = other r refl
no_other_must v is other = omega (arith, is)

pub no_other_may : (v : Value) → number_of v ≡ 6 → ((r : Result Flags Fault) → v ≡ value.May r → ⊥) → ⊥
no_other_may (value.May r) is other = other r refl
no_other_may v is other = omega (arith, is)

pub no_other_category : (v : Value) → number_of v ≡ 7 → ((r : Result (List Category) Fault) → v ≡ value.Category r → ⊥) → ⊥
no_other_category (value.Category r) is other = other r refl
no_other_category v is other = omega (arith, is)

pub no_other_cost : (v : Value) → number_of v ≡ 8 → ((r : Result Costs Fault) → v ≡ value.Cost r → ⊥) → ⊥
no_other_cost (value.Cost r) is other = other r refl
no_other_cost v is other = omega (arith, is)

pub no_other_system : (v : Value) → number_of v ≡ 9 → ((r : Result System Fault) → v ≡ value.System r → ⊥) → ⊥
no_other_system (value.System r) is other = other r refl
no_other_system v is other = omega (arith, is)

pub no_other_solution : (v : Value) → number_of v ≡ 10 → ((r : Result Solution Fault) → v ≡ value.Solution r → ⊥) → ⊥
no_other_solution (value.Solution r) is other = other r refl
no_other_solution v is other = omega (arith, is)

module _ (job : Job) (had : List (Option (Arc Value Global))) (kind : ℕ) (given : IsGiven job had kind) where
  abbrev inputs : Setting
  inputs = setting_of job.inputs.value

  abbrev name : List ℕ
  name = job.name.value

  abbrev Requires : ℕ → Type 0
  Requires k = Contains (requires_of eleven_kinds kind) k

  pub there : (k : ℕ) → Requires k → IsThere had k
  there k among = by (value_at k had) (given k among)
    where
      by : (o : Option Value) → HasFeature (λ v. IsUsable k inputs name v) o → HasFeature (λ v. number_of v ≡ k) o
      by None none = none
      by (Some v) is = numbered inputs name k v is

  pub usable : (k : ℕ) (v : Value) → Requires k → value_at k had ≡ Some v → IsUsable k inputs name v
  usable k v among same = subst (HasFeature (λ w. IsUsable k inputs name w)) same (given k among)

  pub the_graph : (r : Result Graph Fault) → Requires 1 → value_at 1 had ≡ Some (value.Graph r) → GraphFeature inputs name r
  the_graph r among same = (usable 1 (value.Graph r) among same).0.1

  pub the_nest : (r : Result Nest Fault) → Requires 2 → value_at 2 had ≡ Some (value.Nest r) → NestFeature inputs name r
  the_nest r among same = (usable 2 (value.Nest r) among same).0.1

  pub the_bounds : (r : Result Bounds Fault) → Requires 3 → value_at 3 had ≡ Some (value.Bounds r) → BoundsFeature inputs name r
  the_bounds r among same = (usable 3 (value.Bounds r) among same).0.1

  pub the_lines : (r : Result LineMap Fault) → Requires 4 → value_at 4 had ≡ Some (value.Lines r) → LinesFeature inputs name r
  the_lines r among same = (usable 4 (value.Lines r) among same).0.1

  pub the_must : (r : Result Flags Fault) → Requires 5 → value_at 5 had ≡ Some (value.Must r) → MustFeature inputs name r
  the_must r among same = (usable 5 (value.Must r) among same).0.1

  pub the_may : (r : Result Flags Fault) → Requires 6 → value_at 6 had ≡ Some (value.May r) → MayFeature inputs name r
  the_may r among same = (usable 6 (value.May r) among same).0.1

  pub the_category : (r : Result (List Category) Fault) → Requires 7 → value_at 7 had ≡ Some (value.Category r) → CategoryFeature inputs name r
  the_category r among same = (usable 7 (value.Category r) among same).0.1

  pub the_cost : (r : Result Costs Fault) → Requires 8 → value_at 8 had ≡ Some (value.Cost r) → CostFeature inputs name r
  the_cost r among same = (usable 8 (value.Cost r) among same).0.1

  pub the_system : (r : Result System Fault) → Requires 9 → value_at 9 had ≡ Some (value.System r) → SystemFeature inputs name r
  the_system r among same = (usable 9 (value.System r) among same).0.1

  pub the_solution : (r : Result Solution Fault) → Requires 10 → value_at 10 had ≡ Some (value.Solution r) → SolutionFeature inputs name r
  the_solution r among same = (usable 10 (value.Solution r) among same).0.1

  -- The graph and the system of the name have their numbers, since each has one feature at most.
  pub graph_known : Requires 1 → (graph : Graph) → GraphFeature inputs name (Ok graph) → IsGraph graph
  graph_known among graph is = by (value_at 1 had) (given 1 among)
    where
      of : (v : Value) → number_of v ≡ 1 → IsUsable 1 inputs name v → IsGraph graph
      of (value.Graph r) same has = subst (λ (x : Result Graph Fault). HasNumbers (value.Graph x)) (one_graph inputs name r (Ok graph) has.0.1 is) has.1
      of v same has = absurd (omega (arith, same))

      by : (o : Option Value) → HasFeature (λ v. IsUsable 1 inputs name v) o → IsGraph graph
      by None none = absurd none
      by (Some v) has = of v (numbered inputs name 1 v has) has

  pub system_known : Requires 9 → (system : System) → SystemFeature inputs name (Ok system) → IsSystem system
  system_known among system is = by (value_at 9 had) (given 9 among)
    where
      of : (v : Value) → number_of v ≡ 9 → IsUsable 9 inputs name v → IsSystem system
      of (value.System r) same has = subst (λ (x : Result System Fault). HasNumbers (value.System x)) (one_system inputs name r (Ok system) has.0.1 is) has.1
      of v same has = absurd (omega (arith, same))

      by : (o : Option Value) → HasFeature (λ v. IsUsable 9 inputs name v) o → IsSystem system
      by None none = absurd none
      by (Some v) has = of v (numbered inputs name 9 v has) has
