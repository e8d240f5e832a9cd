-- The chain from what its phases answer, and what a bound of it says.
use Rattle.std.proofs.Common.{ℕ, ◌≡◌, ◌==◌, true, false, List, [], ◌∷◌, length, Result, Ok, Err, IsErrAnd, refl, sym, ap, subst, ◌∙◌, arith}
use Rattle.std.proofs.lemmas.Bool.{eqb-true}
use Rattle.std.proofs.lemmas.List.{length-map}
use Rattle.std.proofs.lemmas.Slice.Zip.{AllZip-long}
use Rattle.wc_base.specs.declared.faults.Fault.{Fault}
use Rattle.wc_base.specs.declared.troubles.Trouble.{Trouble}
use Rattle.wc_base.specs.declared.troubles.Trouble.TheVariants.{Fault as Refused, Memory}
use Rattle.wc_base.specs.Troubles.{IfFault}
use Rattle.wc_graph.specs.Builds.{Builds}
use Rattle.wc_model.specs.declared.flow_facts.Fact.{Fact}
use Rattle.wc_model.specs.declared.flow_system.Solution.{Solution}
use Rattle.wc_model.specs.declared.flow_system.System.{System}
use Rattle.wc_model.specs.declared.flow_system.SystemLimit.{SystemLimit}
use Rattle.wc_model.specs.declared.graphs.Bounds.{Bounds}
use Rattle.wc_model.specs.declared.graphs.Costs.{Costs}
use Rattle.wc_model.specs.declared.graphs.Graph.{Graph}
use Rattle.wc_model.specs.declared.graphs.Nest.{Nest}
use Rattle.wc_model.specs.declared.values.Outcome.{Outcome}
use Rattle.wc_model.specs.declared.values.Outcome.TheVariants.{Bound, Fault as RefusedBy, Memory as NoMemory}
use Rattle.wc_model.specs.Cache.Costs.{AreCosts, upper}
use Rattle.wc_model.specs.Flow.Bounds.{AreBounds, IsBoundsFault}
use Rattle.wc_model.specs.Flow.Certificates.{IsBound, SolutionHolds}
use Rattle.wc_model.specs.Flow.Nest.{IsNest, IsNestFault}
use Rattle.wc_model.specs.Program.Graphs.{IsGraphOf}
use Rattle.wc_model.specs.Program.Words.{find_of}
use Rattle.wc_model.specs.Workspace.Edits.{Setting}
use Rattle.wc_model.specs.Workspace.Phases.{After, BoundOf, BoundsOf, GraphOf, IsSystemResult, NestOf, SolutionOf, SystemOf, fine, limited, stated, stopped, went_on, whole}
use Rattle.wc_nestsolve.specs.Given.{IsSystemIn}
use Rattle.wc_system.specs.Answers.{Answers}
use Rattle.wcet.specs.Chained.{Chained, covers}
use Rattle.wc_model.specs.Workspace.Chain.{ChainResult, chain}
use Rattle.wc_laws.proofs.SafeLemmas.{chain_is_safe}

-- One phase after another.

module _ {A B : Type 0} (First : Result A Fault → Type 0) (Second : A → Result B Fault → Type 0) where
  -- the first phase refuses
  pub stops : (trouble : Trouble) → Answers First (Err trouble) → Answers (After First Second) (Err trouble)
  stops (Refused fault) is = stopped fault is
  stops (Memory error) is = tt

  -- the first phase gives what the second one goes on from
  pub goes_on : (a : A) (result : Result B Trouble) → First (Ok a) → Answers (Second a) result → Answers (After First Second) result
  goes_on a (Ok b) first second = went_on a (Ok b) first second
  goes_on a (Err (Refused fault)) first second = went_on a (Err fault) first second
  goes_on a (Err (Memory error)) first second = tt

-- a refusal, where the fault has a clause of its own
refuses : {A : Type 0} (Is : Result A Fault → Type 0) (trouble : Trouble) → IfFault {T = A} (Err trouble) (λ fault. Is (Err fault)) → Answers Is (Err trouble)
refuses Is (Refused fault) is = is
refuses Is (Memory error) is = tt

pub system_result : (inputs : Setting) (graph : Graph) (nest : Nest) (bounds : Bounds) (costs : Costs) (system : System) → SystemOf inputs graph nest bounds costs (Ok system) → IsSystemResult inputs graph nest bounds costs system
system_result inputs graph nest bounds costs system (fine _ is) = is

pub bounds_counted : (graph : Graph) (nest : Nest) (facts : List Fact) (bounds : Bounds) → AreBounds graph nest facts bounds.of → length bounds.of ≡ length nest.heads
bounds_counted graph nest facts bounds are = AllZip-long _ nest.heads bounds.of are

-- a trouble that is passed on
pub passed_on : (inputs : Setting) (name : List ℕ) (result : Result ℕ Trouble) (trouble : Trouble) → IsErrAnd result (λ other. other ≡ trouble) → Chained inputs name (Err trouble) → Chained inputs name result
passed_on inputs name (Ok bound) trouble is ends = absurd is
passed_on inputs name (Err other) trouble is ends = subst (λ (t : Trouble). Chained inputs name (Err t)) (sym is) ends

-- the fault of a refusal
pub refused_by : (inputs : Setting) (name : List ℕ) (result : Result ℕ Trouble) (trouble : Trouble) (fault : Fault) → result ≡ Err trouble → trouble ≡ Refused fault → Chained inputs name result → ChainResult inputs name (Err fault)
refused_by inputs name result trouble fault is refused ends = subst (λ (r : Result ℕ Trouble). Chained inputs name r) (is ∙ ap Err refused) ends

-- Whether limits are stated.

pub no_items : (limits items : List SystemLimit) → items ≡ limits → true ≡ (length items == 0) → limits ≡ []
no_items limits [] same is = sym same
no_items limits (x ∷ items) same is = absurd (omega (arith, eqb-true (length (x ∷ items)) 0 (sym is)))

pub some_items : (limits items : List SystemLimit) → items ≡ limits → false ≡ (length items == 0) → limits ≡ [] → ⊥
some_items limits [] same is none = let wrong : false ≡ true = is in absurd (cc)
some_items limits (x ∷ items) same is none = let wrong : x ∷ items ≡ [] = same ∙ none in absurd (cc)

pub solution_holds : (system : System) (solution : Solution) → SolutionOf system (Ok solution) → SolutionHolds system solution
solution_holds system solution (whole _ none holds is) = holds
solution_holds system solution (limited _ found some is holds) = holds

-- Where the chain ends, by what the phases up to there gave.
module _ (inputs : Setting) (name : List ℕ) where
  pub no_function : (fault : Fault) → find_of inputs.image name ≡ Err fault → Chained inputs name (Err (Refused fault))
  no_function fault is = stopped fault (stopped fault is)

  pub no_graph : (entry : ℕ) (trouble : Trouble) → find_of inputs.image name ≡ Ok entry → Builds inputs.image (stated inputs) entry (Err trouble) → Chained inputs name (Err trouble)
  no_graph entry (Refused fault) found is = stopped fault (went_on entry (Err fault) found is)
  no_graph entry (Memory error) found is = tt

  module _ (entry : ℕ) (graph : Graph) (found : find_of inputs.image name ≡ Ok entry) (graph_is : IsGraphOf inputs.image (stated inputs) entry graph) where
    has_graph : GraphOf inputs name (Ok graph)
    has_graph = went_on entry (Ok graph) found graph_is

    pub no_nest : (trouble : Trouble) → IfFault {T = Nest} (Err trouble) (IsNestFault graph) → Chained inputs name (Err trouble)
    no_nest trouble is = goes_on _ _ graph (Err trouble) has_graph (stops (NestOf graph) _ trouble (refuses (NestOf graph) trouble is))

    module _ (nest : Nest) (nest_is : IsNest graph nest) where
      pub no_bounds : (trouble : Trouble) → IfFault {T = Bounds} (Err trouble) (IsBoundsFault graph nest (stated inputs)) → Chained inputs name (Err trouble)
      no_bounds trouble is =
          goes_on _ _ graph (Err trouble) has_graph (goes_on _ _ nest (Err trouble) nest_is
          (stops (BoundsOf inputs graph nest) _ trouble (refuses (BoundsOf inputs graph nest) trouble is)))

      module _ (bounds : Bounds) (are : AreBounds graph nest (stated inputs) bounds.of) (costs : Costs) (costs_are : AreCosts graph inputs.hardware costs) where
        pub no_system : (trouble : Trouble) → Answers (SystemOf inputs graph nest bounds costs) (Err trouble) → Chained inputs name (Err trouble)
        no_system trouble is =
            goes_on _ _ graph (Err trouble) has_graph (goes_on _ _ nest (Err trouble) nest_is (goes_on _ _ bounds (Err trouble) are
            (goes_on _ _ costs (Err trouble) costs_are (stops (SystemOf inputs graph nest bounds costs) _ trouble is))))

        module _ (system : System) (is : SystemOf inputs graph nest bounds costs (Ok system)) where
          pub system_in : IsSystemIn graph nest system
          system_in = record {
            bounds = bounds;
            costs = costs;
            facts = inputs.facts;
            bounds_counted = bounds_counted graph nest (stated inputs) bounds are;
            costs_counted = ap length costs_are.2 ∙ length-map graph.steps (upper graph costs_are.0 inputs.hardware.cycles);
            system_is = (system_result inputs graph nest bounds costs system is).system_is;
          }

          solved : (result : Result ℕ Trouble) → Answers (After (SolutionOf system) (λ solution. BoundOf system)) result → Chained inputs name result
          solved result ends =
              goes_on _ _ graph result has_graph (goes_on _ _ nest result nest_is (goes_on _ _ bounds result are
              (goes_on _ _ costs result costs_are (goes_on _ _ system result is ends))))

          pub no_solution : (trouble : Trouble) → Answers (SolutionOf system) (Err trouble) → Chained inputs name (Err trouble)
          no_solution trouble none = solved (Err trouble) (stops (SolutionOf system) _ trouble none)

          pub has_bound : (solution : Solution) (bound : ℕ) → SolutionOf system (Ok solution) → IsBound system bound → Chained inputs name (Ok bound)
          has_bound solution bound some bounded = solved (Ok bound) (went_on solution (Ok bound) some bounded)

-- A bound is at least the cycles of every path.
pub chain_covers : (inputs : Setting) (name : List ℕ) (outcome : Outcome) → chain inputs name outcome → covers inputs name outcome
chain_covers inputs name (Bound bound) is = chain_is_safe inputs name bound is
chain_covers inputs name (RefusedBy fault) is = tt
chain_covers inputs name NoMemory is = tt
