-- A system of a graph and its nest is one that the row machine solves.
use Rattle.std.proofs.Common.{ℕ, ◌≡◌, ◌<◌, ◌≤◌, ◌^◌, ◌==◌, true, false, ⊎_elim, List, [], ◌∷◌, length, Result, Ok, Err, sym, subst, ◌∙◌, arith}
use Rattle.std.proofs.lemmas.Bool.{cases_lt, eqb-true}
use Rattle.wc_base.specs.declared.faults.Fault.TheVariants.{NumberLimit as Limit, PivotLimit as Pivots, NoPath as Infeasible}
use Rattle.wc_model.specs.declared.flow_system.Solution.{Solution}
use Rattle.wc_model.specs.declared.flow_system.System.{System}
use Rattle.wc_model.specs.declared.flow_system.SystemLimit.{SystemLimit}
use Rattle.wc_model.specs.declared.graphs.Graph.{Graph}
use Rattle.wc_model.specs.declared.graphs.Nest.{Nest}
use Rattle.wc_model.specs.Flow.Ceiling.{ceiling_of}
use Rattle.wc_model.specs.Flow.Cells.{cells_of}
use Rattle.wc_model.specs.Flow.Certificates.{SolutionHolds}
use Rattle.wc_model.specs.Flow.Nest.{IsNest}
use Rattle.wc_model.specs.Flow.RowResults.{IsRowOutcome, no_path, number_limit, pivot_limit, solved}
use Rattle.wc_model.specs.Flow.Systems.{IsSystem}
use Rattle.wc_model.specs.Program.Graphs.{IsGraph}
use Rattle.wc_model.specs.Workspace.Phases.{IsTooBig, SolutionOf, infeasible, limited, refused, too_many, too_wide}
use Rattle.wc_nestsolve.specs.Given.{IsSystemIn}
use Rattle.wc_nestsolve.proofs.ExistingLemmas.{prices_exist}
use Rattle.wc_nestsolve.proofs.SolvableLemmas.{solvable_from}
use Rattle.wc_simplex.specs.Outcomes.{IsAnswer}
use Rattle.wc_simplex.specs.declared.fault.SolveFault.{SolveFault}
use Rattle.wc_simplex.specs.declared.fault.SolveFault.TheVariants.{NumberLimit, PivotLimit, NoPath, Memory}
use Rattle.wc_works.specs.Solving.{IsSolvable}

-- the fault that a refusal of the row machine is
abbrev RefusesBy : System → SolveFault → Type 0
RefusesBy s NumberLimit = SolutionOf s (Err Limit)
RefusesBy s PivotLimit = SolutionOf s (Err Pivots)
RefusesBy s (NoPath ray) = SolutionOf s (Err Infeasible)
RefusesBy s (Memory error) = Unit {0}

few_cells : (s : System) → (s.limits ≡ [] → ⊥) → (IsTooBig s → ⊥) → cells_of s ≤ 250000
few_cells s some fits = ⊎_elim (λ (more : 250000 < cells_of s). absurd (fits (some, more))) (λ (few : cells_of s ≤ 250000). few) (cases_lt 250000 (cells_of s))

pub solvable : (graph : Graph) (nest : Nest) (s : System) → IsGraph graph → IsNest graph nest → IsSystemIn graph nest s → IsSystem s → ceiling_of nest s < 2 ^ 100 → (IsTooBig s → ⊥) → (s.limits ≡ [] → ⊥) → IsSolvable s
solvable graph nest s is_graph is_nest given sound below fits some =
    let of = solvable_from graph nest s is_graph is_nest given sound below in
    let priced = prices_exist nest s of in
    record {
      sound = sound;
      few = few_cells s some fits;
      live = λ p known. (of.reached p known, of.ending p known);
      prices = priced.0;
      priced = priced.1;
    }

-- Whether limits are stated.

pub no_items : (limits items : List SystemLimit) → items ≡ limits → true ≡ (length items == 0) → limits ≡ []
no_items limits [] same is = sym same
no_items limits (x ∷ items) same is = absurd (omega (arith, eqb-true (length (x ∷ items)) 0 (sym is)))

pub some_items : (limits items : List SystemLimit) → items ≡ limits → false ≡ (length items == 0) → limits ≡ [] → ⊥
some_items limits [] same is none = let wrong : false ≡ true = is in absurd (cc)
some_items limits (x ∷ items) same is none = let wrong : x ∷ items ≡ [] = same ∙ none in absurd (cc)

-- What the row machine answers.

pub row_solution : (s : System) (c : Solution) → (s.limits ≡ [] → ⊥) → IsRowOutcome s (solved c) → SolutionHolds s c → SolutionOf s (Ok c)
row_solution s c some is holds = limited c c some is holds

-- a refusal, where the fault is known by the variant
pub row_refusal : (s : System) (result : Result Solution SolveFault) (fault : SolveFault) → (s.limits ≡ [] → ⊥) → result ≡ Err fault → IsAnswer s result → RefusesBy s fault
row_refusal s result fault some is answer = by fault (subst (IsAnswer s) is answer)
  where
    by : (f : SolveFault) → IsAnswer s (Err f) → RefusesBy s f
    by NumberLimit outcome = refused number_limit Limit some outcome too_wide
    by PivotLimit outcome = refused pivot_limit Pivots some outcome too_many
    by (NoPath ray) outcome = refused (no_path ray) Infeasible some outcome infeasible
    by (Memory error) outcome = tt
