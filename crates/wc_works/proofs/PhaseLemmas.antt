-- What the phases answer, by their definitions.
use Rattle.std.proofs.Common.{ℕ, ◌≡◌, ◌==◌, ◌&&◌, ◌||◌, Bool, true, false, List, [], ◌∷◌, map, length, Option, None, Some, Result, Ok, Err, IfOk, refl, sym, ap, subst, ◌∙◌, arith}
use Rattle.std.specs.Prelude.{MatchResult}
use Rattle.std.specs.List.{zip}
use Rattle.std.specs.declared.alloc.AllocError.{AllocError}
use Rattle.std.proofs.lemmas.List.{length-map, length-replicate}
use Rattle.std.proofs.lemmas.Bool.{eq-eqb}
use Rattle.std.proofs.lemmas.Slice.Zip.{length-zip}
use Rattle.wc_base.specs.declared.troubles.Trouble.{Trouble}
use Rattle.wc_base.specs.declared.troubles.Trouble.TheVariants.{Fault as Refused, Memory}
use Rattle.wc_base.specs.Troubles.{IfFault}
use Rattle.wc_graph.specs.Builds.{Builds}
use Rattle.wc_model.specs.declared.graphs.Bounds.{Bounds}
use Rattle.wc_model.specs.declared.graphs.Category.{Category}
use Rattle.wc_model.specs.declared.graphs.Category.TheVariants.{NoCache}
use Rattle.wc_model.specs.declared.graphs.Flags.{Flags}
use Rattle.wc_model.specs.declared.graphs.Graph.{Graph}
use Rattle.wc_model.specs.declared.graphs.Nest.{Nest}
use Rattle.wc_model.specs.declared.machine.Cache.{Cache}
use Rattle.wc_model.specs.declared.machine.StartState.{StartState}
use Rattle.wc_model.specs.declared.machine.StartState.TheVariants.{Empty, Any}
use Rattle.wc_model.specs.Cache.Ages.{AreMayFlags, AreMayFlagsFrom, AreMustFlags}
use Rattle.wc_model.specs.Cache.Categories.{AreCategories, are_flags_for, categories_of, category_of}
use Rattle.wc_model.specs.Flow.Bounds.{AreBounds, IsBoundsFault}
use Rattle.wc_model.specs.Flow.Nest.{IsNest, IsNestFault}
use Rattle.wc_model.specs.Workspace.Edits.{Setting}
use Rattle.wc_model.specs.Workspace.Feature.{Always}
use Rattle.wc_model.specs.Workspace.Phases.{BoundsOf, GraphOf, NestOf, stated, went_on}
use Rattle.wc_model.specs.Program.Words.{find_of}
use Rattle.wc_system.specs.Answers.{Answers}

pub graph_answers : (inputs : Setting) (name : List ℕ) (entry : ℕ) (r : Result Graph Trouble) → find_of inputs.image name ≡ Ok entry → Builds inputs.image (stated inputs) entry r → Answers (GraphOf inputs name) r
graph_answers inputs name entry (Ok graph) found is = went_on entry (Ok graph) found is
graph_answers inputs name entry (Err (Refused fault)) found is = went_on entry (Err fault) found is
graph_answers inputs name entry (Err (Memory error)) found is = tt

pub nest_answers : (graph : Graph) (r : Result Nest Trouble) → IfOk r (IsNest graph) → IfFault r (IsNestFault graph) → Answers (NestOf graph) r
nest_answers graph (Ok nest) is fails = is
nest_answers graph (Err (Refused fault)) is fails = fails
nest_answers graph (Err (Memory error)) is fails = tt

pub bounds_answers : (inputs : Setting) (graph : Graph) (nest : Nest) (r : Result Bounds Trouble) → IfOk r (λ b. AreBounds graph nest (stated inputs) b.of) → IfFault r (IsBoundsFault graph nest (stated inputs)) → Answers (BoundsOf inputs graph nest) r
bounds_answers inputs graph nest (Ok bounds) is fails = is
bounds_answers inputs graph nest (Err (Refused fault)) is fails = fails
bounds_answers inputs graph nest (Err (Memory error)) is fails = tt

-- a phase that refuses nothing
pub always_answers : {A : Type 0} (Is : A → Type 0) (made : Result A AllocError) (t : Result A Trouble) → IfOk made Is → MatchResult made (λ v. t ≡ Ok v) (λ e. t ≡ Err (Memory e)) → Answers (Always Is) t
always_answers {A} Is (Ok v) t is same = subst (λ (x : Result A Trouble). Answers (Always Is) x) (sym same) is
always_answers {A} Is (Err e) t is same = subst (λ (x : Result A Trouble). Answers (Always Is) x) (sym same) tt

-- Flags and categories are one for each node, or none.

counted_for : (nodes : ℕ) (must may : List Bool) → length must ≡ nodes → length may ≡ nodes → are_flags_for nodes must may ≡ true
counted_for nodes must may one other =
    ap (λ (b : Bool). b && (length must == 0 || length must == nodes)) (eq-eqb (length must) (length may) (one ∙ sym other))
    ∙ ap (λ (b : Bool). length must == 0 || b) (eq-eqb (length must) nodes one) ∙ or_true (length must == 0)
  where
    or_true : (b : Bool) → (b || true) ≡ true
    or_true true = refl
    or_true false = refl

may_counted : (graph : Graph) (cache : Cache) (may : Flags) (start : StartState) → AreMayFlagsFrom graph cache start may → length may.yes ≡ length graph.nodes
may_counted graph cache may Empty is = is.2.count
may_counted graph cache may Any is = ap length is ∙ length-replicate (length graph.nodes) true

pub flags_for : (graph : Graph) (cache : Option Cache) (must may : Flags) → AreMustFlags graph cache must → AreMayFlags graph cache may → are_flags_for (length graph.nodes) must.yes may.yes ≡ true
flags_for graph None must may is of = ap (λ (xs : List Bool). are_flags_for (length graph.nodes) xs may.yes) is ∙ ap (λ (ys : List Bool). are_flags_for (length graph.nodes) [] ys) of
flags_for graph (Some cache) must may is of = counted_for (length graph.nodes) must.yes may.yes is.2.count (may_counted graph cache may cache.start of)

by_flags : (nodes : ℕ) (must may : List Bool) → length must ≡ nodes → length may ≡ nodes → length (categories_of nodes must may) ≡ nodes
by_flags nodes [] may one other = length-replicate nodes NoCache
by_flags nodes (m ∷ must) may one other =
    let each = length-map (zip (m ∷ must) may) (λ (flags : Bool × Bool). category_of flags.0 flags.1) in
    let both = length-zip (m ∷ must) may in
    omega (arith, each, both, one, other)

pub categories_counted : (graph : Graph) (cache : Option Cache) (categories : List Category) → AreCategories graph cache categories → length categories ≡ length graph.nodes
categories_counted graph None categories (must, may, is, of, same) =
    ap length same ∙ ap (λ (xs : List Bool). length (categories_of (length graph.nodes) xs may.yes)) is ∙ length-replicate (length graph.nodes) NoCache
categories_counted graph (Some cache) categories (must, may, is, of, same) =
    ap length same ∙ by_flags (length graph.nodes) must.yes may.yes is.2.count (may_counted graph cache may cache.start of)
