-- What the costs of a graph's steps are found from.
use Rattle.std.proofs.Common.{ℕ, ◌≡◌, ◌==◌, ◌&&◌, ◌||◌, Bool, true, false, List, [], ◌∷◌, map, length, Option, None, Some, Result, IfOk, refl, ap, ◌∙◌, arith}
use Rattle.std.specs.List.{zip}
use Rattle.std.proofs.lemmas.List.{length-map, length-replicate}
use Rattle.std.proofs.lemmas.Bool.{eq-eqb}
use Rattle.std.proofs.lemmas.Result.{IfOk-weaker}
use Rattle.std.proofs.lemmas.Slice.Zip.{length-zip}
use Rattle.wc_model.specs.declared.graphs.Category.{Category}
use Rattle.wc_model.specs.declared.graphs.Category.TheVariants.{NoCache}
use Rattle.wc_model.specs.declared.graphs.Costs.{Costs}
use Rattle.wc_model.specs.declared.graphs.Flags.{Flags}
use Rattle.wc_model.specs.declared.graphs.Graph.{Graph}
use Rattle.wc_model.specs.declared.machine.Cache.{Cache}
use Rattle.wc_model.specs.declared.machine.Hardware.{Hardware}
use Rattle.wc_model.specs.Cache.Ages.{AreMustFlags}
use Rattle.wc_model.specs.Cache.Categories.{are_flags_for, categories_of, category_of}
use Rattle.wc_model.specs.Cache.Costs.{AreCosts, upper_costs}
use Rattle.wc_model.specs.Program.Graphs.{IsGraph}
use Rattle.wc_laws.specs.WithoutMay.{AreMustCategories}
use Rattle.wc_laws.proofs.LeaveMayOut.{costs_need_no_may}

-- A flag for each node, and so a category.

counted_for : (nodes : ℕ) (must : List Bool) → length must ≡ nodes → are_flags_for nodes must must ≡ true
counted_for nodes must one =
    ap (λ (b : Bool). b && (length must == 0 || length must == nodes)) (eq-eqb (length must) (length must) refl)
    ∙ ap (λ (b : Bool). length must == 0 || b) (eq-eqb (length must) nodes one) ∙ or_true (length must == 0)
  where
    or_true : (b : Bool) → (b || true) ≡ true
    or_true true = refl
    or_true false = refl

pub flags_for : (graph : Graph) (cache : Option Cache) (must : Flags) → AreMustFlags graph cache must → are_flags_for (length graph.nodes) must.yes must.yes ≡ true
flags_for graph None must is = rw is refl
flags_for graph (Some cache) must is = counted_for (length graph.nodes) must.yes is.2.count

by_flags : (nodes : ℕ) (must : List Bool) → length must ≡ nodes → length (categories_of nodes must must) ≡ nodes
by_flags nodes [] one = length-replicate nodes NoCache
by_flags nodes (m ∷ must) one =
    let each = length-map (zip (m ∷ must) (m ∷ must)) (λ (flags : Bool × Bool). category_of flags.0 flags.1) in
    let both = length-zip (m ∷ must) (m ∷ must) in
    omega (arith, each, both, one)

pub categories_counted : (graph : Graph) (cache : Option Cache) (categories : List Category) → AreMustCategories graph cache categories → length categories ≡ length graph.nodes
categories_counted graph None categories is =
    ap length is.2 ∙ ap (λ (must : List Bool). length (categories_of (length graph.nodes) must must)) is.1 ∙ length-replicate (length graph.nodes) NoCache
categories_counted graph (Some cache) categories is = ap length is.2 ∙ by_flags (length graph.nodes) is.0.yes is.1.2.count

pub costs_by_must : {E : Type 0} (graph : Graph) (hardware : Hardware) (known shown : List Category) (result : Result Costs E) → IsGraph graph → AreMustCategories graph hardware.cache known → shown ≡ known
    → IfOk result (λ costs. costs.of ≡ upper_costs graph shown hardware.cycles) → IfOk result (AreCosts graph hardware)
costs_by_must graph hardware known shown result is_graph by_must same =
    IfOk-weaker result (λ costs. costs.of ≡ upper_costs graph shown hardware.cycles) (AreCosts graph hardware)
    (λ costs of. costs_need_no_may graph hardware known costs is_graph by_must (of ∙ ap (λ (cs : List Category). upper_costs graph cs hardware.cycles) same))
