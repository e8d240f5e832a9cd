-- The costs of a graph's steps need no may: a fetch that misses costs as much as one of which nothing is known.
use Rattle.std.proofs.Common.{ℕ, zero, suc, ◌≡◌, ◌+◌, Bool, true, false, List, [], ◌∷◌, map, length, Option, None, Some, get_or, refl, sym, ap, ap₂, ◌∙◌, arith}
use Rattle.std.specs.List.{zip}
use Rattle.std.proofs.lemmas.List.{length-replicate}
use Rattle.wc_model.specs.declared.graphs.Category.{Category}
use Rattle.wc_model.specs.declared.graphs.Category.TheVariants.{NoCache}
use Rattle.wc_model.specs.declared.graphs.Flags.{Flags}
use Rattle.wc_model.specs.declared.graphs.Graph.{Graph}
use Rattle.wc_model.specs.declared.graphs.Step.{Step}
use Rattle.wc_model.specs.declared.machine.Cache.{Cache}
use Rattle.wc_model.specs.declared.machine.Cycles.{Cycles}
use Rattle.wc_model.specs.declared.machine.StartState.{StartState}
use Rattle.wc_model.specs.declared.machine.StartState.TheVariants.{Empty, Any}
use Rattle.wc_model.specs.Cache.Ages.{AreMayFlags, AreMayFlagsFrom, AreMustFlags}
use Rattle.wc_model.specs.Cache.Categories.{categories_of, category_of}
use Rattle.wc_model.specs.Cache.Costs.{fetch_upper, upper, upper_costs}
use Rattle.wc_model.specs.Cache.Timing.{timed_step}
use Rattle.wc_laws.specs.WithoutMay.{CostsNeedNoMay}
use Rattle.wc_laws.proofs.MayFlags.{may_flags_exist}

-- Costs of categories.

same_fetch : (c : Cycles) (m a o : Bool) → fetch_upper c (category_of m a) ≡ fetch_upper c (category_of m o)
same_fetch c true a o = refl
same_fetch c false true true = refl
same_fetch c false true false = refl
same_fetch c false false true = refl
same_fetch c false false false = refl

abbrev zipped : List Bool → List Bool → List Category
zipped must may = map (λ (flags : Bool × Bool). category_of flags.0 flags.1) (zip must may)

same_zipped : (c : Cycles) (must may other : List Bool) → length may ≡ length must → length other ≡ length must → (p : ℕ)
    → fetch_upper c (get_or (zipped must may) p NoCache) ≡ fetch_upper c (get_or (zipped must other) p NoCache)
same_zipped c [] may other one also p = refl
same_zipped c (m ∷ must) [] other one also p = absurd (omega (arith, one))
same_zipped c (m ∷ must) (a ∷ may) [] one also p = absurd (omega (arith, also))
same_zipped c (m ∷ must) (a ∷ may) (o ∷ other) one also zero = same_fetch c m a o
same_zipped c (m ∷ must) (a ∷ may) (o ∷ other) one also (suc p) = same_zipped c must may other (omega (arith, one)) (omega (arith, also)) p

same_categories : (c : Cycles) (nodes : ℕ) (must may other : List Bool) → length may ≡ length must → length other ≡ length must → (p : ℕ)
    → fetch_upper c (get_or (categories_of nodes must may) p NoCache) ≡ fetch_upper c (get_or (categories_of nodes must other) p NoCache)
same_categories c nodes [] may other one also p = refl
same_categories c nodes (m ∷ must) may other one also p = same_zipped c (m ∷ must) may other one also p

same_each : {X : Type 0} (f g : X → ℕ) (xs : List X) → ((x : X) → f x ≡ g x) → map f xs ≡ map g xs
same_each f g [] each = refl
same_each f g (x ∷ xs) each = ap₂ (λ (n : ℕ) (ns : List ℕ). n ∷ ns) (each x) (same_each f g xs each)

-- any flags can stand for may
pub costs_without_may : (graph : Graph) (c : Cycles) (nodes : ℕ) (must may other : List Bool) → length may ≡ length must → length other ≡ length must
    → upper_costs graph (categories_of nodes must other) c ≡ upper_costs graph (categories_of nodes must may) c
costs_without_may graph c nodes must may other one also =
    same_each (upper graph (categories_of nodes must other) c) (upper graph (categories_of nodes must may) c) graph.steps
    (λ (s : Step). ap (λ (n : ℕ). (timed_step graph c s).base + n) (same_categories c nodes must other may also one s.source))

-- Costs of flags.

may_count : (graph : Graph) (cache : Cache) (start : StartState) (may : Flags) → AreMayFlagsFrom graph cache start may → length may.yes ≡ length graph.nodes
may_count graph cache Empty may is = is.2.count
may_count graph cache Any may is = ap length is ∙ length-replicate (length graph.nodes) true

same_count : (graph : Graph) (cache : Option Cache) (must may : Flags) → AreMustFlags graph cache must → AreMayFlags graph cache may → length may.yes ≡ length must.yes
same_count graph None must may is also = ap length (also ∙ sym is)
same_count graph (Some cache) must may is also = may_count graph cache cache.start may also ∙ sym is.2.count

pub costs_need_no_may : CostsNeedNoMay
costs_need_no_may graph hardware categories costs is_graph (must, are_must, known) of =
    let may = may_flags_exist graph hardware.cache is_graph in
    let nodes : ℕ = length graph.nodes in
    let count : length may.0.yes ≡ length must.yes = same_count graph hardware.cache must may.0 are_must may.1 in (
      categories_of nodes must.yes may.0.yes,
      (must, may.0, are_must, may.1, refl),
      of ∙ ap (λ (cs : List Category). upper_costs graph cs hardware.cycles) known ∙ costs_without_may graph hardware.cycles nodes must.yes may.0.yes must.yes count refl,
    )
