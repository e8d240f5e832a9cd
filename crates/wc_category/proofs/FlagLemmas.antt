-- The categories of a graph are justified by its must and may.
use Rattle.std.proofs.Common.{◌≡◌, ℕ, zero, suc, ◌<◌, Bool, true, false, List, [], ◌∷◌, length, map, replicate, Option, None, Some, slice_get, refl, ap, sym, ◌∙◌, arith}
use Rattle.std.specs.List.{zip}
use Rattle.std.proofs.lemmas.Bool.{true≢false}
use Rattle.wc_model.specs.declared.graphs.Category.{Category}
use Rattle.wc_model.specs.declared.graphs.Category.TheVariants.{Hit, Miss, NoCache}
use Rattle.wc_model.specs.declared.graphs.Flags.{Flags}
use Rattle.wc_model.specs.declared.graphs.Graph.{Graph}
use Rattle.wc_model.specs.declared.graphs.Node.{Node}
use Rattle.wc_model.specs.declared.machine.Cache.{Cache}
use Rattle.wc_model.specs.declared.machine.StartState.{StartState}
use Rattle.wc_model.specs.declared.machine.StartState.TheVariants.{Any, Empty}
use Rattle.wc_model.specs.Cache.Ages.{AreFlagsOf, AreMayFlagsFrom, AreMustFlags, Sets, SolvesMay, in_state}
use Rattle.wc_model.specs.Cache.Categories.{AreCategories, categories_of, category_of}
use Rattle.wc_model.specs.Cache.Lines.{line_of}
use Rattle.wc_model.specs.Cache.Timing.{pc_of}
use Rattle.wc_category.specs.Sound.{AreJustified, AreJustifiedIn, category_at, has_own}

-- the category at a place, by the flags there
by_flags_at : (must may : List Bool) (p : ℕ) (m y : Bool) → slice_get must p ≡ Some m → slice_get may p ≡ Some y → category_at (map (λ (flags : Bool × Bool). category_of flags.0 flags.1) (zip must may)) p ≡ category_of m y
by_flags_at [] may p m y in_must in_may = absurd cc
by_flags_at (a ∷ must) [] p m y in_must in_may = absurd cc
by_flags_at (a ∷ must) (b ∷ may) zero m y in_must in_may = grind (arith, in_must, in_may)
by_flags_at (a ∷ must) (b ∷ may) (suc p) m y in_must in_may = by_flags_at must may p m y in_must in_may

categories_at : (nodes : ℕ) (must may : List Bool) (p : ℕ) (m y : Bool) → slice_get must p ≡ Some m → slice_get may p ≡ Some y → category_at (categories_of nodes must may) p ≡ category_of m y
categories_at nodes [] may p m y in_must in_may = absurd cc
categories_at nodes (a ∷ must) may p m y in_must in_may = by_flags_at (a ∷ must) may p m y in_must in_may

of_hit : (m y : Bool) → category_of m y ≡ Hit → m ≡ true
of_hit true y is = refl
of_hit false true is = absurd cc
of_hit false false is = absurd cc

of_miss : (m y : Bool) → category_of m y ≡ Miss → y ≡ false
of_miss true y is = absurd cc
of_miss false true is = absurd cc
of_miss false false is = refl

never_uncached : (m y : Bool) → category_of m y ≡ NoCache → ⊥
never_uncached true y is = cc
never_uncached false true is = cc
never_uncached false false is = cc

-- the flag of a node, by the state there
flag_at : (graph : Graph) (cache : Cache) (states : ℕ → Sets) (flags : Flags) → AreFlagsOf graph cache states flags → (p : ℕ) → p < length graph.nodes → slice_get flags.yes p ≡ Some (has_own graph cache states p)
flag_at graph cache states flags are p within =
    let there : (n : Node) × (slice_get graph.nodes p ≡ Some n) = node_there graph.nodes p within in
    are.each p there.0 there.1 ∙ ap (λ (n : Option Node). Some (in_state cache.sets (states p) (line_of cache (pc_of n)))) (sym there.1)
  where
    node_there : (nodes : List Node) (p : ℕ) → p < length nodes → (n : Node) × (slice_get nodes p ≡ Some n)
    node_there [] p within = absurd (omega arith)
    node_there (n ∷ nodes) zero within = (n, refl)
    node_there (n ∷ nodes) (suc p) within = node_there nodes p (omega arith)

-- may's flag of a node, and what it says
record IsMayFlag (graph : Graph) (cache : Cache) (start : StartState) (flags : Flags) (p : ℕ) : Type 0 where
  flag : Bool
  there : slice_get flags.yes p ≡ Some flag
  says : flag ≡ false → (start ≡ Empty) × ((may : ℕ → Sets) × SolvesMay graph cache may × (has_own graph cache may p ≡ false))

all_true : (n p : ℕ) → p < n → slice_get (replicate n true) p ≡ Some true
all_true zero p within = absurd (omega arith)
all_true (suc n) zero within = refl
all_true (suc n) (suc p) within = all_true n p (omega arith)

may_flag : (graph : Graph) (cache : Cache) (start : StartState) (flags : Flags) → AreMayFlagsFrom graph cache start flags → (p : ℕ) → p < length graph.nodes → IsMayFlag graph cache start flags p
may_flag graph cache Empty flags are p within = record {
  flag = has_own graph cache are.0 p;
  there = flag_at graph cache are.0 flags are.2 p within;
  says = λ is. (refl, (are.0, are.1.solves, is));
}
may_flag graph cache Any flags are p within = record {
  flag = true;
  there = ap (λ yes. slice_get yes p) are ∙ all_true (length graph.nodes) p within;
  says = λ is. absurd (true≢false is);
}

justified : (graph : Graph) (cache : Cache) (must may : Flags) (categories : List Category) → AreMustFlags graph (Some cache) must → AreMayFlagsFrom graph cache cache.start may → categories ≡ categories_of (length graph.nodes) must.yes may.yes → AreJustifiedIn graph cache categories
justified graph cache must may categories in_must in_may are =
    let at : (p : ℕ) (within : p < length graph.nodes) → category_at categories p ≡ category_of (has_own graph cache in_must.0 p) (may_flag graph cache cache.start may in_may p within).flag =
    λ p within. ap (λ cs. category_at cs p) are ∙ categories_at (length graph.nodes) must.yes may.yes p (has_own graph cache in_must.0 p) (may_flag graph cache cache.start may in_may p within).flag (flag_at graph cache in_must.0 must in_must.2 p within) (may_flag graph cache cache.start may in_may p within).there in
    record {
      hits = λ p within is. (in_must.0, in_must.1.solves, of_hit (has_own graph cache in_must.0 p) (may_flag graph cache cache.start may in_may p within).flag (sym (at p within) ∙ is));
      misses = λ p within is. (may_flag graph cache cache.start may in_may p within).says (of_miss (has_own graph cache in_must.0 p) (may_flag graph cache cache.start may in_may p within).flag (sym (at p within) ∙ is));
      cached = λ p within is. never_uncached (has_own graph cache in_must.0 p) (may_flag graph cache cache.start may in_may p within).flag (sym (at p within) ∙ is);
    }

pub categories_are_justified : (graph : Graph) (cache : Option Cache) (categories : List Category) → AreCategories graph cache categories → AreJustified graph cache categories
categories_are_justified graph None categories are = tt
categories_are_justified graph (Some cache) categories are = justified graph cache are.0 are.1 categories are.2 are.3 are.4
