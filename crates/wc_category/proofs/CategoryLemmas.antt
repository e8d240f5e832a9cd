-- Categories come true at each visit, and so upper costs bound cycles.
use Rattle.std.proofs.Common.{◌≡◌, ℕ, ◌+◌, ◌<◌, ◌≤◌, Bool, true, false, List, [], ◌∷◌, length, map, Option, None, Some, refl, arith}
use Rattle.std.proofs.lemmas.Bool.{true≢false, false≢true}
use Rattle.wc_model.specs.declared.graphs.Category.{Category}
use Rattle.wc_model.specs.declared.graphs.Category.TheVariants.{Hit, Miss, NoCache, Unclassified}
use Rattle.wc_model.specs.declared.graphs.Graph.{Graph}
use Rattle.wc_model.specs.declared.graphs.Step.{Step}
use Rattle.wc_model.specs.declared.machine.Cache.{Cache}
use Rattle.wc_model.specs.declared.machine.Cycles.{Cycles}
use Rattle.wc_model.specs.declared.machine.StartState.TheVariants.{Empty}
use Rattle.wc_model.specs.Cache.Ages.{Sets, SolvesMay, SolvesMust}
use Rattle.wc_model.specs.Cache.Costs.{fetch_upper, upper_cycles}
use Rattle.wc_model.specs.Cache.Lru.{Held, IsAllowed, cache_fetched, is_hit}
use Rattle.wc_model.specs.Cache.Timing.{IsGraphWalk, cached_cycles, cycles_from, fetch_cycles, pc_at, timed_step, uncached_cycles}
use Rattle.wc_category.specs.Sound.{AreJustified, AreJustifiedIn, AtVisits, ComesTrue, HasSources, IsAsTold, category_at, has_own}
use Rattle.wc_category.proofs.VisitLemmas.{must_and_may_are_sound, source_within}

-- A category that is justified comes true.
comes_true : (graph : Graph) (cache : Cache) (categories : List Category) → AreJustifiedIn graph cache categories → (p : ℕ) (hit : Bool) → p < length graph.nodes → IsAsTold graph cache p hit → ComesTrue (category_at categories p) hit
comes_true graph cache categories are p hit within told = by (category_at categories p) refl
  where
    by : (category : Category) → category_at categories p ≡ category → ComesTrue category hit
    by Hit is = let some : (must : ℕ → Sets) × SolvesMust graph cache must × (has_own graph cache must p ≡ true) = are.hits p within is in told.hits some.0 some.1 some.2
    by Miss is = let some : (cache.start ≡ Empty) × ((may : ℕ → Sets) × SolvesMay graph cache may × (has_own graph cache may p ≡ false)) = are.misses p within is in told.misses some.0 some.1.0 some.1.1 some.1.2
    by Unclassified is = tt
    by NoCache is = absurd (are.cached p within is)

each_true : (graph : Graph) (cache : Cache) (categories : List Category) → HasSources graph → AreJustifiedIn graph cache categories → (at : Option ℕ) (held : Held) (walk : List Step) → IsGraphWalk graph.steps at walk → AtVisits graph cache (IsAsTold graph cache) held walk → AtVisits graph cache (λ p hit. ComesTrue (category_at categories p) hit) held walk
each_true graph cache categories is are at held [] walks told = tt
each_true graph cache categories is are at held (s ∷ walk) walks told =
    (comes_true graph cache categories are s.source (is_hit cache (pc_at graph s.source) held) (source_within graph is s walks.0) told.0, each_true graph cache categories is are s.target (cache_fetched cache (pc_at graph s.source) held) walk walks.2 told.1)

pub categories_are_sound : (graph : Graph) (cache : Cache) (categories : List Category) (held : Held) (walk : List Step) → HasSources graph → AreJustifiedIn graph cache categories → IsAllowed (Some cache) held → IsGraphWalk graph.steps (Some graph.start) walk → AtVisits graph cache (λ p hit. ComesTrue (category_at categories p) hit) held walk
categories_are_sound graph cache categories held walk is are allowed walks = each_true graph cache categories is are (Some graph.start) held walk walks (must_and_may_are_sound graph cache held walk is allowed walks)

-- Costs.
fetch_bound : (c : Cycles) (category : Category) (hit : Bool) → c.hit ≤ c.miss → ComesTrue category hit → fetch_cycles c hit ≤ fetch_upper c category
fetch_bound c Hit true least true_of = omega arith
fetch_bound c Hit false least true_of = absurd (false≢true true_of)
fetch_bound c Miss true least true_of = absurd (true≢false true_of)
fetch_bound c Miss false least true_of = omega arith
fetch_bound c Unclassified true least true_of = least
fetch_bound c Unclassified false least true_of = omega arith
fetch_bound c NoCache hit least true_of = absurd true_of

cached_bound : (graph : Graph) (cache : Cache) (c : Cycles) (categories : List Category) → c.hit ≤ c.miss → (held : Held) (walk : List Step) → AtVisits graph cache (λ p hit. ComesTrue (category_at categories p) hit) held walk → cached_cycles cache c held (map (timed_step graph c) walk) ≤ upper_cycles graph categories c walk
cached_bound graph cache c categories least held [] all = omega arith
cached_bound graph cache c categories least held (s ∷ walk) all =
    let first : fetch_cycles c (is_hit cache (pc_at graph s.source) held) ≤ fetch_upper c (category_at categories s.source) = fetch_bound c (category_at categories s.source) (is_hit cache (pc_at graph s.source) held) least all.0 in
    let later : cached_cycles cache c (cache_fetched cache (pc_at graph s.source) held) (map (timed_step graph c) walk) ≤ upper_cycles graph categories c walk = cached_bound graph cache c categories least (cache_fetched cache (pc_at graph s.source) held) walk all.1 in
    sums (timed_step graph c s).base first later
  where
    sums : (base : ℕ) {a b m n : ℕ} → a ≤ b → m ≤ n → base + a + m ≤ base + b + n
    sums base first later = omega arith

uncached_bound : (graph : Graph) (c : Cycles) (categories : List Category) (walk : List Step) → uncached_cycles (map (timed_step graph c) walk) ≤ upper_cycles graph categories c walk
uncached_bound graph c categories [] = omega arith
uncached_bound graph c categories (s ∷ walk) = more (timed_step graph c s).base (fetch_upper c (category_at categories s.source)) (uncached_bound graph c categories walk)
  where
    more : (base fetch : ℕ) {m n : ℕ} → m ≤ n → base + m ≤ base + fetch + n
    more base fetch later = omega arith

pub upper_costs_bound : (graph : Graph) (cache : Option Cache) (c : Cycles) (categories : List Category) (held : Held) (walk : List Step) → HasSources graph → c.hit ≤ c.miss → AreJustified graph cache categories → IsAllowed cache held → IsGraphWalk graph.steps (Some graph.start) walk → cycles_from cache c held (map (timed_step graph c) walk) ≤ upper_cycles graph categories c walk
upper_costs_bound graph None c categories held walk is least are allowed walks = uncached_bound graph c categories walk
upper_costs_bound graph (Some cache) c categories held walk is least are allowed walks = cached_bound graph cache c categories least held walk (categories_are_sound graph cache categories held walk is are allowed walks)
