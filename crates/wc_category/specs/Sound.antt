-- What must and may, the categories and the upper costs promise of each path, from each state that the cache may have
-- at the start. After Ferdinand and Wilhelm 1999.
use Rattle.std.specs.Prelude.{ℕ, ◌≡◌, ◌<◌, ◌≤◌, Bool, true, false, List, [], ◌∷◌, map, length, Option, None, Some, All, slice_index_or}
use Rattle.wc_model.specs.declared.graphs.Category.{Category}
use Rattle.wc_model.specs.declared.graphs.Category.TheVariants.{Hit, Miss, Unclassified, NoCache}
use Rattle.wc_model.specs.declared.graphs.Graph.{Graph}
use Rattle.wc_model.specs.declared.graphs.Step.{Step}
use Rattle.wc_model.specs.declared.machine.Cache.{Cache}
use Rattle.wc_model.specs.declared.machine.Cycles.{Cycles}
use Rattle.wc_model.specs.declared.machine.StartState.TheVariants.{Empty}
use Rattle.wc_model.specs.Cache.Ages.{Sets, SolvesMay, SolvesMust, in_state}
use Rattle.wc_model.specs.Cache.Categories.{AreCategories}
use Rattle.wc_model.specs.Cache.Costs.{upper_cycles}
use Rattle.wc_model.specs.Cache.Lines.{line_of}
use Rattle.wc_model.specs.Cache.Lru.{Held, IsAllowed, cache_fetched, is_hit}
use Rattle.wc_model.specs.Cache.Timing.{IsGraphWalk, cycles_from, pc_at, timed_step}

-- each step leaves a node, which is all that the laws need of a graph
abbrev pub HasSources : Graph → Type 0
HasSources graph = All (λ (s : Step). s.source < length graph.nodes) graph.steps

-- `P` of the node and of whether its fetch hits, at each step of a walk
abbrev pub AtVisits : Graph → Cache → (ℕ → Bool → Type 0) → Held → List Step → Type 0
AtVisits graph cache P held [] = Unit {0}
AtVisits graph cache P held (s ∷ walk) = P s.source (is_hit cache (pc_at graph s.source) held) × AtVisits graph cache P (cache_fetched cache (pc_at graph s.source) held) walk

-- a node's own line is in a state there
abbrev pub has_own : Graph → Cache → (ℕ → Sets) → ℕ → Bool
has_own graph cache states p = in_state cache.sets (states p) (line_of cache (pc_at graph p))

-- a fetch is as any solution of must and may says, most precise or not
pub record IsAsTold (graph : Graph) (cache : Cache) (p : ℕ) (hit : Bool) : Type 0 where
  pub hits : (must : ℕ → Sets) → SolvesMust graph cache must → has_own graph cache must p ≡ true → hit ≡ true
  pub misses : cache.start ≡ Empty → (may : ℕ → Sets) → SolvesMay graph cache may → has_own graph cache may p ≡ false → hit ≡ false

abbrev pub MustAndMayAreSound : Type 0
MustAndMayAreSound =
    (graph : Graph) (cache : Cache) (held : Held) (walk : List Step) →
    HasSources graph → IsAllowed (Some cache) held → IsGraphWalk graph.steps (Some graph.start) walk → AtVisits graph cache (IsAsTold graph cache) held walk

-- categories for which there are such solutions; without a cache there is nothing to ask
abbrev pub category_at : List Category → ℕ → Category
category_at categories p = slice_index_or categories p NoCache

pub record AreJustifiedIn (graph : Graph) (cache : Cache) (categories : List Category) : Type 0 where
  pub hits : (p : ℕ) → p < length graph.nodes → category_at categories p ≡ Hit → (must : ℕ → Sets) × SolvesMust graph cache must × (has_own graph cache must p ≡ true)
  pub misses : (p : ℕ) → p < length graph.nodes → category_at categories p ≡ Miss → (cache.start ≡ Empty) × ((may : ℕ → Sets) × SolvesMay graph cache may × (has_own graph cache may p ≡ false))
  pub cached : (p : ℕ) → p < length graph.nodes → category_at categories p ≡ NoCache → ⊥

abbrev pub AreJustified : Graph → Option Cache → List Category → Type 0
AreJustified graph None categories = Unit {0}
AreJustified graph (Some cache) categories = AreJustifiedIn graph cache categories

abbrev pub CategoriesAreJustified : Type 0
CategoriesAreJustified = (graph : Graph) (cache : Option Cache) (categories : List Category) → AreCategories graph cache categories → AreJustified graph cache categories

-- what a category says of a fetch
abbrev pub ComesTrue : Category → Bool → Type 0
ComesTrue Hit hit = hit ≡ true
ComesTrue Miss hit = hit ≡ false
ComesTrue Unclassified hit = Unit {0}
ComesTrue NoCache hit = ⊥

abbrev pub CategoriesAreSound : Type 0
CategoriesAreSound =
    (graph : Graph) (cache : Cache) (categories : List Category) (held : Held) (walk : List Step) →
    HasSources graph → AreJustifiedIn graph cache categories → IsAllowed (Some cache) held → IsGraphWalk graph.steps (Some graph.start) walk →
    AtVisits graph cache (λ p hit. ComesTrue (category_at categories p) hit) held walk

-- the cycles of a walk are at most the sum of its upper costs
abbrev pub UpperCostsBound : Type 0
UpperCostsBound =
    (graph : Graph) (cache : Option Cache) (c : Cycles) (categories : List Category) (held : Held) (walk : List Step) →
    HasSources graph → c.hit ≤ c.miss → AreJustified graph cache categories → IsAllowed cache held → IsGraphWalk graph.steps (Some graph.start) walk →
    cycles_from cache c held (map (timed_step graph c) walk) ≤ upper_cycles graph categories c walk
