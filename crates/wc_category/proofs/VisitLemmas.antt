-- On each walk the fetches are as must and may say.
use Rattle.std.proofs.Common.{◌≡◌, ℕ, zero, suc, ◌<◌, ◌≤◌, ◌==◌, if◌then◌else◌, Bool, true, false, List, [], ◌∷◌, length, map, Contains, Option, None, Some, IfSome, slice_get, slice_index_or, refl, subst, arith}
use Rattle.std.proofs.lemmas.List.Elements.{All-contains}
use Rattle.wc_model.specs.declared.graphs.Graph.{Graph}
use Rattle.wc_model.specs.declared.graphs.Node.{Node}
use Rattle.wc_model.specs.declared.graphs.Step.{Step}
use Rattle.wc_model.specs.declared.machine.Cache.{Cache}
use Rattle.wc_model.specs.declared.machine.StartState.{StartState}
use Rattle.wc_model.specs.declared.machine.StartState.TheVariants.{Any, Empty}
use Rattle.wc_model.specs.Cache.Ages.{Ages, IsSolution, MayPrecise, MustPrecise, Sets, SolvesMay, SolvesMust, accessed_in, accesses, everywhere, fetched, may_accessed, must_accessed, no_line}
use Rattle.wc_model.specs.Cache.Lines.{line_of, set_of}
use Rattle.wc_model.specs.Cache.Lru.{Held, IsAllowed, MayHold, cache_fetched, is_hit, line_fetched}
use Rattle.wc_model.specs.Cache.Timing.{IsGraphWalk, pc_at, pc_of}
use Rattle.wc_category.specs.Sound.{AtVisits, HasSources, IsAsTold}
use Rattle.wc_category.proofs.AgeLemmas.{held_ages, may_fetched, may_first, may_told, may_trans, must_fetched, must_first, must_told, must_trans, sets_fetched}
use Rattle.wc_category.proofs.PlaceLemmas.{short_fetched}

-- the line that a node of the graph fetches
node_line : (line : ℕ → ℕ) (nodes : List Node) (p : ℕ) → p < length nodes → slice_index_or (map (λ (n : Node). Some (line n.pc)) nodes) p None ≡ Some (line (pc_of (slice_get nodes p)))
node_line line [] p below = absurd (omega arith)
node_line line (n ∷ nodes) zero below = refl
node_line line (n ∷ nodes) (suc p) below = node_line line nodes p (omega arith)

pub source_within : (graph : Graph) → HasSources graph → (s : Step) → Contains graph.steps s → s.source < length graph.nodes
source_within graph is s among = All-contains (λ (t : Step). t.source < length graph.nodes) graph.steps s is among

-- a solution goes on along a step
goes_on : (precise : Ages → Ages → Type 0) (accessed : Ages → ℕ → Ages) → ((a b c : Ages) → precise a b → precise b c → precise a c) →
    (graph : Graph) (cache : Cache) (states : ℕ → Sets) (held : Sets) (s : Step) (q : ℕ) →
    IsSolution (everywhere precise) (accessed_in accessed cache.sets) graph.steps (accesses graph cache) graph.start (no_line cache.ways) states →
    Contains graph.steps s → s.source < length graph.nodes → s.target ≡ Some q →
    everywhere precise held (accessed_in accessed cache.sets (states s.source) (line_of cache (pc_at graph s.source))) → everywhere precise held (states q)
goes_on precise accessed trans graph cache states held s q solves among within leads p k =
    let after : everywhere precise (fetched (everywhere precise) (accessed_in accessed cache.sets) (slice_index_or (accesses graph cache) s.source None) (states s.source)) (states q) = solves.along s q among leads in
    let there : everywhere precise (accessed_in accessed cache.sets (states s.source) (line_of cache (pc_at graph s.source))) (states q) =
    subst (λ (access : Option ℕ). everywhere precise (fetched (everywhere precise) (accessed_in accessed cache.sets) access (states s.source)) (states q)) (node_line (line_of cache) graph.nodes s.source within) after in
    trans (held k) (accessed_in accessed cache.sets (states s.source) (line_of cache (pc_at graph s.source)) k) (states q k) (p k) (there k)

-- what holds before each step of a walk
record Stands (graph : Graph) (cache : Cache) (at : Option ℕ) (held : Held) : Type 0 where
  short : (s : ℕ) → length (held s) ≤ cache.ways
  must_holds : (must : ℕ → Sets) → SolvesMust graph cache must → IfSome at (λ p. everywhere MustPrecise (held_ages cache held) (must p))
  may_holds : cache.start ≡ Empty → (may : ℕ → Sets) → SolvesMay graph cache may → IfSome at (λ p. everywhere MayPrecise (held_ages cache held) (may p))

short_start : (start : StartState) (ways : ℕ) (lines : List ℕ) → MayHold start ways lines → length lines ≤ ways
short_start Empty ways lines none = rw none (omega arith)
short_start Any ways lines set = set.few

empty_start : (start : StartState) (ways : ℕ) (lines : List ℕ) → start ≡ Empty → MayHold start ways lines → lines ≡ []
empty_start start ways lines is may = subst (λ (t : StartState). MayHold t ways lines) is may

starts : (graph : Graph) (cache : Cache) (held : Held) → IsAllowed (Some cache) held → Stands graph cache (Some graph.start) held
starts graph cache held allowed = record {
  short = λ s. short_start cache.start cache.ways (held s) (allowed s);
  must_holds = λ must solves s. must_trans (held_ages cache held s) (no_line cache.ways s) (must graph.start s) (must_first cache.ways (held s)) (solves.begins s);
  may_holds = λ empty may solves s. may_trans (held_ages cache held s) (no_line cache.ways s) (may graph.start s) (may_first cache.ways (held s) (empty_start cache.start cache.ways (held s) empty (allowed s))) (solves.begins s);
}

if_some : (o : Option ℕ) (P : ℕ → Type 0) → ((q : ℕ) → o ≡ Some q → P q) → IfSome o P
if_some None P each = tt
if_some (Some q) P each = each q refl

short_still : (b : Bool) (ways line : ℕ) (lines : List ℕ) → length lines ≤ ways → length (if b then line_fetched ways line lines else lines) ≤ ways
short_still true ways line lines short = short_fetched ways line lines
short_still false ways line lines short = short

stands_on : (graph : Graph) (cache : Cache) (held : Held) (s : Step) → Contains graph.steps s → s.source < length graph.nodes → Stands graph cache (Some s.source) held → Stands graph cache s.target (cache_fetched cache (pc_at graph s.source) held)
stands_on graph cache held s among within stands = record {
  short = λ k. short_still (k == set_of cache (pc_at graph s.source)) cache.ways (line_of cache (pc_at graph s.source)) (held k) (stands.short k);
  must_holds = λ must solves. if_some s.target (λ q. everywhere MustPrecise (held_ages cache (cache_fetched cache (pc_at graph s.source) held)) (must q)) (λ q leads.
      goes_on MustPrecise must_accessed must_trans graph cache must (held_ages cache (cache_fetched cache (pc_at graph s.source) held)) s q solves among within leads
      (sets_fetched MustPrecise must_accessed must_fetched cache held (pc_at graph s.source) (must s.source) (stands.must_holds must solves)));
  may_holds = λ empty may solves. if_some s.target (λ q. everywhere MayPrecise (held_ages cache (cache_fetched cache (pc_at graph s.source) held)) (may q)) (λ q leads.
      goes_on MayPrecise may_accessed may_trans graph cache may (held_ages cache (cache_fetched cache (pc_at graph s.source) held)) s q solves among within leads
      (sets_fetched MayPrecise may_accessed may_fetched cache held (pc_at graph s.source) (may s.source) (stands.may_holds empty may solves)));
}

told : (graph : Graph) (cache : Cache) (held : Held) (p : ℕ) → Stands graph cache (Some p) held → IsAsTold graph cache p (is_hit cache (pc_at graph p) held)
told graph cache held p stands = record {
  hits = λ must solves is. must_told cache.ways (line_of cache (pc_at graph p)) (held (set_of cache (pc_at graph p))) (must p (set_of cache (pc_at graph p))) (stands.short (set_of cache (pc_at graph p))) (stands.must_holds must solves (set_of cache (pc_at graph p))) is;
  misses = λ empty may solves is. may_told cache.ways (line_of cache (pc_at graph p)) (held (set_of cache (pc_at graph p))) (may p (set_of cache (pc_at graph p))) (stands.short (set_of cache (pc_at graph p))) (stands.may_holds empty may solves (set_of cache (pc_at graph p))) is;
}

all_told : (graph : Graph) (cache : Cache) → HasSources graph → (at : Option ℕ) (held : Held) (walk : List Step) → Stands graph cache at held → IsGraphWalk graph.steps at walk → AtVisits graph cache (IsAsTold graph cache) held walk
all_told graph cache is at held [] stands walks = tt
all_told graph cache is at held (s ∷ walk) stands walks =
    let here : Stands graph cache (Some s.source) held = subst (λ (o : Option ℕ). Stands graph cache o held) walks.1 stands in
    (told graph cache held s.source here, all_told graph cache is s.target (cache_fetched cache (pc_at graph s.source) held) walk (stands_on graph cache held s walks.0 (source_within graph is s walks.0) here) walks.2)

pub must_and_may_are_sound : (graph : Graph) (cache : Cache) (held : Held) (walk : List Step) → HasSources graph → IsAllowed (Some cache) held → IsGraphWalk graph.steps (Some graph.start) walk → AtVisits graph cache (IsAsTold graph cache) held walk
must_and_may_are_sound graph cache held walk is allowed walks = all_told graph cache is (Some graph.start) held walk (starts graph cache held allowed) walks
