-- What the tests on hardware say: equal cycles, and equal caches.
use Rattle.std.proofs.Common.{◌≡◌, ℕ, ◌≤◌, Bool, true, false, ◌&&◌, ◌==◌, List, Option, None, Some, get_or, refl, sym, ap, subst, ◌∙◌, eqb-true}
use Rattle.std.specs.Prelude.{IsTrue}
use Rattle.std.specs.Cmp.Lexicographic.{same_text}
use Rattle.wc_model.specs.declared.machine.Cache.{Cache}
use Rattle.wc_model.specs.declared.machine.Cycles.{Cycles}
use Rattle.wc_model.specs.declared.machine.StartState.{StartState}
use Rattle.wc_model.specs.declared.machine.StartState.TheVariants.{Empty, Any}
use Rattle.wc_model.specs.Cache.Ranges.{are_cache_numbers}
use Rattle.wc_model.specs.Workspace.Hardware.{cycle_numbers, same_cycles, same_start, same_cache}
use mathlib.Core.Bool.{Bool-set}
use native.Mathlib.Bridge.{le_prop}

-- The cycles by their numbers. That a hit is least has one proof.

with_numbers : List ℕ → (hit miss : ℕ) → hit ≤ miss → Cycles
with_numbers n hit miss least =
    record {
      alu = get_or n 0 0;
      mul = get_or n 1 0;
      div = get_or n 2 0;
      load = get_or n 3 0;
      store = get_or n 4 0;
      multi = get_or n 5 0;
      branch = get_or n 6 0;
      system = get_or n 7 0;
      taken = get_or n 8 0;
      per_register = get_or n 9 0;
      hit = hit;
      miss = miss;
      hit_is_least = least;
    }

same_fetch : (n : List ℕ) (hit miss hit' miss' : ℕ) (least : hit ≤ miss) (least' : hit' ≤ miss') → hit ≡ hit' → miss ≡ miss'
    → with_numbers n hit miss least ≡ with_numbers n hit' miss' least'
same_fetch n hit miss hit' miss' least least' same_hit same_miss =
    let M : ℕ → Type 0 = λ m. (l : hit ≤ m) → with_numbers n hit miss least ≡ with_numbers n hit m l in
    let H : ℕ → Type 0 = λ h. (l : h ≤ miss') → with_numbers n hit miss least ≡ with_numbers n h miss' l in
    subst H same_hit (subst M same_miss (λ l. ap (with_numbers n hit miss) (le_prop least l))) least'

pub cycles_same : (a b : Cycles) → same_cycles a b ≡ true → a ≡ b
unfolding with_numbers
cycles_same a b is =
    let same : cycle_numbers a ≡ cycle_numbers b = same_text (cycle_numbers a) (cycle_numbers b) (sym is) in
    ap (λ n. with_numbers n a.hit a.miss a.hit_is_least) same
    ∙ same_fetch (cycle_numbers b) a.hit a.miss b.hit b.miss a.hit_is_least b.hit_is_least (ap (λ n. get_or n 10 0) same) (ap (λ n. get_or n 11 0) same)

-- The caches by theirs. That they are in range has one proof.

start_same : (a b : StartState) → same_start a b ≡ true → a ≡ b
start_same Empty Empty is = refl
start_same Any Any is = refl
start_same Empty Any is = cc
start_same Any Empty is = cc

and_both : (a b : Bool) → (a && b) ≡ true → (a ≡ true) × (b ≡ true)
and_both true true is = (refl, refl)
and_both true false is = cc
and_both false b is = cc

cache_of : (sets ways line : ℕ) → StartState → IsTrue (are_cache_numbers sets ways line) → Cache
cache_of sets ways line start fits = record { sets = sets; ways = ways; line = line; start = start; in_range = fits }

same_numbers : (sets ways line sets' ways' line' : ℕ) (start : StartState) (fits : IsTrue (are_cache_numbers sets ways line)) (fits' : IsTrue (are_cache_numbers sets' ways' line'))
    → sets ≡ sets' → ways ≡ ways' → line ≡ line' → cache_of sets ways line start fits ≡ cache_of sets' ways' line' start fits'
same_numbers sets ways line sets' ways' line' start fits fits' same_sets same_ways same_line =
    let L : ℕ → Type 0 = λ l. (f : IsTrue (are_cache_numbers sets ways l)) → cache_of sets ways line start fits ≡ cache_of sets ways l start f in
    let W : ℕ → Type 0 = λ w. (f : IsTrue (are_cache_numbers sets w line')) → cache_of sets ways line start fits ≡ cache_of sets w line' start f in
    let S : ℕ → Type 0 = λ s. (f : IsTrue (are_cache_numbers s ways' line')) → cache_of sets ways line start fits ≡ cache_of s ways' line' start f in
    subst S same_sets (subst W same_ways (subst L same_line (λ f. ap (cache_of sets ways line start) (Bool-set _ _ fits f)))) fits'

pub caches_same : (a b : Option Cache) → same_cache a b ≡ true → a ≡ b
unfolding cache_of
caches_same None None is = refl
caches_same None (Some b) is = cc
caches_same (Some a) None is = cc
caches_same (Some a) (Some b) is =
    let start = and_both _ (same_start a.start b.start) is in
    let line = and_both _ (a.line == b.line) start.0 in
    let ways = and_both (a.sets == b.sets) (a.ways == b.ways) line.0 in
    ap Some (same_numbers a.sets a.ways a.line b.sets b.ways b.line a.start a.in_range b.in_range (eqb-true a.sets b.sets ways.0) (eqb-true a.ways b.ways ways.1) (eqb-true a.line b.line line.1)
    ∙ ap (λ s. cache_of b.sets b.ways b.line s b.in_range) (start_same a.start b.start start.1))
