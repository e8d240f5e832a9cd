-- The data of a printed hardware states that hardware, and its text is UTF-8.
use Rattle.std.proofs.Common.{◌≡◌, ℕ, ◌≤◌, Bool, true, ◌&&◌, ◌==◌, nat_le, List, [], ◌∷◌, Option, Some, None, IsUtf8, IsTrue, codes, decimal, refl, arith, Ok}
use Rattle.std.proofs.lemmas.Bool.Decides.{nat_tests}
use Rattle.std.proofs.lemmas.Fmt.{IsAscii-decimal}
use Rattle.std.proofs.lemmas.Str.{IsUtf8-append, IsUtf8-from_ascii, IsUtf8-nil}
use Rattle.json.proofs.Printed.Utf8.{IsUtf8-are_ascii, are_ascii}
use Rattle.serde_json.specs.Data.{Data}
use Rattle.wc_model.specs.Cache.Ranges.{is_set_count, is_way_count, is_line_size, uncached_costs_nothing}
use Rattle.wc_model.specs.declared.machine.Cache.{Cache}
use Rattle.wc_model.specs.declared.machine.Cycles.{Cycles}
use Rattle.wc_model.specs.declared.machine.Hardware.{Hardware}
use Rattle.wc_model.specs.declared.machine.StartState.{StartState}
use Rattle.wc_model.specs.declared.machine.StartState.TheVariants.{Empty, Any}
use Rattle.wc_hw.specs.HardwareFile.{IsHardware, AreCycles, IsCache, IsCacheOf, checked, first_wrong, is_cost, wrong_class, wrong_cache_field, hit_of, start_of}
use Rattle.wc_hw.specs.HardwareText.{hardware_text, cycles_text, icache_text, start_text, joined}
use Rattle.wc_hw.specs.Reading.{ReadsAs}
use Rattle.wc_hw.proofs.ReadBack.{AreCosts, sizes, reads}
use Rattle.wc_hw.proofs.Trees.{cache_pieces, cycles_pieces, data_of}

passes : (test : ℕ → Bool) (n : ℕ) → test n ≡ true → checked test (Some n) ≡ Some n
passes test n is = rw is refl

costs : (n : ℕ) → n ≤ 65535 → is_cost n ≡ true
costs n small = grind (arith, nat_tests)

right_cycles : (y : Cycles) (cache : Option Cache) → AreCosts y → AreCycles y (data_of y cache)
right_cycles y cache s =
    record {
      alu = passes is_cost y.alu (costs y.alu s.alu);
      mul = passes is_cost y.mul (costs y.mul s.mul);
      div = passes is_cost y.div (costs y.div s.div);
      load = passes is_cost y.load (costs y.load s.load);
      store = passes is_cost y.store (costs y.store s.store);
      multi = passes is_cost y.multi (costs y.multi s.multi);
      branch = passes is_cost y.branch (costs y.branch s.branch);
      system = passes is_cost y.system (costs y.system s.system);
      taken = passes is_cost y.taken (costs y.taken s.taken);
      per_register = passes is_cost y.per_register (costs y.per_register s.per_register);
    }

no_wrong_class : (c : Cycles) (d : Data) → AreCycles c d → wrong_class d ≡ None
no_wrong_class c d a = rw (a.alu, a.mul, a.div, a.load, a.store, a.multi, a.branch, a.system, a.taken, a.per_register) refl

costs_at_least : (hit miss : ℕ) → hit ≤ miss → miss ≤ 65535 → (is_cost miss && nat_le hit miss) ≡ true
costs_at_least hit miss least small = grind (arith, nat_tests)

right_start : (y : Cycles) (c : Cache) (start : StartState) → c.start ≡ start → start_of (data_of y (Some c)) ≡ Some c.start
right_start y c Empty is = rw is refl
right_start y c Any is = rw is refl

right_cache : (y : Cycles) (c : Cache) → AreCosts y → IsCache y.hit y.miss c (data_of y (Some c))
right_cache y c s =
    let z = sizes c in
    let hit : hit_of (data_of y (Some c)) ≡ Some y.hit = passes is_cost y.hit (costs y.hit s.hit) in
    record {
      sets = passes is_set_count c.sets z.sets;
      ways = passes is_way_count c.ways z.ways;
      line = passes is_line_size c.line z.line;
      hit = hit;
      miss = rw hit (rw (costs_at_least y.hit y.miss y.hit_is_least s.miss) refl);
      start = right_start y c c.start refl;
    }

no_wrong_cache : (hit miss : ℕ) (c : Cache) (d : Data) → IsCache hit miss c d → wrong_cache_field d ≡ None
no_wrong_cache hit miss c d a = rw (a.sets, a.ways, a.line, a.miss, a.hit, a.start) refl

right_whole : (y : Cycles) (cache : Option Cache) → AreCosts y → first_wrong (data_of y cache) ≡ None
right_whole y None s = rw (no_wrong_class y (data_of y None) (right_cycles y None s)) refl
right_whole y (Some c) s =
    rw (no_wrong_class y (data_of y (Some c)) (right_cycles y (Some c) s), no_wrong_cache y.hit y.miss c (data_of y (Some c)) (right_cache y c s)) refl

no_costs : (hit miss : ℕ) → (hit == 0 && miss == 0) ≡ true → (hit ≡ 0) × (miss ≡ 0)
no_costs hit miss is = (grind (arith, nat_tests), grind (arith, nat_tests))

right_icache : (y : Cycles) (cache : Option Cache) → AreCosts y → IsTrue (uncached_costs_nothing y.hit y.miss cache) → IsCacheOf y.hit y.miss cache (data_of y cache)
right_icache y None s nothing = let none = no_costs y.hit y.miss nothing in (refl, none.0, none.1)
right_icache y (Some c) s nothing = (refl, right_cache y c s)

stated : (h : Hardware) → AreCosts h.cycles → IsHardware h (data_of h.cycles h.cache)
stated h s =
    record {
      right = right_whole h.cycles h.cache s;
      cycles = right_cycles h.cycles h.cache s;
      cache = right_icache h.cycles h.cache s h.uncached;
    }

-- The text.

abbrev AreUtf8 : List (List ℕ) → Type 0
AreUtf8 [] = Unit {0}
AreUtf8 (t ∷ ts) = IsUtf8 t × AreUtf8 ts

joined_utf8 : (ts : List (List ℕ)) → AreUtf8 ts → IsUtf8 (joined ts)
joined_utf8 [] are = IsUtf8-nil
joined_utf8 (t ∷ ts) are = IsUtf8-append t (joined ts) are.0 (joined_utf8 ts are.1)

numeral : (n : ℕ) → n ≤ 65535 → IsUtf8 (decimal n)
numeral n small = IsUtf8-from_ascii (decimal n) (IsAscii-decimal n (omega (arith, small)))

ascii : (text : List ℕ) → are_ascii text ≡ true → IsUtf8 text
ascii text is = IsUtf8-are_ascii text is

cycles_utf8 : (c : Cycles) → AreCosts c → IsUtf8 (cycles_text c)
cycles_utf8 c s =
    joined_utf8 (cycles_pieces c) (
      ascii (codes "{\"cycles\":{\"alu\":") refl,
      (
        numeral c.alu s.alu,
        (
          ascii (codes ",\"mul\":") refl,
          (
            numeral c.mul s.mul,
            (
              ascii (codes ",\"div\":") refl,
              (
                numeral c.div s.div,
                (
                  ascii (codes ",\"load\":") refl,
                  (
                    numeral c.load s.load,
                    (
                      ascii (codes ",\"store\":") refl,
                      (
                        numeral c.store s.store,
                        (
                          ascii (codes ",\"multi\":") refl,
                          (
                            numeral c.multi s.multi,
                            (
                              ascii (codes ",\"branch\":") refl,
                              (
                                numeral c.branch s.branch,
                                (
                                  ascii (codes ",\"system\":") refl,
                                  (
                                    numeral c.system s.system,
                                    (
                                      ascii (codes ",\"taken\":") refl,
                                      (
                                        numeral c.taken s.taken,
                                        (
                                          ascii (codes ",\"per_register\":") refl,
                                          (
                                            numeral c.per_register s.per_register,
                                            (ascii (codes "},\"icache\":") refl, tt),
                                          ),
                                        ),
                                      ),
                                    ),
                                  ),
                                ),
                              ),
                            ),
                          ),
                        ),
                      ),
                    ),
                  ),
                ),
              ),
            ),
          ),
        ),
      ),
    )

start_utf8 : (start : StartState) → IsUtf8 (start_text start)
start_utf8 Empty = ascii (codes ",\"start\":\"empty\"}}") refl
start_utf8 Any = ascii (codes ",\"start\":\"any\"}}") refl

icache_utf8 : (y : Cycles) (cache : Option Cache) → AreCosts y → IsUtf8 (icache_text y cache)
icache_utf8 y None s = ascii (codes "null}") refl
icache_utf8 y (Some c) s =
    let z = sizes c in
    joined_utf8 (cache_pieces y (Some c)) (
      ascii (codes "{\"sets\":") refl,
      (
        numeral c.sets z.small_sets,
        (
          ascii (codes ",\"ways\":") refl,
          (
            numeral c.ways z.small_ways,
            (
              ascii (codes ",\"line\":") refl,
              (
                numeral c.line z.small_line,
                (
                  ascii (codes ",\"hit\":") refl,
                  (
                    numeral y.hit s.hit,
                    (ascii (codes ",\"miss\":") refl, (numeral y.miss s.miss, (start_utf8 c.start, tt))),
                  ),
                ),
              ),
            ),
          ),
        ),
      ),
    )

-- What is printed is read back.
pub read_back : (h : Hardware) → AreCosts h.cycles → ReadsAs (hardware_text h) (Ok h)
read_back h s =
    (data_of h.cycles h.cache, (IsUtf8-append (cycles_text h.cycles) (icache_text h.cycles h.cache) (cycles_utf8 h.cycles s) (icache_utf8 h.cycles h.cache s), reads h s), stated h s)
