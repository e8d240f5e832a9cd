-- The printed hardware is read as the hardware that it was printed of.
use Rattle.std.proofs.Common.{◌≡◌, ℕ, ◌≤◌, Bool, true, false, ◌&&◌, [], ◌++◌, Option, Some, None, decimal, refl, ap, ◌∙◌, sym, arith, append-nil, option_and_then}
use Rattle.std.proofs.lemmas.Bool.Decides.{nat_tests}
use Rattle.json.specs.Json as json
use Rattle.json.specs.Lex.{tokens}
use Rattle.json.specs.Print.{IsNumber}
use Rattle.json.specs.Tree.{json_tokens, HasNumbers, depth}
use Rattle.json.proofs.Printed.Decimals.{IsNumber-decimal}
use Rattle.json.proofs.Printed.Tokens.{tokens-print}
use Rattle.json.proofs.Printed.Trees.{ArePrintable-json_tokens, value-json_tokens}
use Rattle.serde_json.specs.Data.{unsigned}
use Rattle.serde_json.specs.Read.{read, of_json, number_of, max_depth}
use Rattle.serde_json.proofs.Numbers.{number_of-decimal}
use Rattle.wc_model.specs.declared.machine.Cache.{Cache}
use Rattle.wc_model.specs.declared.machine.Cycles.{Cycles}
use Rattle.wc_model.specs.declared.machine.Hardware.{Hardware}
use Rattle.wc_model.specs.declared.machine.StartState.{StartState}
use Rattle.wc_model.specs.Cache.Ranges.{is_set_count, is_way_count, is_line_size}
use Rattle.wc_hw.specs.HardwareText.{hardware_text}
use Rattle.wc_hw.proofs.Trees.{tree, cycles_tree, cache_tree, data_of, cycles_data, cache_data, text_is}

-- Each number of the cycles is one of a hardware file.
pub record AreCosts (c : Cycles) : Type 0 where
  pub alu : c.alu ≤ 65535
  pub mul : c.mul ≤ 65535
  pub div : c.div ≤ 65535
  pub load : c.load ≤ 65535
  pub store : c.store ≤ 65535
  pub multi : c.multi ≤ 65535
  pub branch : c.branch ≤ 65535
  pub system : c.system ≤ 65535
  pub taken : c.taken ≤ 65535
  pub per_register : c.per_register ≤ 65535
  pub hit : c.hit ≤ 65535
  pub miss : c.miss ≤ 65535

-- The numbers as they are read.
number_small : (n : ℕ) → n ≤ 65535 → number_of (decimal n) ≡ Some (unsigned n)
number_small n small = number_of-decimal n (omega (arith, small))

text_small : (n : ℕ) → n ≤ 65535 → IsNumber (decimal n)
text_small n small = IsNumber-decimal n (omega (arith, small))

has_cycles_numbers : (c : Cycles) → AreCosts c → HasNumbers (cycles_tree c)
has_cycles_numbers c s = (
  text_small c.alu s.alu,
  (
    text_small c.mul s.mul,
    (
      text_small c.div s.div,
      (
        text_small c.load s.load,
        (
          text_small c.store s.store,
          (text_small c.multi s.multi, (text_small c.branch s.branch, (text_small c.system s.system, (text_small c.taken s.taken, (text_small c.per_register s.per_register, tt))))),
        ),
      ),
    ),
  ),
)

of_cycles : (c : Cycles) → AreCosts c → of_json (cycles_tree c) ≡ Some (cycles_data c)
of_cycles c s =
    rw (
      number_small c.alu s.alu,
      number_small c.mul s.mul,
      number_small c.div s.div,
      number_small c.load s.load,
      number_small c.store s.store,
      number_small c.multi s.multi,
      number_small c.branch s.branch,
      number_small c.system s.system,
      number_small c.taken s.taken,
      number_small c.per_register s.per_register,
    ) refl

-- The numbers of a cache.
pub record AreSizes (c : Cache) : Type 0 where
  pub sets : is_set_count c.sets ≡ true
  pub ways : is_way_count c.ways ≡ true
  pub line : is_line_size c.line ≡ true
  pub small_sets : c.sets ≤ 65535
  pub small_ways : c.ways ≤ 65535
  pub small_line : c.line ≤ 65535

set_small : (n : ℕ) → is_set_count n ≡ true → n ≤ 65535
set_small n is = grind (arith, nat_tests)

way_small : (n : ℕ) → is_way_count n ≡ true → n ≤ 65535
way_small n is = grind (arith, nat_tests)

line_small : (n : ℕ) → is_line_size n ≡ true → n ≤ 65535
line_small n is = grind (arith, nat_tests)

all_three : (a b c : Bool) → (a && b && c) ≡ true → (a ≡ true) × (b ≡ true) × (c ≡ true)
all_three true true c is = (refl, refl, is)
all_three true false c is = absurd (cc)
all_three false b c is = absurd (cc)

pub sizes : (c : Cache) → AreSizes c
sizes c =
    let is = all_three (is_set_count c.sets) (is_way_count c.ways) (is_line_size c.line) c.in_range in
    record { sets = is.0; ways = is.1; line = is.2; small_sets = set_small c.sets is.0; small_ways = way_small c.ways is.1; small_line = line_small c.line is.2 }

has_cache_numbers : (y : Cycles) (cache : Option Cache) → AreCosts y → HasNumbers (cache_tree y cache)
has_cache_numbers y None s = tt
has_cache_numbers y (Some c) s =
    let z = sizes c in
    (text_small c.sets z.small_sets, (text_small c.ways z.small_ways, (text_small c.line z.small_line, (text_small y.hit s.hit, (text_small y.miss s.miss, (tt, tt))))))

of_started : (y : Cycles) (c : Cache) → AreCosts y → (start : StartState) → c.start ≡ start → of_json (cache_tree y (Some c)) ≡ Some (cache_data y (Some c))
of_started y c s start is =
    let z = sizes c in
    rw (number_small c.sets z.small_sets, number_small c.ways z.small_ways, number_small c.line z.small_line, number_small y.hit s.hit, number_small y.miss s.miss) refl

of_cache : (y : Cycles) (cache : Option Cache) → AreCosts y → of_json (cache_tree y cache) ≡ Some (cache_data y cache)
of_cache y None s = refl
of_cache y (Some c) s = of_started y c s c.start refl

of_tree : (y : Cycles) (cache : Option Cache) → AreCosts y → of_json (tree y cache) ≡ Some (data_of y cache)
of_tree y cache s = rw (of_cycles y s, of_cache y cache s) refl

shallow : (y : Cycles) (cache : Option Cache) → depth (tree y cache) ≤ max_depth
shallow y None = omega arith
shallow y (Some c) = omega arith

pub reads : (h : Hardware) → AreCosts h.cycles → read (hardware_text h) ≡ Some (data_of h.cycles h.cache)
reads h s =
    let t : json.Json = tree h.cycles h.cache in
    let numbers : HasNumbers t = (has_cycles_numbers h.cycles s, (has_cache_numbers h.cycles h.cache s, tt)) in
    let cut : tokens (hardware_text h) ≡ json_tokens t ++ [] =
    ap tokens (sym (text_is h)) ∙ tokens-print (json_tokens t) (ArePrintable-json_tokens t numbers) ∙ sym (append-nil (json_tokens t)) in
    ap (λ ts. option_and_then of_json (option_and_then (λ p. json.if_last p.0 p.1) (json.value max_depth ts))) cut
    ∙ ap (λ r. option_and_then of_json (option_and_then (λ p. json.if_last p.0 p.1) r)) (value-json_tokens t max_depth [] (shallow h.cycles h.cache))
    ∙ of_tree h.cycles h.cache s
