-- What the ceiling bounds: how often a node is left, and how often a step is taken.
use Rattle.std.proofs.Common.{◌≡◌, ℕ, zero, suc, ◌==◌, ◌+◌, ◌*◌, ◌-◌, ◌<◌, ◌≤◌, ◌^◌, ℤ, pos, ◌*ℤ◌, ◌≤ℤ◌, List, [], ◌∷◌, length, slice_index, slice_get, max, if◌then◌else◌, Some, option_map, Bool, true, false, refl, ap, ◌∙◌, arith}
use Rattle.std.proofs.Math.Nat.{mul-le-mul_right}
use Rattle.std.proofs.Math.IntN.{pos-*ℤ-pos}
use Rattle.std.proofs.lemmas.Int.{ints}
use Rattle.std.proofs.lemmas.Option.{get_or_from_slice_get, slice_get-map, slice_get_within}
use Rattle.wc_base.specs.Sums.{sum_placed, chosen}
use Rattle.wc_model.specs.declared.flow_system.System.{System}
use Rattle.wc_base.proofs.Products.{monotone}
use Rattle.wc_model.specs.declared.flow_system.SystemLoop.{SystemLoop}
use Rattle.wc_model.specs.declared.flow_system.SystemStep.{SystemStep}
use Rattle.wc_model.specs.declared.graphs.Nest.{Nest}
use Rattle.wc_model.specs.Flow.Ceiling.{dearest, total}
use Rattle.wc_model.specs.Flow.Systems.{IsSystemLoop}
use Rattle.wc_model.proofs.Places.{get_within}
use Rattle.wc_nestsolve.specs.Inner.LastPass.{AreCounts}
use Rattle.wc_nestsolve.specs.Inner.Nested.{lies}
use Rattle.wc_nestsolve.specs.Inner.Orders.{IsDownOrder}
use Rattle.wc_nestsolve.specs.Inner.Passes.{bounds_of, factor, numbers, rounds_in, worth_in}
use Rattle.wc_nestsolve.specs.Inner.Solvable.{IsSolvable}
use Rattle.wc_nestsolve.proofs.CeilingLemmas.{room_below}
use Rattle.wc_nestsolve.proofs.FillLemmas.{dearest_low}
use Rattle.wc_nestsolve.proofs.ListedSums.{get_all, sum_some}
use Rattle.wc_nestsolve.proofs.SeenLemmas.{rounds_more}
use Rattle.wc_nestsolve.proofs.WeightLemmas.{test_same}

-- a term of a sum of terms that aren't negative
pub term_low : {X : Type 0} (f : ℕ → X → ℤ) (xs : List X) → ((i : ℕ) (x : X) → pos 0 ≤ℤ f i x) → (i : ℕ) (x : X) → slice_get xs i ≡ Some x → (pos 0 ≤ℤ sum_placed f xs) × (f i x ≤ℤ sum_placed f xs)
term_low f [] some i x at = cc
term_low f (y ∷ ys) some zero x at =
    let same : y ≡ x = cc in
    let rest = sum_some (λ i. f (suc i)) ys (λ i. some (suc i)) in
    (omega (arith, ints, some zero y, rest), omega (arith, ints, ap (f zero) same, rest))
term_low f (y ∷ ys) some (suc i) x at =
    let rest = term_low (λ n. f (suc n)) ys (λ n. some (suc n)) i x at in
    (omega (arith, ints, some zero y, rest.0), omega (arith, ints, some zero y, rest.1))

pub part_of : (f : ℕ → ℕ) (xs : List ℕ) (i p : ℕ) → slice_get xs i ≡ Some p → f p ≤ total f xs
part_of f [] i p at = cc
part_of f (x ∷ xs) zero p at = let same : x ≡ p = cc in omega (arith, ap f same)
part_of f (x ∷ xs) (suc i) p at = omega (arith, part_of f xs i p at)

dearest_some : (steps : List SystemStep) (p : ℕ) → 1 ≤ dearest steps p
dearest_some [] p = omega arith
dearest_some (t ∷ steps) p = by (t.source == p) (dearest_some steps p)
  where
    by : (b : Bool) → 1 ≤ dearest steps p → 1 ≤ (if b then max t.cost (dearest steps p) else dearest steps p)
    by true rest = omega arith
    by false rest = rest

-- the rounds of the first loops are no more than those of all
rounds_grow : (nest : Nest) (bounds : List ℕ) (count more p : ℕ) → rounds_in nest bounds 0 count p ≤ rounds_in nest bounds 0 (count + more) p
rounds_grow nest bounds count zero p = let same : count + 0 ≡ count = omega arith in omega (arith, ap (λ n. rounds_in nest bounds 0 n p) same)
rounds_grow nest bounds count (suc more) p =
    let same : count + suc more ≡ count + more + 1 = omega arith in
    omega (
      arith,
      rounds_grow nest bounds count more p,
      ap (λ n. rounds_in nest bounds 0 n p) same,
      rounds_more nest bounds (count + more) 0 p,
      grown (rounds_in nest bounds 0 (count + more) p) (lies nest (0 + (count + more)) p),
    )
  where
    grown : (n : ℕ) (b : Bool) → n ≤ n * (if b then slice_index bounds (0 + (count + more)) + 1 else 1)
    grown n true = let spread : n * (slice_index bounds (0 + (count + more)) + 1) ≡ n * slice_index bounds (0 + (count + more)) + n = grind arith in omega (arith, spread)
    grown n false = omega arith

module _ (nest : Nest) (s : System) (is : IsSolvable nest s) (order : List ℕ) (of : IsDownOrder s nest order) where
  seen_small : (p : ℕ) → p < s.nodes → rounds_in nest (bounds_of s) 0 (length s.loops) p < 2 ^ 100
  seen_small p known =
      let place = of.all p known in
      let worth = part_of (worth_in s nest 0) order place.0 p place.1 in
      let whole = room_below nest s is order of 0 (omega arith) in
      let all : length s.loops - 0 ≡ length s.loops = omega arith in
      let same : worth_in s nest 0 p ≡ dearest s.steps p * rounds_in nest (bounds_of s) 0 (length s.loops) p = ap (λ n. dearest s.steps p * rounds_in nest (bounds_of s) 0 n p) all in
      let grown = mul-le-mul_right {m = 1} {n = dearest s.steps p} (rounds_in nest (bounds_of s) 0 (length s.loops) p) (dearest_some s.steps p) in
      omega (arith, worth, whole, same, grown)

  pub prefix_small : (count p : ℕ) → count ≤ length s.loops → p < s.nodes → rounds_in nest (bounds_of s) 0 count p < 2 ^ 100
  prefix_small count p low known =
      let all : count + (length s.loops - count) ≡ length s.loops = omega arith in
      omega (arith, rounds_grow nest (bounds_of s) count (length s.loops - count) p, ap (λ n. rounds_in nest (bounds_of s) 0 n p) all, seen_small p known)

  -- a step is taken less often than that
  pub count_small : (v : List ℕ) (value : ℤ) (count : ℕ) (x : List ℕ) → AreCounts s nest v value count x → count ≤ length s.loops → (i : ℕ) → i < length x → slice_index x i < 2 ^ 100
  count_small v value count x counts low i within =
      let step = get_within s.steps i (omega (arith, within, counts.counted)) in
      let known = get_all (λ t. t.source < s.nodes) s.steps i step.0 step.1 is.sound.sources in
      let term = term_low (λ j t. chosen (t.source == step.0.source) (numbers x j)) s.steps (λ j t. some (t.source == step.0.source) j) i step.0 step.1 in
      let mine : chosen (step.0.source == step.0.source) (numbers x i) ≡ numbers x i = ap (λ b. chosen b (numbers x i)) (test_same step.0.source step.0.source refl) in
      omega (arith, ints, term.1, mine, counts.seen step.0.source known, prefix_small count step.0.source low known)
    where
      some : (b : Bool) (j : ℕ) → pos 0 ≤ℤ chosen b (numbers x j)
      some true j = omega (arith, ints)
      some false j = omega (arith, ints)

  -- so is a step cheap
  pub cost_small : (i : ℕ) (t : SystemStep) → slice_get s.steps i ≡ Some t → t.cost < 2 ^ 100
  cost_small i t at =
      let place = of.all t.source (get_all (λ r. r.source < s.nodes) s.steps i t at is.sound.sources) in
      let worth = part_of (worth_in s nest (length s.loops)) order place.0 t.source place.1 in
      let whole = room_below nest s is order of (length s.loops) (omega arith) in
      let none_left : length s.loops - length s.loops ≡ 0 = omega arith in
      let same : worth_in s nest (length s.loops) t.source ≡ dearest s.steps t.source * 1 = ap (λ n. dearest s.steps t.source * rounds_in nest (bounds_of s) (length s.loops) n t.source) none_left in
      omega (arith, worth, whole, same, dearest_low s.steps i t.source t at refl)

  -- a loop's bound for each entry is no more than the rounds of its head
  pub allowed_small : (k : ℕ) (l : SystemLoop) → slice_get s.loops k ≡ Some l → (n : ℤ) → n ≤ℤ pos (rounds_in nest (bounds_of s) 0 k l.head) → (pos l.bound *ℤ n) ≤ℤ pos (2 ^ 100)
  allowed_small k l at n low =
      let within = slice_get_within s.loops k l at in
      let known : l.head < s.nodes = (get_all (IsSystemLoop s) s.loops k l at is.sound.loops).head in
      let bound : slice_index (bounds_of s) k ≡ l.bound = get_or_from_slice_get (bounds_of s) k l.bound 0 (slice_get-map (λ o. o.bound) s.loops k ∙ ap (option_map (λ o. o.bound)) at) in
      let grown = rounds_more nest (bounds_of s) k 0 l.head in
      let first : 0 + k ≡ k = omega arith in
      let factor_is : factor nest (bounds_of s) (0 + k) l.head ≡ l.bound + 1 =
      ap (λ j. factor nest (bounds_of s) j l.head) first ∙ ap (λ b. if b then slice_index (bounds_of s) k + 1 else 1) (is.nested.inside k l at) ∙ ap (λ m. m + 1) bound in
      let spread : rounds_in nest (bounds_of s) 0 k l.head * (l.bound + 1) ≡ l.bound * rounds_in nest (bounds_of s) 0 k l.head + rounds_in nest (bounds_of s) 0 k l.head = grind arith in
      omega (
        arith,
        ints,
        monotone (pos l.bound) n (pos (rounds_in nest (bounds_of s) 0 k l.head)) (omega (arith, ints)) low,
        pos-*ℤ-pos l.bound (rounds_in nest (bounds_of s) 0 k l.head),
        grown,
        ap (λ m. rounds_in nest (bounds_of s) 0 k l.head * m) factor_is,
        spread,
        prefix_small (k + 1) l.head (omega (arith, within)) known,
      )
