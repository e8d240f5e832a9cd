-- What all nodes add to a value at most is the system's ceiling.
use Rattle.std.proofs.Common.{◌≡◌, ℕ, zero, suc, ◌==◌, ◌+◌, ◌*◌, ◌-◌, ◌<◌, ◌≤◌, ◌^◌, ◌||◌, ◌⊎◌, inl, inr, cond, List, [], ◌∷◌, length, slice_index, slice_get, get_or, Option, Some, None, Bool, true, false, not, if◌then◌else◌, refl, sym, ap, ap₂, ◌∙◌, arith}
use Rattle.std.proofs.Math.Nat.{mul-le-mul_left}
use Rattle.std.proofs.lemmas.Bool.{cases_eq, cases_lt}
use Rattle.std.proofs.lemmas.Option.{get_or_from_slice_get, slice_get-get_or, slice_get_within}
use Rattle.std.proofs.lemmas.List.Kept.{AllPairs-filter}
use Rattle.std.specs.List.{AllPairs, filter, range_with_len}
use Rattle.std.specs.Prelude.{IfSome}
use Rattle.wc_model.specs.declared.flow_system.System.{System}
use Rattle.wc_model.specs.declared.graphs.Head.{Head}
use Rattle.wc_model.specs.declared.graphs.Nest.{Nest}
use Rattle.wc_model.specs.Flow.Ceiling.{ceiling_of, dearest, loops_out, loops_round, node_ceiling, parent_of, rounds_of, total}
use Rattle.wc_model.specs.Flow.Places.{is_listed}
use Rattle.wc_nestsolve.specs.Inner.Nested.{lies}
use Rattle.wc_nestsolve.specs.Inner.Orders.{IsDownOrder}
use Rattle.wc_nestsolve.specs.Inner.Passes.{bounds_of, factor, rounds_in, worth_in}
use Rattle.wc_nestsolve.specs.Inner.Solvable.{IsSolvable}
use Rattle.wc_nestsolve.proofs.ClassLemmas.{filter_from, not_above, parent_before}
use Rattle.wc_nestsolve.proofs.WeightLemmas.{same_by, test_apart, test_same}

-- The product over a range of loops is that over the loops round a node.
module _ (bounds : List ℕ) where
  abbrev listed_in : List ℕ → ℕ → ℕ → ℕ
  listed_in ns k zero = 1
  listed_in ns k (suc n) = (if is_listed k ns then slice_index bounds k + 1 else 1) * listed_in ns (k + 1) n

  empty_in : (k n : ℕ) → listed_in [] k n ≡ 1
  empty_in k zero = refl
  empty_in k (suc n) = omega (arith, empty_in (k + 1) n)

  -- a loop before the range
  before_in : (x : ℕ) (ns : List ℕ) (k n : ℕ) → x < k → listed_in (x ∷ ns) k n ≡ listed_in ns k n
  before_in x ns k zero less = refl
  before_in x ns k (suc n) less =
      ap₂ (λ b m. (if b || is_listed k ns then slice_index bounds k + 1 else 1) * m) (test_apart k x (λ same. absurd (omega arith))) (before_in x ns (k + 1) n (omega arith))

  more_in : (x : ℕ) (ns : List ℕ) (k n : ℕ) → k ≤ x → x < k + n → is_listed x ns ≡ false → listed_in (x ∷ ns) k n ≡ (slice_index bounds x + 1) * listed_in ns k n
  more_in x ns k zero low high once = absurd (omega arith)
  more_in x ns k (suc n) low high once = by (cases_eq k x) (λ low'. more_in x ns (k + 1) n low' (omega arith) once)
    where
      turn : (a b c : ℕ) → a * (b * c) ≡ b * (a * c)
      turn a b c = grind arith

      one : (a b : ℕ) → a * b ≡ a * (1 * b)
      one a b = grind arith

      by : (k ≡ x) ⊎ (k ≡ x → ⊥) → (k + 1 ≤ x → listed_in (x ∷ ns) (k + 1) n ≡ (slice_index bounds x + 1) * listed_in ns (k + 1) n) → listed_in (x ∷ ns) k (suc n) ≡ (slice_index bounds x + 1) * listed_in ns k (suc n)
      by (inl same) rest =
          ap₂ (λ b m. (if b || is_listed k ns then slice_index bounds k + 1 else 1) * m) (test_same k x same) (before_in x ns (k + 1) n (omega arith))
          ∙ ap (λ i. (slice_index bounds i + 1) * listed_in ns (k + 1) n) same
          ∙ one (slice_index bounds x + 1) (listed_in ns (k + 1) n)
          ∙ sym (ap (λ b. (slice_index bounds x + 1) * ((if b then slice_index bounds k + 1 else 1) * listed_in ns (k + 1) n)) (ap (λ i. is_listed i ns) same ∙ once))
      by (inr apart) rest =
          ap₂ (λ b m. (if b || is_listed k ns then slice_index bounds k + 1 else 1) * m) (test_apart k x apart) (rest (omega arith))
          ∙ turn (if is_listed k ns then slice_index bounds k + 1 else 1) (slice_index bounds x + 1) (listed_in ns (k + 1) n)

  module _ (heads : List Head) (parents : (k : ℕ) (h : Head) → slice_get heads k ≡ Some h → IfSome h.parent (λ j. j < k)) where
    out_in : (n count : ℕ) (o : Option ℕ) → IfSome o (λ k. k < count) → listed_in (loops_out heads n o) 0 count ≡ rounds_of bounds (loops_out heads n o)
    out_in zero count None known = empty_in 0 count
    out_in zero count (Some k) known = empty_in 0 count
    out_in (suc n) count None known = empty_in 0 count
    out_in (suc n) count (Some k) known =
        more_in k (loops_out heads n (parent_of heads k)) 0 count (omega arith) (omega arith) (not_above heads parents n k)
        ∙ ap (λ m. (slice_index bounds k + 1) * m) (out_in n count (parent_of heads k) (above (parent_of heads k) refl))
      where
        above : (o : Option ℕ) → parent_of heads k ≡ o → IfSome o (λ j. j < count)
        above None up = tt
        above (Some j) up = omega (arith, parent_before heads parents k j up, known)

rounds_listed : (nest : Nest) (bounds : List ℕ) (k n q : ℕ) → rounds_in nest bounds k n q ≡ listed_in bounds (loops_round nest q) k n
rounds_listed nest bounds k zero q = refl
rounds_listed nest bounds k (suc n) q = ap (λ m. factor nest bounds k q * m) (rounds_listed nest bounds (k + 1) n q)

-- a part has each node once too
pub part_once : (xs : List ℕ) (test : ℕ → Bool) → ((i j p : ℕ) → slice_get xs i ≡ Some p → slice_get xs j ≡ Some p → i ≡ j) → (i j p : ℕ) → slice_get (filter test xs) i ≡ Some p → slice_get (filter test xs) j ≡ Some p → i ≡ j
part_once xs test once i j p at_i at_j = by (cases_lt i j) (cases_lt j i)
  where
    pairs : AllPairs (λ a b. a ≡ b → ⊥) xs
    pairs = λ n m d less within same.
        let one = once n m (get_or xs n d) (slice_get-get_or xs n d (omega arith)) (slice_get-get_or xs m d within ∙ ap Some (sym same)) in
        absurd (omega arith)

    part : AllPairs (λ a b. a ≡ b → ⊥) (filter test xs)
    part = AllPairs-filter (λ a b. a ≡ b → ⊥) test xs pairs

    never : (n m : ℕ) → n < m → slice_get (filter test xs) n ≡ Some p → slice_get (filter test xs) m ≡ Some p → ⊥
    never n m less at_n at_m = part n m 0 less (slice_get_within (filter test xs) m p at_m) (get_or_from_slice_get (filter test xs) n p 0 at_n ∙ sym (get_or_from_slice_get (filter test xs) m p 0 at_m))

    by : (i < j) ⊎ (j ≤ i) → (j < i) ⊎ (i ≤ j) → i ≡ j
    by (inl less) other = absurd (never i j less at_i at_j)
    by (inr more) (inl less) = absurd (never j i less at_j at_i)
    by (inr more) (inr even) = omega arith

-- A sum over different nodes is at most that over all.
module _ (f : ℕ → ℕ) where
  sum_all : (xs : List ℕ) (a : ℕ) → ((i : ℕ) → slice_get xs i ≡ Some a → ⊥) → total f (filter (λ q. not (q == a)) xs) ≡ total f xs
  sum_all [] a none = refl
  sum_all (x ∷ xs) a none =
      ap (λ b. total f (cond (not b) (x ∷ filter (λ q. not (q == a)) xs) (filter (λ q. not (q == a)) xs))) (test_apart x a (λ same. none zero (ap Some same)))
      ∙ ap (λ n. f x + n) (sum_all xs a (λ i at. none (suc i) at))

  sum_split : (xs : List ℕ) (a : ℕ) → ((i j : ℕ) → slice_get xs i ≡ Some a → slice_get xs j ≡ Some a → i ≡ j) → total f xs ≤ f a + total f (filter (λ q. not (q == a)) xs)
  sum_split [] a once = omega arith
  sum_split (x ∷ xs) a once = by (sum_split xs a (λ i j at_i at_j. let one = once (suc i) (suc j) at_i at_j in omega arith)) (x == a) refl
    where
      by : total f xs ≤ f a + total f (filter (λ q. not (q == a)) xs) → (b : Bool) → (x == a) ≡ b → f x + total f xs ≤ f a + total f (cond (not b) (x ∷ filter (λ q. not (q == a)) xs) (filter (λ q. not (q == a)) xs))
      by rest true is =
          let same : x ≡ a = same_by x a is in
          omega (arith, ap f same, sum_all xs a (λ i at. absurd (let one = once zero (suc i) (ap Some same) at in omega arith)))
      by rest false is = omega (arith, rest)

  sum_range : (n a : ℕ) (xs : List ℕ) → ((i j p : ℕ) → slice_get xs i ≡ Some p → slice_get xs j ≡ Some p → i ≡ j) → ((i p : ℕ) → slice_get xs i ≡ Some p → (a ≤ p) × (p < a + n)) → total f xs ≤ total f (range_with_len a n)
  sum_range zero a [] once known = omega arith
  sum_range zero a (x ∷ xs) once known = let k = known zero x refl in absurd (omega (arith, k.0, k.1))
  sum_range (suc n) a xs once known =
      let rest = sum_range n (a + 1) (filter (λ q. not (q == a)) xs) (part_once xs (λ q. not (q == a)) once)
      (λ i p at.
      let from = filter_from (λ q. not (q == a)) xs i p at in
      let k = known from.1.0 p from.1.1 in
      let apart : p ≡ a → ⊥ = λ same. other p from.0 same in
      (omega (arith, k.0), omega (arith, k.1))) in
      omega (arith, sum_split xs a (λ i j at_i at_j. once i j a at_i at_j), rest)
    where
      other : (p : ℕ) → not (p == a) ≡ true → p ≡ a → ⊥
      other p is same = let yes' : (p == a) ≡ true = test_same p a same in not_true (p == a) yes' is
        where
          not_true : (b : Bool) → b ≡ true → not b ≡ true → ⊥
          not_true true yes'' no'' = cc
          not_true false yes'' no'' = cc

module _ (nest : Nest) (s : System) (is : IsSolvable nest s) where
  node_worth : (q : ℕ) → q < s.nodes → worth_in s nest 0 q ≡ node_ceiling nest (bounds_of s) s.steps q
  node_worth q known = ap (λ n. dearest s.steps q * n)
      (rounds_listed nest (bounds_of s) 0 (length s.loops - 0) q ∙ ap (listed_in (bounds_of s) (loops_round nest q) 0) whole
      ∙ out_in (bounds_of s) nest.heads is.parents (length nest.heads) (length s.loops) (get_or nest.inside q None) (inside (get_or nest.inside q None) refl))
    where
      whole : length s.loops - 0 ≡ length s.loops
      whole = omega arith

      inside : (o : Option ℕ) → get_or nest.inside q None ≡ o → IfSome o (λ k. k < length s.loops)
      inside None at = tt
      inside (Some k) at = omega (arith, is.loops_counted, is.inside_known q k (slice_get-get_or nest.inside q None (omega (arith, is.inside_counted, known)) ∙ ap Some at))

  -- fewer loops are worth less
  worth_step : (k q : ℕ) → k < length s.loops → worth_in s nest (k + 1) q ≤ worth_in s nest k q
  worth_step k q less =
      let left : length s.loops - k ≡ suc (length s.loops - (k + 1)) = omega arith in
      let same : worth_in s nest k q ≡ dearest s.steps q * (factor nest (bounds_of s) k q * rounds_in nest (bounds_of s) (k + 1) (length s.loops - (k + 1)) q) = ap (λ n. dearest s.steps q * rounds_in nest (bounds_of s) k n q) left in
      let grown = by (lies nest k q) (slice_index (bounds_of s) k) (dearest s.steps q) (rounds_in nest (bounds_of s) (k + 1) (length s.loops - (k + 1)) q) in
      omega (arith, same, grown)
    where
      by : (b : Bool) (n d r : ℕ) → d * r ≤ d * ((if b then n + 1 else 1) * r)
      by true n d r = mul-le-mul_left {m = r} {n = (n + 1) * r} d (more n r)
        where
          more : (n r : ℕ) → r ≤ (n + 1) * r
          more n r = let same : (n + 1) * r ≡ n * r + r = grind arith in omega (arith, same)
      by false n d r = mul-le-mul_left {m = r} {n = 1 * r} d (let same : 1 * r ≡ r = omega arith in omega (arith, same))

  worth_all : (k q : ℕ) → k ≤ length s.loops → worth_in s nest k q ≤ worth_in s nest 0 q
  worth_all zero q low = omega arith
  worth_all (suc k) q low =
      let next : suc k ≡ k + 1 = omega arith in
      let same : worth_in s nest (suc k) q ≡ worth_in s nest (k + 1) q = ap (λ n. worth_in s nest n q) next in
      omega (arith, same, worth_step k q (omega arith), worth_all k q (omega arith))

  sum_le : (f g : ℕ → ℕ) → ((q : ℕ) → f q ≤ g q) → (xs : List ℕ) → total f xs ≤ total g xs
  sum_le f g each [] = omega arith
  sum_le f g each (x ∷ xs) = omega (arith, each x, sum_le f g each xs)

  total_le : (f g : ℕ → ℕ) (n a : ℕ) → ((q : ℕ) → q < a + n → f q ≡ g q) → total f (range_with_len a n) ≡ total g (range_with_len a n)
  total_le f g zero a each = refl
  total_le f g (suc n) a each = ap₂ (λ m r. m + r) (each a (omega arith)) (total_le f g n (a + 1) (λ q less. each q (omega arith)))

  -- the room of all nodes
  pub room_below : (order : List ℕ) → IsDownOrder s nest order → (k : ℕ) → k ≤ length s.loops → total (worth_in s nest k) order < 2 ^ 100
  room_below order of k low =
      let one = sum_le (worth_in s nest k) (worth_in s nest 0) (λ q. worth_all k q low) order in
      let two = sum_range (worth_in s nest 0) s.nodes 0 order of.down.once (λ i p at. (omega arith, omega (arith, of.known i p at))) in
      let three : total (worth_in s nest 0) (range_with_len 0 s.nodes) ≡ ceiling_of nest s = total_le (worth_in s nest 0) (node_ceiling nest (bounds_of s) s.steps) s.nodes 0 (λ q less. node_worth q (omega arith)) in
      omega (arith, one, two, three, is.below)

  -- an order has no more members than there are nodes
  pub order_few : (order : List ℕ) → IsDownOrder s nest order → length order ≤ s.nodes
  order_few order of =
      let low = sum_range (λ q. 1) s.nodes 0 order of.down.once (λ i p at. (omega arith, omega (arith, of.known i p at))) in
      omega (arith, low, ones order, range_ones s.nodes 0)
    where
      ones : (xs : List ℕ) → total (λ q. 1) xs ≡ length xs
      ones [] = refl
      ones (x ∷ xs) = omega (arith, ones xs)

      range_ones : (n a : ℕ) → total (λ q. 1) (range_with_len a n) ≡ n
      range_ones zero a = refl
      range_ones (suc n) a = omega (arith, range_ones n (a + 1))

  pub part_le : (f : ℕ → ℕ) (test : ℕ → Bool) (xs : List ℕ) → total f (filter test xs) ≤ total f xs
  part_le f test [] = omega arith
  part_le f test (x ∷ xs) = by (test x) (part_le f test xs)
    where
      by : (b : Bool) → total f (filter test xs) ≤ total f xs → total f (cond b (x ∷ filter test xs) (filter test xs)) ≤ f x + total f xs
      by true rest = omega (arith, rest)
      by false rest = omega (arith, rest)
