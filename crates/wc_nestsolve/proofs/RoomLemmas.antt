-- What nodes add to a value stays within their dearest steps times the rounds of the loops that they lie in.
use Rattle.std.proofs.Common.{◌≡◌, ℕ, zero, suc, ◌+◌, ◌*◌, ◌-◌, ◌<◌, ◌≤◌, ◌⊎◌, inl, inr, cond, List, [], ◌∷◌, length, slice_index, slice_get, Some, Bool, true, false, if◌then◌else◌, refl, ap, ap₂, ◌∙◌, arith}
use Rattle.std.proofs.Math.Nat.{mul_comm, mul-le-mul_left}
use Rattle.std.proofs.lemmas.Bool.{cases_eq}
use Rattle.std.specs.List.{filter, fold, sum_by}
use Rattle.wc_model.specs.declared.flow_system.System.{System}
use Rattle.wc_model.specs.declared.flow_system.SystemLoop.{SystemLoop}
use Rattle.wc_model.specs.declared.graphs.Nest.{Nest}
use Rattle.wc_model.specs.Flow.Ceiling.{dearest, total}
use Rattle.wc_nestsolve.specs.Inner.Nested.{IsLoop, IsNested, lies}
use Rattle.wc_nestsolve.specs.Inner.Passes.{IsRoomy, bounds_of, rounds_in, worth_in}
use Rattle.wc_nestsolve.specs.Inner.Tables.{charge}

-- std's sum, and the ceiling's
pub sum_total : (f : ℕ → ℕ) (xs : List ℕ) → sum_by f xs ≡ total f xs
sum_total f xs = from 0 xs ∙ zero_more (total f xs)
  where
    zero_more : (n : ℕ) → 0 + n ≡ n
    zero_more n = omega arith

    from : (a : ℕ) (xs : List ℕ) → fold (λ b x. b + f x) a xs ≡ a + total f xs
    from a [] = omega arith
    from a (x ∷ xs) = omega (arith, from (a + f x) xs)

-- one node's charge grows
module _ (f g : ℕ → ℕ) (h c : ℕ) (others : (q : ℕ) → (q ≡ h → ⊥) → g q ≡ f q) (own : g h ≡ f h + c) where
  pub sum_without : (xs : List ℕ) → ((i : ℕ) → slice_get xs i ≡ Some h → ⊥) → total g xs ≡ total f xs
  sum_without [] none = refl
  sum_without (x ∷ xs) none = ap₂ (λ a b. a + b) (others x (λ same. none zero (ap Some same))) (sum_without xs (λ i at. none (suc i) at))

  pub sum_with : (xs : List ℕ) → ((i j : ℕ) → slice_get xs i ≡ Some h → slice_get xs j ≡ Some h → i ≡ j) → total g xs ≤ total f xs + c
  sum_with [] once = omega arith
  sum_with (x ∷ xs) once = by (sum_with xs (λ i j at_i at_j. let one = once (suc i) (suc j) at_i at_j in omega arith)) (cases_eq x h)
    where
      no_more : x ≡ h → (i : ℕ) → slice_get xs i ≡ Some h → ⊥
      no_more same i at = absurd (let one = once zero (suc i) (ap Some same) at in omega arith)

      by : total g xs ≤ total f xs + c → (x ≡ h) ⊎ (x ≡ h → ⊥) → g x + total g xs ≤ f x + total f xs + c
      by rest (inl same) = omega (arith, ap g same, ap f same, own, sum_without xs (no_more same))
      by rest (inr apart) = omega (arith, others x apart, rest)

-- weights of some nodes are multiplied
module _ (w : ℕ → ℕ) (b : ℕ) (test : ℕ → Bool) (v : ℕ → ℕ) (is : (q : ℕ) → v q ≡ (if test q then b + 1 else 1) * w q) where
  pub sum_times : (xs : List ℕ) → total v xs ≡ total w xs + b * total w (filter test xs)
  sum_times [] = omega (arith, mul_comm b 0)
  sum_times (x ∷ xs) = by (sum_times xs) (test x) refl
    where
      spread : (n : ℕ) (k : Bool) → (if k then b + 1 else 1) * n ≡ (if k then b * n + n else n)
      spread n true = omega (arith, more n)
        where
          more : (n : ℕ) → (b + 1) * n ≡ b * n + n
          more n = grind arith
      spread n false = omega arith

      both : (m n : ℕ) → b * (m + n) ≡ b * m + b * n
      both m n = grind arith

      by : total v xs ≡ total w xs + b * total w (filter test xs) → (k : Bool) → test x ≡ k → v x + total v xs ≡ w x + total w xs + b * total w (cond k (x ∷ filter test xs) (filter test xs))
      by rest true at = omega (arith, is x, spread (w x) true, ap (λ k. (if k then b + 1 else 1) * w x) at, rest, both (w x) (total w (filter test xs)))
      by rest false at = omega (arith, is x, spread (w x) false, ap (λ k. (if k then b + 1 else 1) * w x) at, rest)

-- a part of a part
pub filter_within : (inner outer : ℕ → Bool) → ((q : ℕ) → inner q ≡ true → outer q ≡ true) → (xs : List ℕ) → filter inner (filter outer xs) ≡ filter inner xs
filter_within inner outer implied [] = refl
filter_within inner outer implied (x ∷ xs) = by (filter_within inner outer implied xs) (outer x) refl (inner x) refl
  where
    by : filter inner (filter outer xs) ≡ filter inner xs → (o : Bool) → outer x ≡ o → (i : Bool) → inner x ≡ i → filter inner (cond o (x ∷ filter outer xs) (filter outer xs)) ≡ cond i (x ∷ filter inner xs) (filter inner xs)
    by rest true out true in_x = ap (λ k. cond k (x ∷ filter inner (filter outer xs)) (filter inner (filter outer xs))) in_x ∙ ap (λ ys. x ∷ ys) rest
    by rest true out false in_x = ap (λ k. cond k (x ∷ filter inner (filter outer xs)) (filter inner (filter outer xs))) in_x ∙ rest
    by rest false out true in_x = absurd (let yes' = implied x in_x in never yes')
      where
        never : outer x ≡ true → ⊥
        never yes' = cc
    by rest false out false in_x = rest

-- One loop more, from the innermost outwards.
module _ (s : System) (nest : Nest) (is : IsNested s nest) (order : List ℕ) (k : ℕ) (l : SystemLoop) (here : IsLoop s nest k l) (extra more : List ℕ) (round : ℕ)
    (less : k < length s.loops) (bound : slice_index (bounds_of s) k ≡ l.bound)
    (others : (q : ℕ) → (q ≡ l.head → ⊥) → slice_index more q ≡ slice_index extra q) (own : slice_index more l.head ≡ slice_index extra l.head + l.bound * round)
    (once : (i j p : ℕ) → slice_get order i ≡ Some p → slice_get order j ≡ Some p → i ≡ j) (part_once : (test : ℕ → Bool) (i j p : ℕ) → slice_get (filter test order) i ≡ Some p → slice_get (filter test order) j ≡ Some p → i ≡ j)
    (part_of : (test : ℕ → Bool) (i p : ℕ) → slice_get (filter test order) i ≡ Some p → test p ≡ true)
    (low : round ≤ total (charge s nest extra) (filter (lies nest k) order)) (old : IsRoomy s nest order (k + 1) extra) where
  worth_next : (q : ℕ) → worth_in s nest k q ≡ (if lies nest k q then l.bound + 1 else 1) * worth_in s nest (k + 1) q
  worth_next q =
      let left : length s.loops - k ≡ suc (length s.loops - (k + 1)) = omega arith in
      ap (λ n. dearest s.steps q * rounds_in nest (bounds_of s) k n q) left
      ∙ ap (λ n. dearest s.steps q * ((if lies nest k q then n + 1 else 1) * rounds_in nest (bounds_of s) (k + 1) (length s.loops - (k + 1)) q)) bound
      ∙ turn (dearest s.steps q) (if lies nest k q then l.bound + 1 else 1) (rounds_in nest (bounds_of s) (k + 1) (length s.loops - (k + 1)) q)
    where
      turn : (a b c : ℕ) → a * (b * c) ≡ b * (a * c)
      turn a b c = grind arith

  round_low : l.bound * round ≤ l.bound * total (worth_in s nest (k + 1)) (filter (lies nest k) order)
  round_low = mul-le-mul_left l.bound (omega (arith, low, old.outer k (omega arith)))

  charge_others : (q : ℕ) → (q ≡ l.head → ⊥) → charge s nest more q ≡ charge s nest extra q
  charge_others q apart = ap (λ n. dearest s.steps q + n) (others q apart)

  charge_own : charge s nest more l.head ≡ charge s nest extra l.head + l.bound * round
  charge_own = omega (arith, own)

  -- nodes among which are all of the loop's
  around : (xs : List ℕ) → ((i j : ℕ) → slice_get xs i ≡ Some l.head → slice_get xs j ≡ Some l.head → i ≡ j) → filter (lies nest k) xs ≡ filter (lies nest k) order
      → total (charge s nest extra) xs ≤ total (worth_in s nest (k + 1)) xs → total (charge s nest more) xs ≤ total (worth_in s nest k) xs
  around xs once' same before = omega (
    arith,
    sum_with (charge s nest extra) (charge s nest more) l.head (l.bound * round) charge_others charge_own xs once',
    sum_times (worth_in s nest (k + 1)) l.bound (lies nest k) (worth_in s nest k) worth_next xs,
    ap (λ ys. l.bound * total (worth_in s nest (k + 1)) ys) same,
    round_low,
    before,
  )

  -- nodes among which the head isn't
  beside : (xs : List ℕ) → ((i : ℕ) → slice_get xs i ≡ Some l.head → ⊥)
      → total (charge s nest extra) xs ≤ total (worth_in s nest (k + 1)) xs → total (charge s nest more) xs ≤ total (worth_in s nest k) xs
  beside xs none before = omega (
    arith,
    sum_without (charge s nest extra) (charge s nest more) l.head (l.bound * round) charge_others charge_own xs none,
    sum_times (worth_in s nest (k + 1)) l.bound (lies nest k) (worth_in s nest k) worth_next xs,
    before,
  )

  pub room_more : ((m : ℕ) → m < k → (o : SystemLoop) × IsLoop s nest m o) → IsRoomy s nest order k more
  room_more loops = record {
    whole = around order (λ i j at_i at_j. once i j l.head at_i at_j) refl old.whole;
    outer = λ m low'. by m low' (lies nest m l.head) refl;
  }
    where
      by : (m : ℕ) → m < k → (b : Bool) → lies nest m l.head ≡ b → total (charge s nest more) (filter (lies nest m) order) ≤ total (worth_in s nest k) (filter (lies nest m) order)
      by m low' true inside =
          let o = loops m low' in
          around (filter (lies nest m) order) (λ i j at_i at_j. part_once (lies nest m) i j l.head at_i at_j)
          (filter_within (lies nest k) (lies nest m) (λ q within. is.larger m k q o.0 l o.1 here inside within) order) (old.outer m (omega arith))
      by m low' false outside = beside (filter (lies nest m) order) (λ i at. never (part_of (lies nest m) i l.head at)) (old.outer m (omega arith))
        where
          never : lies nest m l.head ≡ true → ⊥
          never yes' = cc
