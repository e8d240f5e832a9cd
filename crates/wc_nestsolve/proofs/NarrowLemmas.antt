-- The check of a narrow solution stays in its range: each product and each sum that it names does.
use Rattle.std.proofs.Common.{◌≡◌, ℕ, zero, suc, ◌==◌, ◌*◌, ◌≤◌, ◌^◌, ℤ, pos, neg_ℤ, ◌+ℤ◌, ◌-ℤ◌, ◌*ℤ◌, ◌≤ℤ◌, List, [], ◌∷◌, length, take, slice_get, Option, Some, None, Bool, true, false, refl, sym, ap, subst, ◌∙◌, arith}
use Rattle.std.proofs.Math.IntN.{*ℤ-zero}
use Rattle.std.proofs.lemmas.Int.{ints}
use Rattle.std.proofs.lemmas.Option.{none-some}
use Rattle.std.specs.List.{Contains}
use Rattle.wc_base.specs.Arithmetic.{InRange}
use Rattle.wc_base.specs.Sums.{sum_placed, chosen}
use Rattle.wc_base.proofs.Products.{monotone, one_times, times_one}
use Rattle.wc_base.proofs.SumLemmas.{sum_less}
use Rattle.wc_model.specs.declared.flow_system.Solution.{Solution}
use Rattle.wc_model.specs.declared.flow_system.System.{System}
use Rattle.wc_model.specs.declared.flow_system.SystemLimit.{SystemLimit}
use Rattle.wc_model.specs.declared.flow_system.SystemLoop.{SystemLoop}
use Rattle.wc_model.specs.declared.flow_system.SystemStep.{SystemStep}
use Rattle.wc_model.specs.Flow.Certificates.{SolutionHolds, ahead_of, back_price, dual_value, entry_price, factor_of, scaled, solution_prices}
use Rattle.wc_model.specs.Flow.Counts.{IsBounded, IsFeasible, cycles, entered}
use Rattle.wc_model.specs.Flow.Places.{is_listed, number_at}
use Rattle.wc_model.specs.Flow.Systems.{leads_to}
use Rattle.wc_model.specs.Workspace.Phases.{IsWhole}
use Rattle.wc_model.proofs.Places.{get_from_contains}
use Rattle.wc_dual.specs.Wide.{IsOut, IsWideCount, IsWideDual, IsWidePrice, IsWideSolution, balance}
use Rattle.wc_nestsolve.specs.Inner.Made.{AreNarrow}
use Rattle.wc_nestsolve.proofs.ListedSums.{get_all, sum_some}
use Rattle.wc_nestsolve.proofs.SmallLemmas.{term_low}

in_range : (z : ℤ) → neg_ℤ (pos (2 ^ 126)) ≤ℤ z → z ≤ℤ pos (2 ^ 126) → InRange z
in_range z low high = (omega (arith, ints, low), omega (arith, ints, high))

stays : (z : ℤ) → IsOut z → neg_ℤ (pos (2 ^ 126)) ≤ℤ z → z ≤ℤ pos (2 ^ 126) → ⊥
stays z out low high = out (in_range z low high)

abbrev IsNear : ℤ → ℕ → Type 0
IsNear z n = (neg_ℤ (pos (n * 2 ^ 100)) ≤ℤ z) × (z ≤ℤ pos (n * 2 ^ 100))

-- a sum of terms that aren't negative grows
module _ {X : Type 0} where
  part_low : (f : ℕ → X → ℤ) (n : ℕ) (xs : List X) → ((i : ℕ) (x : X) → pos 0 ≤ℤ f i x) → (pos 0 ≤ℤ sum_placed f (take n xs)) × (sum_placed f (take n xs) ≤ℤ sum_placed f xs)
  part_low f zero xs some = (omega (arith, ints), sum_some f xs some)
  part_low f (suc n) [] some = (omega (arith, ints), omega (arith, ints))
  part_low f (suc n) (x ∷ xs) some =
      let rest = part_low (λ i. f (suc i)) n xs (λ i. some (suc i)) in
      (omega (arith, ints, some zero x, rest.0), omega (arith, ints, rest.1))

  -- a sum of few small terms is small
  part_near : (f : ℕ → X → ℤ) (n : ℕ) (xs : List X) → ((i : ℕ) (x : X) → slice_get xs i ≡ Some x → IsNear (f i x) 1) → IsNear (sum_placed f (take n xs)) (length xs)
  part_near f zero xs each = (omega (arith, ints), omega (arith, ints))
  part_near f (suc n) [] each = (omega (arith, ints), omega (arith, ints))
  part_near f (suc n) (x ∷ xs) each =
      let rest = part_near (λ i. f (suc i)) n xs (λ i. each (suc i)) in
      let one = each zero x refl in
      (omega (arith, ints, one.0, rest.0), omega (arith, ints, one.1, rest.1))

  sum_near : (f : ℕ → X → ℤ) (xs : List X) → ((i : ℕ) (x : X) → slice_get xs i ≡ Some x → IsNear (f i x) 1) → IsNear (sum_placed f xs) (length xs)
  sum_near f [] each = (omega (arith, ints), omega (arith, ints))
  sum_near f (x ∷ xs) each =
      let rest = sum_near (λ i. f (suc i)) xs (λ i. each (suc i)) in
      let one = each zero x refl in
      (omega (arith, ints, one.0, rest.0), omega (arith, ints, one.1, rest.1))

chosen_some : (b : Bool) (z : ℤ) → pos 0 ≤ℤ z → pos 0 ≤ℤ chosen b z
chosen_some true z some = some
chosen_some false z some = omega (arith, ints)

-- a term that counts only at times, plain or less
chosen_near : (b : Bool) (z : ℤ) → pos 0 ≤ℤ z → z ≤ℤ pos (2 ^ 100) → (pos 0 ≤ℤ chosen b z) × (chosen b z ≤ℤ pos (2 ^ 100))
chosen_near true z some small = (some, small)
chosen_near false z some small = (omega (arith, ints), omega (arith, ints))

module _ (s : System) (c : Solution) (holds : SolutionHolds s c) (whole : IsWhole c) (narrow : AreNarrow s c) where
  abbrev x : ℕ → ℤ
  x = number_at c.x

  abbrev u : ℕ → ℤ
  u = number_at c.u

  abbrev v : ℕ → ℤ
  v = number_at c.v

  feasible : IsFeasible s (pos 1) x
  feasible = subst (λ d. IsFeasible s d x) whole.0 holds.feasible

  no_limit : (l : SystemLimit) → Contains s.limits l → ⊥
  no_limit l among = let place = get_from_contains s.limits l among in none-some l (sym (ap (λ ls. slice_get ls place.0) narrow.unlimited) ∙ place.1)

  no_place : (k : ℕ) (l : SystemLimit) → slice_get s.limits k ≡ Some l → ⊥
  no_place k l at = none-some l (sym (ap (λ ls. slice_get ls k) narrow.unlimited) ∙ at)

  limits_zero : (f : ℕ → SystemLimit → ℤ) (n : ℕ) → sum_placed f (take n s.limits) ≡ pos 0
  limits_zero f n = ap (λ ls. sum_placed f (take n ls)) narrow.unlimited ∙ nothing n
    where
      nothing : (n : ℕ) → sum_placed f (take n []) ≡ pos 0
      nothing zero = refl
      nothing (suc n) = refl

  times_some : (a : ℕ) (z : ℤ) → pos 0 ≤ℤ z → pos 0 ≤ℤ (pos a *ℤ z)
  times_some a z some = omega (arith, ints, monotone (pos a) (pos 0) z (omega (arith, ints)) some, *ℤ-zero (pos a))

  -- The rows of the counts.
  out_term : (p i : ℕ) (t : SystemStep) → pos 0 ≤ℤ chosen (t.source == p) (x i)
  out_term p i t = chosen_some (t.source == p) (x i) (narrow.x_some i)

  in_term : (p i : ℕ) (t : SystemStep) → pos 0 ≤ℤ chosen (leads_to t.target p) (x i)
  in_term p i t = chosen_some (leads_to t.target p) (x i) (narrow.x_some i)

  enters : (l : SystemLoop) → pos 0 ≤ℤ entered s.start (pos 1) x l
  enters l = omega (arith, ints, sum_some (λ _ i. x i) l.entry (λ _ i. narrow.x_some i), chosen_some (l.head == s.start) (pos 1) (omega (arith, ints)))

  count_stays : IsWideCount s (pos 1) x → ⊥
  count_stays (IsWideCount.node p within (n, out)) =
      let outs = part_low (λ i t. chosen (t.source == p) (x i)) n s.steps (out_term p) in
      let ins = part_low (λ i t. chosen (leads_to t.target p) (x i)) n s.steps (in_term p) in
      let split = sum_less (λ i t. chosen (t.source == p) (x i)) (λ i t. chosen (leads_to t.target p) (x i)) (take n s.steps) in
      let one = chosen_some (s.start == p) (pos 1) (omega (arith, ints)) in
      stays (pos 0 +ℤ sum_placed (balance x p) (take n s.steps)) out
      (omega (arith, ints, split, outs.0, ins.1, feasible.balanced p within, narrow.visits p within, one))
      (omega (arith, ints, split, outs.1, ins.0, narrow.visits p within))
  count_stays (IsWideCount.back l among (n, out)) =
      let place = get_from_contains s.loops l among in
      let part = part_low (λ _ i. x i) n l.back (λ _ i. narrow.x_some i) in
      let bounded = get_all (IsBounded s.start (pos 1) x) s.loops place.0 l place.1 feasible.bounded in
      stays (pos 0 +ℤ sum_placed (λ _ i. x i) (take n l.back)) out (omega (arith, ints, part.0)) (omega (arith, ints, part.1, bounded, narrow.allowed place.0 l place.1))
  count_stays (IsWideCount.entry l among (n, out)) =
      let place = get_from_contains s.loops l among in
      let part = part_low (λ _ i. x i) n l.entry (λ _ i. narrow.x_some i) in
      let one = chosen_some (l.head == s.start) (pos 1) (omega (arith, ints)) in
      stays (pos 0 +ℤ sum_placed (λ _ i. x i) (take n l.entry)) out (omega (arith, ints, part.0)) (omega (arith, ints, part.1, one, narrow.come place.0 l place.1))
  count_stays (IsWideCount.entries l among out) =
      let place = get_from_contains s.loops l among in
      stays (entered s.start (pos 1) x l) out (omega (arith, ints, enters l)) (omega (arith, ints, narrow.come place.0 l place.1))
  count_stays (IsWideCount.allowed l among out) =
      let place = get_from_contains s.loops l among in
      stays (pos l.bound *ℤ entered s.start (pos 1) x l) out (omega (arith, ints, times_some l.bound (entered s.start (pos 1) x l) (enters l))) (omega (arith, ints, narrow.allowed place.0 l place.1))
  count_stays (IsWideCount.visits l f among listed leaves) = no_limit l among
  count_stays (IsWideCount.visited l f among listed out) = no_limit l among
  count_stays (IsWideCount.limit l among leaves) = no_limit l among
  count_stays (IsWideCount.constant l among out) = no_limit l among

  -- The lines of the steps.
  ahead_near : (o : Option ℕ) → (neg_ℤ (pos (2 ^ 120)) ≤ℤ ahead_of u o) × (ahead_of u o ≤ℤ pos (2 ^ 120))
  ahead_near None = (omega (arith, ints), omega (arith, ints))
  ahead_near (Some q) = (narrow.u_low q, narrow.u_high q)

  abbrev line : SystemStep → ℤ
  line t = u t.source -ℤ ahead_of u t.target

  line_near : (t : SystemStep) → (neg_ℤ (pos (2 ^ 121)) ≤ℤ line t) × (line t ≤ℤ pos (2 ^ 121))
  line_near t =
      let ahead = ahead_near t.target in
      (omega (arith, ints, narrow.u_low t.source, ahead.1), omega (arith, ints, narrow.u_high t.source, ahead.0))

  back_term : (i k : ℕ) (l : SystemLoop) → slice_get s.loops k ≡ Some l → IsNear (chosen (is_listed i l.back) (v k)) 1
  back_term i k l at = let near = chosen_near (is_listed i l.back) (v k) (narrow.v_some k) (narrow.v_small k) in (omega (arith, ints, near.0), omega (arith, ints, near.1))

  worth_near : (b : Bool) (k : ℕ) (l : SystemLoop) → slice_get s.loops k ≡ Some l → (pos 0 ≤ℤ chosen b (pos l.bound *ℤ v k)) × (chosen b (pos l.bound *ℤ v k) ≤ℤ pos (2 ^ 100))
  worth_near b k l at = chosen_near b (pos l.bound *ℤ v k) (times_some l.bound (v k) (narrow.v_some k)) (narrow.surcharges k l at)

  entry_term : (i k : ℕ) (l : SystemLoop) → slice_get s.loops k ≡ Some l → IsNear (chosen (is_listed i l.entry) (pos l.bound *ℤ v k)) 1
  entry_term i k l at = let near = worth_near (is_listed i l.entry) k l at in (omega (arith, ints, near.0), omega (arith, ints, near.1))

  less_term : (i k : ℕ) (l : SystemLoop) → slice_get s.loops k ≡ Some l → IsNear (neg_ℤ (chosen (is_listed i l.entry) (pos l.bound *ℤ v k))) 1
  less_term i k l at = let near = worth_near (is_listed i l.entry) k l at in (omega (arith, ints, near.1), omega (arith, ints, near.0))

  backs_near : (i : ℕ) → IsNear (back_price v s.loops i) (length s.loops)
  backs_near i = sum_near (λ k l. chosen (is_listed i l.back) (v k)) s.loops (back_term i)

  entries_near : (i : ℕ) → IsNear (entry_price v s.loops i) (length s.loops)
  entries_near i = sum_near (λ k l. chosen (is_listed i l.entry) (pos l.bound *ℤ v k)) s.loops (entry_term i)

  fits : length s.loops * 2 ^ 100 ≤ 2 ^ 120
  fits = omega (arith, narrow.few)

  price_stays : IsWidePrice s (pos 1) (solution_prices c) → ⊥
  price_stays (IsWidePrice.cost i t at out) = stays (scaled (pos 1) t) out (omega (arith, ints, times_one (cycles t))) (omega (arith, ints, times_one (cycles t), narrow.costs i t at))
  price_stays (IsWidePrice.step i t at out) = let near = line_near t in stays (line t) out (omega (arith, ints, near.0)) (omega (arith, ints, near.1))
  price_stays (IsWidePrice.back i t at (n, out)) =
      let near = line_near t in
      let part = part_near (λ k l. chosen (is_listed i l.back) (v k)) n s.loops (back_term i) in
      stays (line t +ℤ sum_placed (λ k l. chosen (is_listed i l.back) (v k)) (take n s.loops)) out (omega (arith, ints, near.0, part.0, fits)) (omega (arith, ints, near.1, part.1, fits))
  price_stays (IsWidePrice.bound i k l at listed out) =
      stays (pos l.bound *ℤ v k) out (omega (arith, ints, times_some l.bound (v k) (narrow.v_some k))) (omega (arith, ints, narrow.surcharges k l at))
  price_stays (IsWidePrice.entry i t at (n, out)) =
      let near = line_near t in
      let backs = backs_near i in
      let part = part_near (λ k l. neg_ℤ (chosen (is_listed i l.entry) (pos l.bound *ℤ v k))) n s.loops (less_term i) in
      stays ((line t +ℤ back_price v s.loops i) +ℤ sum_placed (λ k l. neg_ℤ (chosen (is_listed i l.entry) (pos l.bound *ℤ v k))) (take n s.loops)) out
      (omega (arith, ints, near.0, backs.0, part.0, fits)) (omega (arith, ints, near.1, backs.1, part.1, fits))
  price_stays (IsWidePrice.factor i k t l at there out) = no_place k l there
  price_stays (IsWidePrice.limit i t at (n, out)) =
      let near = line_near t in
      let backs = backs_near i in
      let entries = entries_near i in
      let none = limits_zero (λ k l. factor_of t.source l.factors *ℤ number_at c.w k) n in
      stays ((line t +ℤ back_price v s.loops i -ℤ entry_price v s.loops i) +ℤ sum_placed (λ k l. factor_of t.source l.factors *ℤ number_at c.w k) (take n s.limits)) out
      (omega (arith, ints, near.0, backs.0, entries.1, none, fits)) (omega (arith, ints, near.1, backs.1, entries.0, none, fits))

  -- The value.
  start_term : (k : ℕ) (l : SystemLoop) → slice_get s.loops k ≡ Some l → IsNear (chosen (l.head == s.start) (pos l.bound *ℤ v k)) 1
  start_term k l at = let near = worth_near (l.head == s.start) k l at in (omega (arith, ints, near.0), omega (arith, ints, near.1))

  starts_near : IsNear (sum_placed (λ k l. chosen (l.head == s.start) (pos l.bound *ℤ v k)) s.loops) (length s.loops)
  starts_near = sum_near (λ k l. chosen (l.head == s.start) (pos l.bound *ℤ v k)) s.loops start_term

  dual_stays : IsWideDual s (solution_prices c) → ⊥
  dual_stays (IsWideDual.bound k l at head out) =
      stays (pos l.bound *ℤ v k) out (omega (arith, ints, times_some l.bound (v k) (narrow.v_some k))) (omega (arith, ints, narrow.surcharges k l at))
  dual_stays (IsWideDual.loops (n, out)) =
      let part = part_near (λ k l. chosen (l.head == s.start) (pos l.bound *ℤ v k)) n s.loops start_term in
      stays (u s.start +ℤ sum_placed (λ k l. chosen (l.head == s.start) (pos l.bound *ℤ v k)) (take n s.loops)) out
      (omega (arith, ints, narrow.u_low s.start, part.0, fits)) (omega (arith, ints, narrow.u_high s.start, part.1, fits))
  dual_stays (IsWideDual.constant k l at out) = no_place k l at
  dual_stays (IsWideDual.limits (n, out)) =
      let none = limits_zero (λ k l. l.constant *ℤ number_at c.w k) n in
      stays ((u s.start +ℤ sum_placed (λ k l. chosen (l.head == s.start) (pos l.bound *ℤ v k)) s.loops) +ℤ sum_placed (λ k l. l.constant *ℤ number_at c.w k) (take n s.limits)) out
      (omega (arith, ints, narrow.u_low s.start, starts_near.0, none, fits)) (omega (arith, ints, narrow.u_high s.start, starts_near.1, none, fits))

  dual_is : dual_value s (solution_prices c) ≡ u s.start +ℤ sum_placed (λ k l. chosen (l.head == s.start) (pos l.bound *ℤ v k)) s.loops
  dual_is = omega (arith, ints, ap (λ ls. sum_placed (λ k l. l.constant *ℤ number_at c.w k) ls) narrow.unlimited)

  scaled_num : c.num *ℤ c.scale ≡ c.num
  scaled_num = ap (λ z. c.num *ℤ z) whole.1 ∙ times_one c.num

  whole_dual : c.den *ℤ dual_value s (solution_prices c) ≡ dual_value s (solution_prices c)
  whole_dual = ap (λ z. z *ℤ dual_value s (solution_prices c)) whole.0 ∙ one_times (dual_value s (solution_prices c))

  num_is : c.num ≡ dual_value s (solution_prices c)
  num_is = sym scaled_num ∙ holds.dual ∙ whole_dual

  num_near : (neg_ℤ (pos (2 ^ 121)) ≤ℤ c.num) × (c.num ≤ℤ pos (2 ^ 121))
  num_near = (omega (arith, ints, num_is, dual_is, narrow.u_low s.start, starts_near.0, fits), omega (arith, ints, num_is, dual_is, narrow.u_high s.start, starts_near.1, fits))

  paid_some : (i : ℕ) (t : SystemStep) → pos 0 ≤ℤ (cycles t *ℤ x i)
  paid_some i t = times_some t.cost (x i) (narrow.x_some i)

  pub never_wide : IsWideSolution s c → ⊥
  never_wide (IsWideSolution.counts wide) = count_stays (subst (λ d. IsWideCount s d x) whole.0 wide)
  never_wide (IsWideSolution.prices wide) = price_stays (subst (λ d. IsWidePrice s d (solution_prices c)) whole.1 wide)
  never_wide (IsWideSolution.dual wide) = dual_stays wide
  never_wide (IsWideSolution.cost i t at out) =
      let term = term_low (λ j r. cycles r *ℤ x j) s.steps paid_some i t at in
      stays (cycles t *ℤ x i) out (omega (arith, ints, paid_some i t)) (omega (arith, ints, term.1, holds.value, num_near.1))
  never_wide (IsWideSolution.value (n, out)) =
      let part = part_low (λ i t. cycles t *ℤ x i) n s.steps paid_some in
      stays (pos 0 +ℤ sum_placed (λ i t. cycles t *ℤ x i) (take n s.steps)) out (omega (arith, ints, part.0)) (omega (arith, ints, part.1, holds.value, num_near.1))
  never_wide (IsWideSolution.num out) = stays (c.num *ℤ c.scale) out (omega (arith, ints, scaled_num, num_near.0)) (omega (arith, ints, scaled_num, num_near.1))
  never_wide (IsWideSolution.den out) =
      stays (c.den *ℤ dual_value s (solution_prices c)) out (omega (arith, ints, whole_dual, num_is, num_near.0)) (omega (arith, ints, whole_dual, num_is, num_near.1))
