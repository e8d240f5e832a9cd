-- The rounds of one loop more, and the counts at the end: they are feasible, and their value is that of the prices.
use Rattle.std.proofs.Common.{◌≡◌, ℕ, ◌==◌, ◌+◌, ◌<◌, ◌≤◌, ◌⊎◌, inl, inr, ℤ, pos, ◌+ℤ◌, ◌-ℤ◌, ◌*ℤ◌, ◌≤ℤ◌, List, [], length, slice_get, get_or, Some, Bool, true, false, sym, ap, subst, ◌∙◌, arith}
use Rattle.std.proofs.Math.IntN.{*ℤ-zero, zero-*ℤ, *ℤ_comm}
use Rattle.std.proofs.lemmas.Bool.{cases_eq}
use Rattle.std.proofs.lemmas.Int.{ints}
use Rattle.std.proofs.lemmas.Option.{slice_get_within, slice_get-get_or}
use Rattle.std.specs.Prelude.{All}
use Rattle.wc_base.specs.Sums.{sum_placed, sum_in, chosen}
use Rattle.wc_base.proofs.Products.{assoc, exchange, monotone, spread, spread_left, spread_less, times_one}
use Rattle.wc_base.proofs.SumLemmas.{sum_same, sum_add, sum_less}
use Rattle.wc_model.specs.declared.flow_system.System.{System}
use Rattle.wc_model.specs.declared.flow_system.SystemLoop.{SystemLoop}
use Rattle.wc_model.specs.declared.flow_system.SystemStep.{SystemStep}
use Rattle.wc_model.specs.declared.graphs.Nest.{Nest}
use Rattle.wc_model.specs.Flow.Certificates.{back_price, entry_price}
use Rattle.wc_model.specs.Flow.Counts.{IsBounded, IsFeasible, IsLimited, cycles, entered, value_of}
use Rattle.wc_model.specs.Flow.Systems.{IsSystem, IsSystemLoop, leads_to}
use Rattle.wc_nestsolve.specs.Inner.Flows.{IsFlow, IsRoundOf, linear}
use Rattle.wc_nestsolve.specs.Inner.Nested.{IsLoop}
use Rattle.wc_nestsolve.specs.Inner.Weights.{weight}
use Rattle.wc_nestsolve.proofs.ListedSums.{by_loop, chosen_more, get_all, linear_more, places_more, sum_some, times_chosen}

chosen_some : (b : Bool) → pos 0 ≤ℤ chosen b (pos 1)
chosen_some true = omega (arith, ints)
chosen_some false = omega (arith, ints)

times_some : (a b : ℤ) → pos 0 ≤ℤ a → pos 0 ≤ℤ b → pos 0 ≤ℤ (a *ℤ b)
times_some a b some_a some_b = omega (arith, ints, monotone a (pos 0) b some_a some_b, *ℤ-zero a)

same_loop : (s : System) (k m : ℕ) (l o : SystemLoop) → slice_get s.loops k ≡ Some l → slice_get s.loops m ≡ Some o → m ≡ k → o ≡ l
same_loop s k m l o here there same = let one : slice_get s.loops m ≡ slice_get s.loops k = ap (slice_get s.loops) same in cc

module _ (s : System) (nest : Nest) (v : ℕ → ℤ) (value : ℤ) (k : ℕ) (l : SystemLoop) (here : IsLoop s nest k l) (x y : ℕ → ℤ) (r : ℤ)
    (flow : IsFlow s nest v k value x) (round : IsRoundOf s nest v k y) (rounds : r ≡ pos l.bound *ℤ entered s.start (pos 1) x l) where
  abbrev z : ℕ → ℤ
  z i = x i +ℤ r *ℤ y i

  r_some : pos 0 ≤ℤ r
  r_some = subst (λ a. pos 0 ≤ℤ a) (sym rounds)
      (times_some (pos l.bound) (entered s.start (pos 1) x l) (omega (arith, ints)) (omega (arith, ints, sum_some (λ _ i. x i) l.entry (λ _ i. flow.some i), chosen_some (l.head == s.start))))

  -- what comes into a loop is at least as much as before
  entered_more : (m : ℕ) (o : SystemLoop) → entered s.start (pos 1) z o ≡ entered s.start (pos 1) x o +ℤ r *ℤ sum_in y o.entry
  entered_more m o = omega (arith, ints, places_more o.entry x y r)

  pub entered_same : (m : ℕ) (o : SystemLoop) → IsLoop s nest m o → m ≤ k → entered s.start (pos 1) z o ≡ entered s.start (pos 1) x o
  entered_same m o there low = omega (arith, ints, entered_more m o, ap (λ a. r *ℤ a) (round.entries m o there low), *ℤ-zero r)

  back_same : (m : ℕ) (o : SystemLoop) → IsLoop s nest m o → (m ≡ k → ⊥) → sum_in z o.back ≡ sum_in x o.back
  back_same m o there apart = omega (arith, ints, places_more o.back x y r, ap (λ a. r *ℤ a) (round.others m o there apart), *ℤ-zero r)

  back_own : sum_in z l.back ≡ pos l.bound *ℤ entered s.start (pos 1) z l
  back_own = omega (
    arith,
    ints,
    places_more l.back x y r,
    ap (λ a. r *ℤ a) (round.own l here),
    times_one r,
    flow.ahead k l here (omega arith),
    rounds,
    ap (λ a. pos l.bound *ℤ a) (entered_same k l here (omega arith)),
  )

  pub flow_after : IsFlow s nest v (k + 1) value z
  flow_after = record {
    some = λ i. omega (arith, ints, flow.some i, times_some r (y i) r_some (round.some i));
    balanced = λ p. omega (
      arith,
      ints,
      chosen_more (λ i t. t.source == p) s.steps x y r,
      chosen_more (λ i t. leads_to t.target p) s.steps x y r,
      flow.balanced p,
      ap (λ a. r *ℤ a) (round.balanced p),
    );
    bounded = λ m o there. bounded_at m o there (cases_eq m k);
    tight = λ m o there less. tight_at m o there less (cases_eq m k);
    ahead = λ m o there more. omega (arith, ints, back_same m o there (λ same. absurd (omega arith)), flow.ahead m o there (omega arith));
    value_is = omega (arith, ints, linear_more (weight s v) s.steps x y r, flow.value_is, ap (λ a. r *ℤ a) round.value_is, *ℤ-zero r);
  }
    where
      own_back : (m : ℕ) (o : SystemLoop) → IsLoop s nest m o → m ≡ k → sum_in z o.back ≡ pos o.bound *ℤ entered s.start (pos 1) z o
      own_back m o there same = subst (λ a. sum_in z a.back ≡ pos a.bound *ℤ entered s.start (pos 1) z a) (sym (same_loop s k m l o here there same)) back_own

      bounded_at : (m : ℕ) (o : SystemLoop) → IsLoop s nest m o → (m ≡ k) ⊎ (m ≡ k → ⊥) → sum_in z o.back ≤ℤ (pos o.bound *ℤ entered s.start (pos 1) z o)
      bounded_at m o there (inl same) = omega (arith, ints, own_back m o there same)
      bounded_at m o there (inr apart) = omega (
        arith,
        ints,
        back_same m o there apart,
        flow.bounded m o there,
        monotone (pos o.bound) (entered s.start (pos 1) x o) (entered s.start (pos 1) z o) (omega (arith, ints))
            (omega (arith, ints, entered_more m o, times_some r (sum_in y o.entry) r_some (sum_some (λ _ i. y i) o.entry (λ _ i. round.some i)))),
      )

      tight_at : (m : ℕ) (o : SystemLoop) → IsLoop s nest m o → m < k + 1 → (m ≡ k) ⊎ (m ≡ k → ⊥) → v m *ℤ sum_in z o.back ≡ v m *ℤ (pos o.bound *ℤ entered s.start (pos 1) z o)
      tight_at m o there less (inl same) = ap (λ a. v m *ℤ a) (own_back m o there same)
      tight_at m o there less (inr apart) =
          let low : m < k = omega arith in
          ap (λ a. v m *ℤ a) (back_same m o there apart) ∙ flow.tight m o there low ∙ sym (ap (λ a. v m *ℤ (pos o.bound *ℤ a)) (entered_same m o there (omega arith)))

-- a loop whose round is worth nothing needs none
module _ (s : System) (nest : Nest) (v : ℕ → ℤ) (value : ℤ) (k : ℕ) (x : ℕ → ℤ) (flow : IsFlow s nest v k value x) (none : v k ≡ pos 0) where
  pub flow_skip : IsFlow s nest v (k + 1) value x
  flow_skip = record {
    some = flow.some;
    balanced = flow.balanced;
    bounded = flow.bounded;
    tight = λ m o there less. tight_at m o there less (cases_eq m k);
    ahead = λ m o there more. flow.ahead m o there (omega arith);
    value_is = flow.value_is;
  }
    where
      tight_at : (m : ℕ) (o : SystemLoop) → IsLoop s nest m o → m < k + 1 → (m ≡ k) ⊎ (m ≡ k → ⊥) → v m *ℤ sum_in x o.back ≡ v m *ℤ (pos o.bound *ℤ entered s.start (pos 1) x o)
      tight_at m o there less (inl same) =
          let worth : v m ≡ pos 0 = ap v same ∙ none in
          ap (λ a. a *ℤ sum_in x o.back) worth ∙ zero-*ℤ (sum_in x o.back) ∙ sym (zero-*ℤ (pos o.bound *ℤ entered s.start (pos 1) x o)) ∙ sym (ap (λ a. a *ℤ (pos o.bound *ℤ entered s.start (pos 1) x o)) worth)
      tight_at m o there less (inr apart) = flow.tight m o there (omega arith)

all_from : {X : Type 0} (P : X → Type 0) (xs : List X) → ((k : ℕ) (x : X) → slice_get xs k ≡ Some x → P x) → All P xs
all_from P xs each k d within = each k (get_or xs k d) (slice_get-get_or xs k d within)

-- all rounds are added
module _ (s : System) (nest : Nest) (v : ℕ → ℤ) (value : ℤ) (x : ℕ → ℤ) (sound : IsSystem s) (flow : IsFlow s nest v (length s.loops) value x) where
  pub flow_feasible : s.limits ≡ [] → IsFeasible s (pos 1) x
  flow_feasible unlimited = record {
    whole = omega (arith, ints);
    some = λ i within. flow.some i;
    balanced = λ p within. flow.balanced p;
    bounded = all_from (IsBounded s.start (pos 1) x) s.loops flow.bounded;
    limited = subst (All (IsLimited s.steps (pos 1) x)) (sym unlimited) (λ k d within. absurd (omega arith));
  }

  abbrev start_part : ℤ
  start_part = sum_placed (λ k l. chosen (l.head == s.start) (pos l.bound *ℤ v k)) s.loops

  loop_paid : (k : ℕ) (l : SystemLoop) → IsLoop s nest k l → v k *ℤ sum_in x l.back ≡ (pos l.bound *ℤ v k) *ℤ sum_in x l.entry +ℤ chosen (l.head == s.start) (pos l.bound *ℤ v k)
  loop_paid k l at =
      flow.tight k l at (slice_get_within s.loops k l at)
      ∙ exchange (v k) (pos l.bound) (entered s.start (pos 1) x l) ∙ sym (assoc (pos l.bound) (v k) (entered s.start (pos 1) x l))
      ∙ spread_left (pos l.bound *ℤ v k) (sum_in x l.entry) (chosen (l.head == s.start) (pos 1))
      ∙ ap (λ a. (pos l.bound *ℤ v k) *ℤ sum_in x l.entry +ℤ a) (times_chosen (l.head == s.start) (pos l.bound *ℤ v k) (pos 1) ∙ ap (chosen (l.head == s.start)) (times_one (pos l.bound *ℤ v k)))

  abbrev of_entry : ℕ → SystemStep → ℤ
  of_entry i t = x i *ℤ entry_price v s.loops i

  abbrev of_back : ℕ → SystemStep → ℤ
  of_back i t = x i *ℤ back_price v s.loops i

  parts : linear (weight s v) s.steps x ≡ value_of cycles s.steps x +ℤ sum_placed of_entry s.steps -ℤ sum_placed of_back s.steps
  parts =
      sum_same (λ i t. weight s v i t *ℤ x i) (λ i t. (cycles t *ℤ x i +ℤ of_entry i t) -ℤ of_back i t) s.steps
      (λ i t at. share (cycles t) (entry_price v s.loops i) (back_price v s.loops i) (x i))
      ∙ sum_less (λ i t. cycles t *ℤ x i +ℤ of_entry i t) of_back s.steps
      ∙ ap (λ a. a -ℤ sum_placed of_back s.steps) (sum_add (λ i t. cycles t *ℤ x i) of_entry s.steps)
    where
      share : (c e b n : ℤ) → ((c +ℤ e) -ℤ b) *ℤ n ≡ (c *ℤ n +ℤ n *ℤ e) -ℤ n *ℤ b
      share c e b n = omega (arith, ints, spread_less (c +ℤ e) b n, spread c e n, *ℤ_comm e n, *ℤ_comm b n)

  pub flow_value : value_of cycles s.steps x ≡ value +ℤ start_part
  flow_value =
      let back = by_loop s x (λ l. l.back) (λ k l. v k) (λ k l at. (get_all (IsSystemLoop s) s.loops k l at sound.loops).back) in
      let entry = by_loop s x (λ l. l.entry) (λ k l. pos l.bound *ℤ v k) (λ k l at. (get_all (IsSystemLoop s) s.loops k l at sound.loops).entry) in
      let paid = sum_same (λ k l. v k *ℤ sum_in x l.back) (λ k l. (pos l.bound *ℤ v k) *ℤ sum_in x l.entry +ℤ chosen (l.head == s.start) (pos l.bound *ℤ v k)) s.loops loop_paid in
      let apart = sum_add (λ k l. (pos l.bound *ℤ v k) *ℤ sum_in x l.entry) (λ k l. chosen (l.head == s.start) (pos l.bound *ℤ v k)) s.loops in
      omega (arith, ints, parts, flow.value_is, back, entry, paid, apart)
