-- Chains of steps: each step stands in exactly one column, and where columns begin and end.
use Rattle.std.proofs.Common.{◌≡◌, ℕ, zero, suc, ◌+◌, ◌-◌, ◌<◌, ◌≤◌, ◌==◌, nat_lt, ◌||◌, ◌&&◌, not, ℤ, pos, ◌+ℤ◌, ◌≤ℤ◌, Bool, true, false, if◌then◌else◌, List, [], ◌∷◌, ◌++◌, map, get_or, drop, length, inl, inr, ◌⊎◌, ⊎_elim, Option, None, Some, option_and_then, refl, sym, ap, ap₂, subst, ◌∙◌, arith}
use Rattle.std.specs.Prelude.{Contains, slice_get}
use Rattle.std.specs.List.{All}
use Rattle.std.proofs.lemmas.Bool.{and_parts, cases_eq, eq-eqb, ne_eqb, or_parts}
use Rattle.std.proofs.lemmas.Bool.Decides.{nat_tests}
use Rattle.std.proofs.lemmas.Int.{ints}
use Rattle.std.proofs.lemmas.List.Elements.{All-cons, All-nil}
use Rattle.std.proofs.lemmas.Option.{get_or_from_slice_get, same_Some, slice_get-get_or, slice_get_within}
use Rattle.wc_base.specs.Sums.{chosen, sum_in, sum_placed}
use Rattle.wc_base.proofs.SumLemmas.{sum_most}
use Rattle.wc_base.proofs.TestLemmas.{if_false, if_true}
use Rattle.wc_dual.proofs.DualityLemmas.{same_number, sum_listed, turned}
use Rattle.wc_model.proofs.Places.{get_from_contains}
use Rattle.wc_model.specs.declared.flow_system.System.{System}
use Rattle.wc_model.specs.declared.flow_system.SystemStep.{SystemStep}
use Rattle.wc_model.specs.Flow.Cells.{column_from, column_of, columns_of, first_steps, in_order, ins_of, is_passed, next_of, only_of, outs_of, passed_out, starts_before, with_column}
use Rattle.wc_model.specs.Flow.Ends.{system_ends}
use Rattle.wc_model.specs.Flow.Places.{IsOnce, is_listed, places_from}
use Rattle.wc_model.specs.Flow.Systems.{leads_to}
use Rattle.wc_model.specs.Flow.Tableaus.{no_step}
use Rattle.wc_model.specs.Flow.Walks.{Joins}
use Rattle.wc_model.specs.Program.Reaching.{Reaches, here, along}

abbrev pub step_at : System → ℕ → SystemStep
step_at s i = get_or s.steps i no_step

-- Places of elements that pass a test.
abbrev pub count : ℕ → List ℕ → ℕ
count k [] = 0
count k (x ∷ xs) = (if k == x then 1 else 0) + count k xs

module _ (test : ℕ → SystemStep → Bool) where
  count_before : (i k : ℕ) (steps : List SystemStep) → i < k → count i (places_from k test steps) ≡ 0
  count_before i k [] few = refl
  count_before i k (t ∷ steps) few = by (test k t) (count_before i (k + 1) steps (omega (arith, few)))
    where
      by : (b : Bool) → count i (places_from (k + 1) test steps) ≡ 0 → count i (if b then k ∷ places_from (k + 1) test steps else places_from (k + 1) test steps) ≡ 0
      by true later = ap₂ (λ (b : Bool) n. (if b then 1 else 0) + n) (ne_eqb i k (λ same. omega (arith, few, same))) later
      by false later = later

  pub count_places : (k m : ℕ) (steps : List SystemStep) → m < length steps → count (k + m) (places_from k test steps) ≡ (if test (k + m) (get_or steps m no_step) then 1 else 0)
  count_places k m [] within = absurd (omega arith)
  count_places k zero (t ∷ steps) within =
      let at : k ≡ k + 0 = omega arith in
      subst (λ (i : ℕ). count i (if test k t then k ∷ places_from (k + 1) test steps else places_from (k + 1) test steps) ≡ (if test i t then 1 else 0)) at (by (test k t))
    where
      later : count k (places_from (k + 1) test steps) ≡ 0
      later = count_before k (k + 1) steps (omega arith)

      by : (b : Bool) → count k (if b then k ∷ places_from (k + 1) test steps else places_from (k + 1) test steps) ≡ (if b then 1 else 0)
      by true = ap₂ (λ (b : Bool) n. (if b then 1 else 0) + n) (eq-eqb k k refl) later
      by false = later
  count_places k (suc m) (t ∷ steps) within =
      let more : k + 1 + m ≡ k + suc m = omega arith in
      by (test k t) (subst (λ (i : ℕ). count i (places_from (k + 1) test steps) ≡ (if test i (get_or steps m no_step) then 1 else 0)) more (count_places (k + 1) m steps (omega arith)))
    where
      by : (b : Bool) → count (k + suc m) (places_from (k + 1) test steps) ≡ (if test (k + suc m) (get_or steps m no_step) then 1 else 0)
          → count (k + suc m) (if b then k ∷ places_from (k + 1) test steps else places_from (k + 1) test steps) ≡ (if test (k + suc m) (get_or steps m no_step) then 1 else 0)
      by true later = ap₂ (λ (b : Bool) n. (if b then 1 else 0) + n) (ne_eqb (k + suc m) k (λ same. omega (arith, same))) later ∙ zero_add (if test (k + suc m) (get_or steps m no_step) then 1 else 0)
        where
          zero_add : (n : ℕ) → 0 + n ≡ n
          zero_add n = omega arith
      by false later = later

  -- a place that is listed passes the test
  pub places_pass : (P : ℕ → Type 0) (k : ℕ) (steps : List SystemStep) → ((m : ℕ) → m < length steps → test (k + m) (get_or steps m no_step) ≡ true → P (k + m)) → All P (places_from k test steps)
  places_pass P k [] each = All-nil P
  places_pass P k (t ∷ steps) each =
      by (test k t) refl
      (places_pass P (k + 1) steps (λ m within passes. let more : k + 1 + m ≡ k + suc m = omega arith in
      subst P (sym more) (each (suc m) (omega (arith, within)) (subst (λ (i : ℕ). test i (get_or steps m no_step) ≡ true) more passes))))
    where
      at : k ≡ k + 0
      at = omega arith

      by : (b : Bool) → test k t ≡ b → All P (places_from (k + 1) test steps) → All P (if b then k ∷ places_from (k + 1) test steps else places_from (k + 1) test steps)
      by true passes later = All-cons P k (places_from (k + 1) test steps) (subst P (sym at) (each 0 (omega arith) (subst (λ (i : ℕ). test i t ≡ true) at passes))) later
      by false fails later = later

count_one : (i a : ℕ) → count i (a ∷ []) ≡ 1 → i ≡ a
count_one i a is = by (cases_eq i a)
  where
    by : (i ≡ a) ⊎ (i ≡ a → ⊥) → i ≡ a
    by (inl same) = same
    by (inr apart) = absurd (omega (arith, is, ap (λ (b : Bool). (if b then 1 else 0) + 0) (ne_eqb i a apart)))

module _ (s : System) where
  -- the one step out of and into a node that is passed through
  single : (l : List ℕ) → (length l == 1) ≡ true → (i : ℕ) × (l ≡ i ∷ [])
  single [] is = absurd (cc)
  single (i ∷ []) is = (i, refl)
  single (i ∷ j ∷ more) is = let many : (suc (suc (length more)) == 1) ≡ false = grind (arith, nat_tests) in absurd (cc)

  pub record IsPassed (q : ℕ) : Type 0 where
    pub other : (q == s.start) ≡ false
    pub entry : ℕ
    pub exit : ℕ
    pub ins : ins_of s.steps q ≡ entry ∷ []
    pub outs : outs_of s.steps q ≡ exit ∷ []

  pub passed_is : (q : ℕ) → is_passed s q ≡ true → IsPassed q
  passed_is q is =
      let both = and_parts (not (q == s.start) && length (ins_of s.steps q) == 1) (length (outs_of s.steps q) == 1) is in
      let first = and_parts (not (q == s.start)) (length (ins_of s.steps q) == 1) both.0 in
      let ins = single (ins_of s.steps q) first.1 in
      let outs = single (outs_of s.steps q) both.1 in
      record { other = unturn (q == s.start) first.0; entry = ins.0; exit = outs.0; ins = ins.1; outs = outs.1 }
    where
      unturn : (b : Bool) → not b ≡ true → b ≡ false
      unturn true e = absurd (cc)
      unturn false e = refl

  pub exit_is : (q i : ℕ) (p : IsPassed q) → i < length s.steps → (step_at s i).source ≡ q → i ≡ p.exit
  exit_is q i p within same =
      let none : 0 + i ≡ i = omega arith in
      let listed : count i (outs_of s.steps q) ≡ 1 =
      subst (λ (n : ℕ). count n (outs_of s.steps q) ≡ 1) none (count_places (λ m t. t.source == q) 0 i s.steps within ∙ ap (λ (b : Bool). if b then 1 else 0) (eq-eqb (step_at s i).source q same)) in
      count_one i p.exit (ap (count i) (sym p.outs) ∙ listed)

  leads_there : (o : Option ℕ) (q : ℕ) → o ≡ Some q → leads_to o q ≡ true
  leads_there None q is = absurd (cc)
  leads_there (Some p) q is = eq-eqb p q (same_Some p q is)

  pub entry_is : (q i : ℕ) (p : IsPassed q) → i < length s.steps → (step_at s i).target ≡ Some q → i ≡ p.entry
  entry_is q i p within same =
      let none : 0 + i ≡ i = omega arith in
      let listed : count i (ins_of s.steps q) ≡ 1 =
      subst (λ (n : ℕ). count n (ins_of s.steps q) ≡ 1) none (count_places (λ m t. leads_to t.target q) 0 i s.steps within ∙ ap (λ (b : Bool). if b then 1 else 0) (leads_there (step_at s i).target q same)) in
      count_one i p.entry (ap (count i) (sym p.ins) ∙ listed)

  -- the exit is a step that leaves the node
  out_places : (q : ℕ) → All (λ i. (i < length s.steps) × ((step_at s i).source ≡ q)) (outs_of s.steps q)
  out_places q =
      places_pass (λ m t. t.source == q) (λ i. (i < length s.steps) × ((step_at s i).source ≡ q)) 0 s.steps
      (λ m within passes. let none : 0 + m ≡ m = omega arith in
      subst (λ (i : ℕ). (i < length s.steps) × ((step_at s i).source ≡ q)) (sym none) (within, same_number q (step_at s m).source passes))

  pub exit_leaves : (q : ℕ) (p : IsPassed q) → (p.exit < length s.steps) × ((step_at s p.exit).source ≡ q)
  exit_leaves q p = subst (λ (l : List ℕ). All (λ i. (i < length s.steps) × ((step_at s i).source ≡ q)) l) p.outs (out_places q) 0 0 (omega arith)

  in_places : (q : ℕ) → All (λ i. (i < length s.steps) × ((step_at s i).target ≡ Some q)) (ins_of s.steps q)
  in_places q =
      places_pass (λ m t. leads_to t.target q) (λ i. (i < length s.steps) × ((step_at s i).target ≡ Some q)) 0 s.steps
      (λ m within passes. let none : 0 + m ≡ m = omega arith in
      subst (λ (i : ℕ). (i < length s.steps) × ((step_at s i).target ≡ Some q)) (sym none) (within, leads_some (step_at s m).target passes))
    where
      leads_some : (o : Option ℕ) → leads_to o q ≡ true → o ≡ Some q
      leads_some None e = absurd (cc)
      leads_some (Some r) e = ap Some (same_number q r e)

  pub entry_leads : (q : ℕ) (p : IsPassed q) → (p.entry < length s.steps) × ((step_at s p.entry).target ≡ Some q)
  entry_leads q p = subst (λ (l : List ℕ). All (λ i. (i < length s.steps) × ((step_at s i).target ≡ Some q)) l) p.ins (in_places q) 0 0 (omega arith)

  pub passed_out_is : (q : ℕ) (p : IsPassed q) → is_passed s q ≡ true → passed_out s q ≡ Some p.exit
  passed_out_is q p is = if_true (is_passed s q) (only_of (outs_of s.steps q)) None is ∙ ap only_of p.outs

  -- What the next step says.
  pub record IsNext (i k : ℕ) : Type 0 where
    pub within : i < length s.steps
    pub inside : k < length s.steps
    pub leads : (step_at s i).target ≡ Some (step_at s k).source
    pub passes : is_passed s (step_at s k).source ≡ true

  next_at : (i : ℕ) (o : Option SystemStep) → slice_get s.steps i ≡ o → next_of s i ≡ option_and_then (passed_out s) (option_and_then (λ t. t.target) o)
  next_at i o is = ap (λ p. option_and_then (passed_out s) (option_and_then (λ t. t.target) p)) is

  pub next_is : (i k : ℕ) → next_of s i ≡ Some k → IsNext i k
  next_is i k is = by (slice_get s.steps i) refl
    where
      at : (t : SystemStep) → slice_get s.steps i ≡ Some t → (o : Option ℕ) → t.target ≡ o → option_and_then (passed_out s) o ≡ Some k → IsNext i k
      at t found None leads e = absurd (cc)
      at t found (Some q) leads e = last (is_passed s q) refl
        where
          last : (b : Bool) → is_passed s q ≡ b → IsNext i k
          last false fails = absurd (wrong (sym (if_false (is_passed s q) (only_of (outs_of s.steps q)) None fails) ∙ e))
            where
              wrong : None ≡ Some k → ⊥
              wrong f = cc
          last true passes =
              let p = passed_is q passes in
              let same : p.exit ≡ k = same_Some p.exit k (sym (passed_out_is q p passes) ∙ e) in
              let leaves : (k < length s.steps) × ((step_at s k).source ≡ q) = subst (λ (n : ℕ). (n < length s.steps) × ((step_at s n).source ≡ q)) same (exit_leaves q p) in
              let step : step_at s i ≡ t = get_or_from_slice_get s.steps i t no_step found in
              record {
                within = slice_get_within s.steps i t found;
                inside = leaves.0;
                leads = ap (λ (x : SystemStep). x.target) step ∙ leads ∙ ap Some (sym leaves.1);
                passes = ap (is_passed s) leaves.1 ∙ passes;
              }

      by : (o : Option SystemStep) → slice_get s.steps i ≡ o → IsNext i k
      by None p = absurd (wrong (sym (next_at i None p) ∙ is))
        where
          wrong : None ≡ Some k → ⊥
          wrong e = cc
      by (Some t) p = at t p t.target refl (sym (next_at i (Some t) p) ∙ is)

  -- a step to a node that is passed through has a next one
  pub next_there : (i q : ℕ) (p : IsPassed q) → i < length s.steps → is_passed s q ≡ true → (step_at s i).target ≡ Some q → next_of s i ≡ Some p.exit
  next_there i q p within passes leads =
      next_at i (Some (step_at s i)) (slice_get-get_or s.steps i no_step within) ∙ ap (option_and_then (passed_out s)) leads ∙ passed_out_is q p passes

  pub next_injective : (i j k : ℕ) → next_of s i ≡ Some k → next_of s j ≡ Some k → i ≡ j
  next_injective i j k first second =
      let a = next_is i k first in
      let b = next_is j k second in
      let p = passed_is (step_at s k).source a.passes in
      entry_is (step_at s k).source i p a.within a.leads ∙ sym (entry_is (step_at s k).source j p b.within b.leads)

  -- Steps on from a first one.
  abbrev pub on : ℕ → ℕ → Option ℕ
  on zero i = Some i
  on (suc k) i = option_and_then (next_of s) (on k i)

  abbrev pub IsFirst : ℕ → Type 0
  IsFirst i = (i < length s.steps) × (is_passed s (step_at s i).source ≡ false)

  -- one step back
  on_back : (a i k : ℕ) → on (suc a) i ≡ Some k → (m : ℕ) × (on a i ≡ Some m) × (next_of s m ≡ Some k)
  on_back a i k is = by (on a i) refl is
    where
      by : (o : Option ℕ) → on a i ≡ o → option_and_then (next_of s) o ≡ Some k → (m : ℕ) × (on a i ≡ Some m) × (next_of s m ≡ Some k)
      by None p e = absurd (cc)
      by (Some m) p e = (m, p, e)

  on_passed : (a i k : ℕ) → on (suc a) i ≡ Some k → is_passed s (step_at s k).source ≡ true
  on_passed a i k is = let back = on_back a i k is in (next_is back.0 k back.2).passes

  pub on_same : (a b i j k : ℕ) → IsFirst i → IsFirst j → on a i ≡ Some k → on b j ≡ Some k → (a ≡ b) × (i ≡ j)
  on_same zero zero i j k first other p q = (refl, same_Some i k p ∙ sym (same_Some j k q))
  on_same zero (suc b) i j k first other p q =
      let passes : is_passed s (step_at s i).source ≡ true = subst (λ (n : ℕ). is_passed s (step_at s n).source ≡ true) (sym (same_Some i k p)) (on_passed b j k q) in
      absurd (wrong (is_passed s (step_at s i).source) first.1 passes)
    where
      wrong : (b : Bool) → b ≡ false → b ≡ true → ⊥
      wrong true e f = cc
      wrong false e f = cc
  on_same (suc a) zero i j k first other p q =
      let passes : is_passed s (step_at s j).source ≡ true = subst (λ (n : ℕ). is_passed s (step_at s n).source ≡ true) (sym (same_Some j k q)) (on_passed a i k p) in
      absurd (wrong (is_passed s (step_at s j).source) other.1 passes)
    where
      wrong : (b : Bool) → b ≡ false → b ≡ true → ⊥
      wrong true e f = cc
      wrong false e f = cc
  on_same (suc a) (suc b) i j k first other p q =
      let x = on_back a i k p in
      let y = on_back b j k q in
      let same : x.0 ≡ y.0 = next_injective x.0 y.0 k x.2 y.2 in
      let rest = on_same a b i j x.0 first other x.1 (y.1 ∙ ap Some (sym same)) in
      (ap suc rest.0, rest.1)

  on_within : (a i k : ℕ) → IsFirst i → on a i ≡ Some k → k < length s.steps
  on_within zero i k first is = subst (λ (n : ℕ). n < length s.steps) (same_Some i k is) first.0
  on_within (suc a) i k first is = let back = on_back a i k is in (next_is back.0 k back.2).inside

  -- Columns from a step on.
  column_on : ℕ → ℕ → ℕ → List ℕ
  column_on n c i = column_from s n (on c i)

  pub listed_on : (n c i k : ℕ) → is_listed k (column_from s n (on c i)) ≡ true → (a : ℕ) × (c ≤ a) × (a < c + n) × (on a i ≡ Some k)
  listed_on zero c i k is = by (on c i) is
    where
      by : (o : Option ℕ) → is_listed k (column_from s 0 o) ≡ true → (a : ℕ) × (c ≤ a) × (a < c + 0) × (on a i ≡ Some k)
      by None e = absurd (cc)
      by (Some m) e = absurd (cc)
  listed_on (suc n) c i k is = by (on c i) refl is (λ e. listed_on n (suc c) i k e)
    where
      by : (o : Option ℕ) → on c i ≡ o → is_listed k (column_from s (suc n) o) ≡ true
          → (is_listed k (column_from s n (on (suc c) i)) ≡ true → (a : ℕ) × (suc c ≤ a) × (a < suc c + n) × (on a i ≡ Some k)) → (a : ℕ) × (c ≤ a) × (a < c + suc n) × (on a i ≡ Some k)
      by None p e go = absurd (cc)
      by (Some m) p e go = at (cases_eq k m)
        where
          at : (k ≡ m) ⊎ (k ≡ m → ⊥) → (a : ℕ) × (c ≤ a) × (a < c + suc n) × (on a i ≡ Some k)
          at (inl same) = (c, omega arith, omega arith, p ∙ ap Some (sym same))
          at (inr apart) =
              let rest = go (ap (λ o. is_listed k (column_from s n (option_and_then (next_of s) o))) p ∙ sym (ap (λ b. b || is_listed k (column_from s n (next_of s m))) (ne_eqb k m apart)) ∙ e) in
              (rest.0, omega (arith, rest.1), omega (arith, rest.2), rest.3)

  pub on_listed : (n c i k a : ℕ) → c ≤ a → a < c + n → on a i ≡ Some k → is_listed k (column_from s n (on c i)) ≡ true
  on_listed zero c i k a low high is = absurd (omega (arith, low, high))
  on_listed (suc n) c i k a low high is = by (on c i) refl (cases_eq c a) (λ more few. on_listed n (suc c) i k a more few is)
    where
      -- where a step is later on, there is one here
      earlier : (m : ℕ) → on (c + m) i ≡ Some k → on c i ≡ None → ⊥
      earlier m later none = wrong (sym (all m) ∙ later)
        where
          wrong : None ≡ Some k → ⊥
          wrong e = cc

          all : (n : ℕ) → on (c + n) i ≡ None
          all zero = let here_is : c + 0 ≡ c = omega arith in ap (λ m. on m i) here_is ∙ none
          all (suc n) = let next : c + suc n ≡ suc (c + n) = omega arith in ap (λ m. on m i) next ∙ ap (option_and_then (next_of s)) (all n)

      by : (o : Option ℕ) → on c i ≡ o → (c ≡ a) ⊎ (c ≡ a → ⊥) → (suc c ≤ a → a < suc c + n → is_listed k (column_from s n (on (suc c) i)) ≡ true) → is_listed k (column_from s (suc n) o) ≡ true
      by None p case go =
          let at : a ≡ c + (a - c) = omega (arith, low) in
          absurd (earlier (a - c) (ap (λ m. on m i) (sym at) ∙ is) p)
      by (Some m) p (inl same) go =
          let here_is : m ≡ k = same_Some m k (sym p ∙ ap (λ n. on n i) same ∙ is) in
          ap (λ b. b || is_listed k (column_from s n (next_of s m))) (eq-eqb k m (sym here_is))
      by (Some m) p (inr apart) go =
          let later : is_listed k (column_from s n (next_of s m)) ≡ true = ap (λ o. is_listed k (column_from s n (option_and_then (next_of s) o))) (sym p) ∙ go (omega (arith, low, apart)) (omega (arith, high)) in
          or_right (k == m) (is_listed k (column_from s n (next_of s m))) later
        where
          or_right : (a b : Bool) → b ≡ true → (a || b) ≡ true
          or_right true b e = refl
          or_right false b e = e

  -- no step stands twice in a column
  pub once_on : (n c i : ℕ) → IsFirst i → IsOnce (column_from s n (on c i))
  once_on zero c i first = by (on c i)
    where
      by : (o : Option ℕ) → IsOnce (column_from s 0 o)
      by None = tt
      by (Some m) = tt
  once_on (suc n) c i first = by (on c i) refl (once_on n (suc c) i first)
    where
      by : (o : Option ℕ) → on c i ≡ o → IsOnce (column_from s n (on (suc c) i)) → IsOnce (column_from s (suc n) o)
      by None p later = tt
      by (Some m) p later =
          let rest : IsOnce (column_from s n (next_of s m)) = subst (λ (o : Option ℕ). IsOnce (column_from s n (option_and_then (next_of s) o))) p later in
          (apart (is_listed m (column_from s n (next_of s m))) refl, rest)
        where
          apart : (b : Bool) → is_listed m (column_from s n (next_of s m)) ≡ b → b ≡ false
          apart false e = refl
          apart true e =
              let found = listed_on n (suc c) i m (ap (λ o. is_listed m (column_from s n (option_and_then (next_of s) o))) p ∙ e) in
              absurd (omega (arith, found.1, (on_same c found.0 i i m first first p found.3).0))

  pub within_on : (n c i : ℕ) → IsFirst i → All (λ k. k < length s.steps) (column_from s n (on c i))
  within_on zero c i first = by (on c i)
    where
      by : (o : Option ℕ) → All (λ k. k < length s.steps) (column_from s 0 o)
      by None = All-nil (λ k. k < length s.steps)
      by (Some m) = All-nil (λ k. k < length s.steps)
  within_on (suc n) c i first = by (on c i) refl (within_on n (suc c) i first)
    where
      by : (o : Option ℕ) → on c i ≡ o → All (λ k. k < length s.steps) (column_from s n (on (suc c) i)) → All (λ k. k < length s.steps) (column_from s (suc n) o)
      by None p later = All-nil (λ k. k < length s.steps)
      by (Some m) p later =
          All-cons (λ k. k < length s.steps) m (column_from s n (next_of s m)) (on_within c i m first p)
          (subst (λ (o : Option ℕ). All (λ k. k < length s.steps) (column_from s n (option_and_then (next_of s) o))) p later)

  -- So many steps on there is none more.
  few_once : (ns : List ℕ) → All (λ i. i < length s.steps) ns → IsOnce ns → length ns ≤ length s.steps
  few_once ns within once =
      let listed = sum_listed (λ i. pos 1) s.steps ns within once in
      let most = sum_most (λ i _. chosen (is_listed i ns) (pos 1)) (λ i _. pos 1) s.steps (λ i t at. small (is_listed i ns)) in
      omega (arith, ints, listed, most, counted ns, counted s.steps)
    where
      small : (b : Bool) → chosen b (pos 1) ≤ℤ pos 1
      small true = omega (arith, ints)
      small false = omega (arith, ints)

      counted : {X : Type 0} (xs : List X) → sum_placed (λ _ _. pos 1) xs ≡ pos (length xs)
      counted [] = refl
      counted (x ∷ xs) = omega (arith, ints, counted xs)

  long_on : (n c i k : ℕ) → on (c + n) i ≡ Some k → length (column_from s (suc n) (on c i)) ≡ suc n
  long_on zero c i k is = by (on c i) (ap (λ m. on m i) same ∙ is)
    where
      same : c ≡ c + 0
      same = omega arith

      by : (o : Option ℕ) → o ≡ Some k → length (column_from s 1 o) ≡ 1
      by None e = absurd (cc)
      by (Some m) e = none (next_of s m)
        where
          none : (o : Option ℕ) → suc (length (column_from s 0 o)) ≡ 1
          none None = refl
          none (Some j) = refl
  long_on (suc n) c i k is = by (on c i) refl (long_on n (suc c) i k (let more : suc c + n ≡ c + suc n = omega arith in ap (λ m. on m i) more ∙ is))
    where
      by : (o : Option ℕ) → on c i ≡ o → length (column_from s (suc n) (on (suc c) i)) ≡ suc n → length (column_from s (suc (suc n)) o) ≡ suc (suc n)
      by None p later = absurd (wrong (sym (ap (λ o. length (column_from s (suc n) (option_and_then (next_of s) o))) p) ∙ later))
        where
          wrong : 0 ≡ suc n → ⊥
          wrong e = omega (arith, e)
      by (Some m) p later = ap suc (ap (λ o. length (column_from s (suc n) (option_and_then (next_of s) o))) (sym p) ∙ later)

  pub none_on : (i k : ℕ) → IsFirst i → on (length s.steps) i ≡ Some k → ⊥
  none_on i k first is =
      let few = few_once (column_from s (suc (length s.steps)) (on 0 i)) (within_on (suc (length s.steps)) 0 i first) (once_on (suc (length s.steps)) 0 i first) in
      let none : 0 + length s.steps ≡ length s.steps = omega arith in
      omega (arith, few, long_on (length s.steps) 0 i k (ap (λ m. on m i) none ∙ is))

  pub on_few : (a m i k : ℕ) → IsFirst i → on a i ≡ Some k → a < length s.steps
  on_few a m i k first is = by (nat_lt a (length s.steps)) refl
    where
      by : (b : Bool) → nat_lt a (length s.steps) ≡ b → a < length s.steps
      by true e = grind (arith, nat_tests)
      by false e =
          let far : length s.steps ≤ a = grind (arith, nat_tests) in
          let at : a ≡ length s.steps + (a - length s.steps) = omega (arith, far) in
          absurd (never (a - length s.steps) k (ap (λ n. on n i) (sym at) ∙ is))
        where
          never : (n k : ℕ) → on (length s.steps + n) i ≡ Some k → ⊥
          never zero k e = let none : length s.steps ≡ length s.steps + 0 = omega arith in none_on i k first (ap (λ n. on n i) none ∙ e)
          never (suc n) k e =
              let next : suc (length s.steps + n) ≡ length s.steps + suc n = omega arith in
              let back = on_back (length s.steps + n) i k (ap (λ m. on m i) next ∙ e) in
              never n back.0 back.1

  -- Each step is some steps on from a first one.
  pub record IsOnFrom (k : ℕ) : Type 0 where
    pub first : ℕ
    pub far : ℕ
    pub is_first : IsFirst first
    pub there : on far first ≡ Some k

  start_first : is_passed s s.start ≡ false
  start_first = ap (λ b. not b && length (ins_of s.steps s.start) == 1 && length (outs_of s.steps s.start) == 1) (eq-eqb s.start s.start refl)

  own_first : (k p : ℕ) → k < length s.steps → (step_at s k).source ≡ p → is_passed s p ≡ false → IsOnFrom k
  own_first k p within same fails = record { first = k; far = 0; is_first = (within, ap (is_passed s) same ∙ fails); there = refl }

  pub reached_on : (p : ℕ) → Reaches (Joins system_ends s.steps) s.start p → (k : ℕ) → k < length s.steps → (step_at s k).source ≡ p → IsOnFrom k
  reached_on p here k within same = own_first k p within same start_first
  reached_on p (along {q} r before leads) k within same = by (is_passed s p) refl (λ m few from. reached_on q before m few from)
    where
      by : (b : Bool) → is_passed s p ≡ b → ((m : ℕ) → m < length s.steps → (step_at s m).source ≡ q → IsOnFrom m) → IsOnFrom k
      by false fails go = own_first k p within same fails
      by true passes go =
          let step = leads.0 in
          let among = get_from_contains s.steps leads.0 leads.1 in
          let place = among.0 in
          let found = among.1 in
          let there : step_at s place ≡ step = get_or_from_slice_get s.steps place step no_step found in
          let few : place < length s.steps = slice_get_within s.steps place step found in
          let before_is = go place few (ap (λ (x : SystemStep). x.source) there ∙ leads.2) in
          let passed = passed_is p passes in
          let next : next_of s place ≡ Some k = next_there place p passed few passes (ap (λ (x : SystemStep). x.target) there ∙ leads.3) ∙ ap Some (sym (exit_is p k passed within same)) in
          record { first = before_is.first; far = suc before_is.far; is_first = before_is.is_first; there = ap (option_and_then (next_of s)) before_is.there ∙ next }
