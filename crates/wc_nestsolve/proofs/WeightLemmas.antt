-- The weights of the steps ahead and of the back steps.
use Rattle.std.proofs.Common.{◌≡◌, ℕ, ◌==◌, ◌&&◌, ℤ, pos, ◌+ℤ◌, ◌-ℤ◌, ◌*ℤ◌, slice_get, Some, None, Bool, true, false, not, refl, ap, ap₂, ◌∙◌, arith}
use Rattle.std.proofs.lemmas.Bool.Decides.{nat_tests}
use Rattle.std.proofs.lemmas.Int.{ints}
use Rattle.wc_base.specs.Sums.{chosen}
use Rattle.wc_base.proofs.SumLemmas.{sum_same, sum_zero, sum_pick}
use Rattle.wc_model.specs.declared.flow_system.System.{System}
use Rattle.wc_model.specs.declared.flow_system.SystemLoop.{SystemLoop}
use Rattle.wc_model.specs.declared.flow_system.SystemStep.{SystemStep}
use Rattle.wc_model.specs.declared.graphs.Nest.{Nest}
use Rattle.wc_model.specs.Flow.Certificates.{back_price, entry_price}
use Rattle.wc_model.specs.Flow.Places.{is_listed}
use Rattle.wc_model.specs.Flow.Systems.{is_marked, leads_to}
use Rattle.wc_nestsolve.specs.Inner.Nested.{IsLoop, IsNested, IsStep}
use Rattle.wc_nestsolve.specs.Inner.Weights.{surcharge, weight}

and_false : (b : Bool) → (b && false) ≡ false
and_false true = refl
and_false false = refl

and_true : (b : Bool) → (b && true) ≡ b
and_true true = refl
and_true false = refl

pub test_same : (m n : ℕ) → m ≡ n → (m == n) ≡ true
test_same m n is = grind (arith, nat_tests)

pub same_by : (m n : ℕ) → (m == n) ≡ true → m ≡ n
same_by m n is = grind (arith, nat_tests)

pub test_apart : (m n : ℕ) → (m ≡ n → ⊥) → (m == n) ≡ false
test_apart m n is = grind (arith, nat_tests)

module _ (s : System) (nest : Nest) (is : IsNested s nest) (v : ℕ → ℤ) where
  -- a step to the exit enters no loop
  pub weight_exit : (i : ℕ) (t : SystemStep) → IsStep s nest i t → t.target ≡ None → weight s v i t ≡ pos t.cost
  weight_exit i t at to =
      let entries : entry_price v s.loops i ≡ pos 0 = sum_zero (λ k l. chosen (is_listed i l.entry) (pos l.bound *ℤ v k)) s.loops
      (λ k l here. ap (λ b. chosen b (pos l.bound *ℤ v k)) (is.entry i k t l at here ∙ ap (λ o. leads_to o l.head && not (is_marked nest i)) to)) in
      let backs : back_price v s.loops i ≡ pos 0 = sum_zero (λ k l. chosen (is_listed i l.back) (v k)) s.loops
      (λ k l here. ap (λ b. chosen b (v k)) (is.back i k t l at here ∙ ap (λ o. leads_to o l.head && is_marked nest i) to)) in
      omega (arith, ints, entries, backs)

  -- a step ahead pays the surcharge of the node to which it leads
  pub weight_ahead : (i q : ℕ) (t : SystemStep) → IsStep s nest i t → t.target ≡ Some q → is_marked nest i ≡ false → weight s v i t ≡ pos t.cost +ℤ surcharge s v q
  weight_ahead i q t at to ahead =
      let entries : entry_price v s.loops i ≡ surcharge s v q = sum_same (λ k l. chosen (is_listed i l.entry) (pos l.bound *ℤ v k)) (λ k l. chosen (q == l.head) (pos l.bound *ℤ v k)) s.loops
      (λ k l here. ap (λ b. chosen b (pos l.bound *ℤ v k)) (is.entry i k t l at here ∙ ap₂ (λ o m. leads_to o l.head && not m) to ahead ∙ and_true (q == l.head))) in
      let backs : back_price v s.loops i ≡ pos 0 = sum_zero (λ k l. chosen (is_listed i l.back) (v k)) s.loops
      (λ k l here. ap (λ b. chosen b (v k)) (is.back i k t l at here ∙ ap (λ m. leads_to t.target l.head && m) ahead ∙ and_false (leads_to t.target l.head))) in
      omega (arith, ints, entries, backs)

  head_test : (k m : ℕ) (l o : SystemLoop) → IsLoop s nest k l → IsLoop s nest m o → (l.head == o.head) ≡ (k == m)
  head_test k m l o at_k at_m = by (k == m) refl
    where
      one : (k m : ℕ) → k ≡ m → slice_get s.loops k ≡ Some l → slice_get s.loops m ≡ Some o → l ≡ o
      one k m same a b = let both : slice_get s.loops k ≡ slice_get s.loops m = ap (slice_get s.loops) same in cc

      by : (b : Bool) → (k == m) ≡ b → (l.head == o.head) ≡ b
      by true is' = test_same l.head o.head (ap (λ x. x.head) (one k m (same_by k m is') at_k at_m))
      by false is' = test_apart l.head o.head (λ same. differ (is.heads k m l o at_k at_m same) is')
        where
          differ : k ≡ m → (k == m) ≡ false → ⊥
          differ same no' = let yes' : (k == m) ≡ true = test_same k m same in cc

  -- a back step gives the round back
  pub weight_back : (i k : ℕ) (t : SystemStep) (l : SystemLoop) → IsStep s nest i t → IsLoop s nest k l → t.target ≡ Some l.head → is_marked nest i ≡ true → weight s v i t ≡ pos t.cost -ℤ v k
  weight_back i k t l at here to marked =
      let entries : entry_price v s.loops i ≡ pos 0 = sum_zero (λ m o. chosen (is_listed i o.entry) (pos o.bound *ℤ v m)) s.loops
      (λ m o there. ap (λ b. chosen b (pos o.bound *ℤ v m)) (is.entry i m t o at there ∙ ap (λ b. leads_to t.target o.head && not b) marked ∙ and_false (leads_to t.target o.head))) in
      let backs : back_price v s.loops i ≡ v k = sum_same (λ m o. chosen (is_listed i o.back) (v m)) (λ m o. chosen (k == m) (v m)) s.loops
      (λ m o there. ap (λ b. chosen b (v m)) (is.back i m t o at there ∙ ap₂ (λ x b. leads_to x o.head && b) to marked ∙ and_true (l.head == o.head) ∙ head_test k m l o here there))
      ∙ sum_pick (λ m o. v m) s.loops k l here in
      omega (arith, ints, entries, backs)
