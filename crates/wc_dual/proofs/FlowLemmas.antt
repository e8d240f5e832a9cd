-- The nodes of a block.
use Rattle.std.proofs.Common.{◌≡◌, ℕ, zero, suc, ◌==◌, ◌+◌, ◌-◌, ◌<◌, ◌≤◌, ℤ, pos, ◌+ℤ◌, ◌-ℤ◌, List, [], ◌∷◌, length, take, slice_get, Option, Some, None, false, refl, sym, ap, subst, ⊎_elim, ◌∙◌, arith}
use Rattle.std.proofs.lemmas.Bool.{cases_lt}
use Rattle.std.proofs.lemmas.Bool.Decides.{nat_tests}
use Rattle.std.proofs.lemmas.Int.{ints}
use Rattle.std.specs.Prelude.{IfSome}
use Rattle.wc_base.specs.Arithmetic.{InRange}
use Rattle.wc_base.specs.Sums.{sum_placed, chosen}
use Rattle.wc_base.proofs.SumLemmas.{sum_less, sum_zero}
use Rattle.wc_model.specs.declared.flow_system.System.{System}
use Rattle.wc_model.specs.declared.flow_system.SystemStep.{SystemStep}
use Rattle.wc_model.specs.Flow.Counts.{into, out_of}
use Rattle.wc_model.specs.Flow.Places.{number_at}
use Rattle.wc_model.specs.Flow.Systems.{IsSystem, leads_to}
use Rattle.wc_dual.specs.Wide.{balance}
use Rattle.wc_dual.specs.Inner.Blocks.{AreBalances, LeavesIn}
use Rattle.wc_dual.specs.Inner.Parts.{AreWanted, HasWideNode, IsBalanced, IsBlock}
use Rattle.wc_dual.proofs.BlockLemmas.{take_all}
use Rattle.wc_dual.proofs.DualityLemmas.{get_all}

net : (steps : List SystemStep) (x : ℕ → ℤ) (p : ℕ) → sum_placed (balance x p) steps ≡ out_of steps x p -ℤ into steps x p
net steps x p = sum_less (λ i t. chosen (t.source == p) (x i)) (λ i t. chosen (leads_to t.target p) (x i)) steps

pub get_take : {X : Type 0} (xs : List X) (n i : ℕ) (x : X) → slice_get (take n xs) i ≡ Some x → slice_get xs i ≡ Some x
get_take [] zero i x at = at
get_take [] (suc n) i x at = at
get_take (y ∷ xs) zero i x at = cc
get_take (y ∷ xs) (suc n) zero x at = at
get_take (y ∷ xs) (suc n) (suc i) x at = get_take xs n i x at

-- beyond the last node no step leads
far_node : (s : System) (x : ℕ → ℤ) (p n : ℕ) → IsSystem s → s.nodes ≤ p → sum_placed (balance x p) (take n s.steps) ≡ pos 0
far_node s x p n is far = sum_zero (balance x p) (take n s.steps) (λ i t at.
    let here : slice_get s.steps i ≡ Some t = get_take s.steps n i t at in
    omega (
      arith,
      ints,
      ap (λ b. chosen b (x i)) (apart t.source (get_all (λ o. o.source < s.nodes) s.steps i t here is.sources)),
      ap (λ b. chosen b (x i)) (none t.target (get_all (λ o. IfSome o.target (λ q. q < s.nodes)) s.steps i t here is.targets)),
    ))
  where
    apart : (q : ℕ) → q < s.nodes → (q == p) ≡ false
    apart q less = grind (arith, nat_tests)

    none : (o : Option ℕ) → IfSome o (λ q. q < s.nodes) → leads_to o p ≡ false
    none None within = refl
    none (Some q) within = apart q within

pub block_wide : (s : System) (x : ℕ → ℤ) (first count : ℕ) → IsSystem s → LeavesIn s.steps x first count → HasWideNode s x
block_wide s x first count is leaves = ⊎_elim (λ near. (first + leaves.0, near, leaves.2))
    (λ far. absurd (leaves.2.1 (subst (λ z. InRange (pos 0 +ℤ z)) (sym (far_node s x (first + leaves.0) leaves.2.0 is far)) (omega (arith, ints), omega (arith, ints)))))
    (cases_lt (first + leaves.0) s.nodes)

module _ (s : System) (den : ℤ) (x : ℕ → ℤ) (first : ℕ) (sums : List ℤ) (are : AreBalances s.steps x first (length s.steps) sums) where
  sum_is : (k : ℕ) → k < length sums → number_at sums k ≡ out_of s.steps x (first + k) -ℤ into s.steps x (first + k)
  sum_is k within = are k within ∙ ap (sum_placed (balance x (first + k))) (take_all s.steps) ∙ net s.steps x (first + k)

  pub block_yes : (count : ℕ) → length sums ≡ count → AreWanted s den first (length sums) sums → IsBlock s den x first count
  block_yes count counted wanted p from below within =
      let same : p ≡ first + (p - first) = omega (arith, from) in
      let inside : p - first < length sums = omega (arith, from, below, counted) in
      subst (λ q. IsBalanced s den x q) (sym same) (sym (sum_is (p - first) inside) ∙ wanted (p - first) inside (subst (λ q. q < s.nodes) same within))

  pub block_no : (count : ℕ) → length sums ≡ count → IsBlock s den x first count → AreWanted s den first (length sums) sums
  block_no count counted block k inside within = sum_is k inside ∙ block (first + k) (omega arith) (omega (arith, inside, counted)) within
