-- The ceiling by capped numbers.
use Rattle.std.proofs.Common.{◌≡◌, ℕ, zero, suc, ◌==◌, ◌+◌, ◌*◌, ◌^◌, ◌<◌, ◌≤◌, min, max, List, [], ◌∷◌, ◌++◌, length, replicate, drop, get_or, slice_get, slice_index, slice_index_or, Option, Some, None, Bool, true, false, if◌then◌else◌, refl, sym, ap, ap₂, subst, inl, inr, ⊎_elim, ◌∙◌, arith}
use Rattle.std.proofs.Math.Nat.{suc-mul, zero-mul}
use Rattle.std.proofs.lemmas.Bool.{cases_lt}
use Rattle.std.proofs.lemmas.List.{get_or-replicate, length-replicate}
use Rattle.std.proofs.lemmas.Option.{slice_get_within, get_or_from_slice_get, slice_get-get_or}
use Rattle.std.specs.List.{range_with_len}
use Rattle.std.specs.Option.{option_and_then}
use Rattle.std.specs.Prelude.{◌⊎◌, All, IfSome}
use Rattle.wc_model.specs.declared.flow_system.SystemStep.{SystemStep}
use Rattle.wc_model.specs.declared.graphs.Head.{Head}
use Rattle.wc_model.specs.declared.graphs.Nest.{Nest}
use Rattle.wc_model.specs.Flow.Ceiling.{ceiling_by, dearest, loops_out, loops_round, node_ceiling, parent_of, rounds_of, total}
use Rattle.wc_system.specs.Inner.Capped.{AreDearest, AreRounds, capped, capped_total, rounds_within}

-- each node's dearest step is at least 1
dearest_some : (steps : List SystemStep) (p : ℕ) → 1 ≤ dearest steps p
dearest_some [] p = omega arith
dearest_some (t ∷ steps) p = by (t.source == p) (dearest_some steps p)
  where
    by : (b : Bool) → 1 ≤ dearest steps p → 1 ≤ (if b then max t.cost (dearest steps p) else dearest steps p)
    by true some = omega arith
    by false some = some

pub dearest_begin : (steps : List SystemStep) (nodes : ℕ) (costs : List ℕ) → costs ≡ replicate nodes 1 → AreDearest steps nodes 0 costs
dearest_begin steps nodes costs is = record {
  counted = ap length is ∙ length-replicate nodes 1;
  some = λ p within. omega (arith, one p within);
  most = λ p within. omega (arith, one p within, dearest_some steps p);
}
  where
    one : (p : ℕ) → p < nodes → slice_index costs p ≡ 1
    one p within = ap (λ cs. slice_index cs p) is ∙ get_or-replicate nodes p 1 0 within

-- A cap may be put on a factor or a term first.
module _ (cap : ℕ) where
  cap_factor : (c b : ℕ) → min (c * min b cap) cap ≡ min (c * b) cap
  cap_factor zero b = ap (λ n. min n cap) (zero-mul (min b cap) ∙ sym (zero-mul b))
  cap_factor (suc c) b = ⊎_elim below above (cases_lt b cap)
    where
      below : b < cap → min (suc c * min b cap) cap ≡ min (suc c * b) cap
      below less = let same : min b cap ≡ b = omega arith in ap (λ n. min (suc c * n) cap) same

      above : cap ≤ b → min (suc c * min b cap) cap ≡ min (suc c * b) cap
      above more =
          let same : min b cap ≡ cap = omega arith in
          ap (λ n. min (suc c * n) cap) same ∙ omega (arith, suc-mul c cap, suc-mul c b)

-- The rounds of a loop don't depend on how many loops may stand round it.
module _ (heads : List Head) (parents : (k : ℕ) (h : Head) → slice_get heads k ≡ Some h → IfSome h.parent (λ j. j < k)) where
  parent_before : (k j : ℕ) → parent_of heads k ≡ Some j → j < k
  parent_before k j is = by (slice_get heads k) refl is
    where
      by : (o : Option Head) → slice_get heads k ≡ o → option_and_then (λ h. h.parent) o ≡ Some j → j < k
      by None at is' = cc
      by (Some h) at is' = subst (λ o. IfSome o (λ i. i < k)) is' (parents k h at)

  out_same : (a b : ℕ) (o : Option ℕ) → ((j : ℕ) → o ≡ Some j → loops_out heads a (Some j) ≡ loops_out heads b (Some j)) → loops_out heads a o ≡ loops_out heads b o
  out_same a b None each = refl
  out_same a b (Some j) each = each j refl

  enough : (a b k : ℕ) → k < a → k < b → loops_out heads a (Some k) ≡ loops_out heads b (Some k)
  enough zero b k less-a less-b = absurd (omega arith)
  enough (suc a) zero k less-a less-b = absurd (omega arith)
  enough (suc a) (suc b) k less-a less-b = ap (λ ks. k ∷ ks) (out_same a b (parent_of heads k)
      (λ j is. enough a b j (omega (arith, parent_before k j is)) (omega (arith, parent_before k j is))))

  module _ (bounds : List ℕ) where
    rounds_here : (place : ℕ) (rounds : List ℕ) (h : Head) → slice_get heads place ≡ Some h → AreRounds heads bounds place rounds
        → capped ((slice_index bounds place + 1) * rounds_within rounds h.parent) ≡ capped (rounds_of bounds (loops_out heads (place + 1) (Some place)))
    rounds_here place rounds h at are =
        by h.parent (ap (option_and_then (λ o. o.parent)) at) (parents place h at) ∙ ap (λ n. capped (rounds_of bounds (loops_out heads n (Some place)))) (let next : suc place ≡ place + 1 = omega arith in next)
      where
        by : (o : Option ℕ) → parent_of heads place ≡ o → IfSome o (λ j. j < place) → capped ((slice_index bounds place + 1) * rounds_within rounds o) ≡ capped ((slice_index bounds place + 1) * rounds_of bounds (loops_out heads place (parent_of heads place)))
        by None is before = ap (λ o. capped ((slice_index bounds place + 1) * rounds_of bounds (loops_out heads place o))) (sym is)
        by (Some j) is before =
            ap (λ n. capped ((slice_index bounds place + 1) * n)) (are j before ∙ ap (λ ks. capped (rounds_of bounds ks)) (enough (j + 1) place j (omega arith) before))
            ∙ cap_factor (2 ^ 100) (slice_index bounds place + 1) (rounds_of bounds (loops_out heads place (Some j)))
            ∙ ap (λ o. capped ((slice_index bounds place + 1) * rounds_of bounds (loops_out heads place o))) (sym is)

    pub rounds_next : (place : ℕ) (rounds : List ℕ) (last : ℕ) (h : Head) → slice_get heads place ≡ Some h → length rounds ≡ place → AreRounds heads bounds place rounds
        → last ≡ capped ((slice_index bounds place + 1) * rounds_within rounds h.parent) → AreRounds heads bounds (place + 1) (rounds ++ last ∷ [])
    rounds_next place rounds last h at counted are is = λ k below. by k (cases_lt k place) below
      where
        front : (xs : List ℕ) (k : ℕ) → k < length xs → slice_index (xs ++ last ∷ []) k ≡ slice_index xs k
        front [] k below = absurd (omega arith)
        front (x ∷ xs) zero below = refl
        front (x ∷ xs) (suc k) below = front xs k (omega arith)

        end : (xs : List ℕ) (k : ℕ) → length xs ≡ k → slice_index (xs ++ last ∷ []) k ≡ last
        end [] zero same = refl
        end [] (suc k) same = absurd (omega arith)
        end (x ∷ xs) zero same = absurd (omega arith)
        end (x ∷ xs) (suc k) same = end xs k (omega arith)

        by : (k : ℕ) → (k < place) ⊎ (place ≤ k) → k < place + 1 → slice_index (rounds ++ last ∷ []) k ≡ capped (rounds_of bounds (loops_out heads (k + 1) (Some k)))
        by k (inl less) below = front rounds k (omega arith) ∙ are k less
        by k (inr more) below =
            let same : k ≡ place = omega arith in
            subst (λ n. slice_index (rounds ++ last ∷ []) n ≡ capped (rounds_of bounds (loops_out heads (n + 1) (Some n)))) (sym same)
            (end rounds place counted ∙ is ∙ rounds_here place rounds h at are)

-- The sum over the nodes.
module _ (f : ℕ → ℕ) (rounds : List ℕ) where
  capped_sum : (first sum : ℕ) (costs : List ℕ) (inside : List (Option ℕ)) → length costs ≡ length inside → sum ≤ 2 ^ 100
      → ((i c : ℕ) (o : Option ℕ) → slice_get costs i ≡ Some c → slice_get inside i ≡ Some o → capped (c * rounds_within rounds o) ≡ capped (f (first + i)))
      → capped_total rounds costs sum inside ≡ capped (sum + total f (range_with_len first (length inside)))
  capped_sum first sum [] [] counted small each = omega arith
  capped_sum first sum [] (o ∷ inside) counted small each = absurd (omega (arith, counted))
  capped_sum first sum (c ∷ costs) [] counted small each = absurd (omega (arith, counted))
  capped_sum first sum (c ∷ costs) (o ∷ inside) counted small each =
      let here : capped (c * rounds_within rounds o) ≡ capped (f first) = each zero c o refl refl ∙ ap (λ n. capped (f n)) (let same : first + 0 ≡ first = omega arith in same) in
      capped_sum (first + 1) (capped (sum + capped (c * rounds_within rounds o))) costs inside (omega (arith, counted)) (omega arith)
      (λ i c' o' at-c at-o. each (suc i) c' o' at-c at-o ∙ ap (λ n. capped (f n)) (let same : first + suc i ≡ first + 1 + i = omega arith in same))
      ∙ omega (arith, here)

module _ (nest : Nest) (bounds : List ℕ) (steps : List SystemStep) (rounds costs : List ℕ)
    (parents : (k : ℕ) (h : Head) → slice_get nest.heads k ≡ Some h → IfSome h.parent (λ j. j < k))
    (are : AreRounds nest.heads bounds (length nest.heads) rounds) where
  node_capped : (p : ℕ) (o : Option ℕ) → slice_index_or nest.inside p None ≡ o → IfSome o (λ k. k < length nest.heads)
      → capped (dearest steps p * rounds_within rounds o) ≡ capped (node_ceiling nest bounds steps p)
  node_capped p None is within = ap (λ o. capped (dearest steps p * rounds_of bounds (loops_out nest.heads (length nest.heads) o))) (sym is)
  node_capped p (Some k) is within =
      ap (λ n. capped (dearest steps p * n)) (are k within ∙ ap (λ ks. capped (rounds_of bounds ks)) (enough nest.heads parents (k + 1) (length nest.heads) k (omega arith) within))
      ∙ cap_factor (2 ^ 100) (dearest steps p) (rounds_of bounds (loops_out nest.heads (length nest.heads) (Some k)))
      ∙ ap (λ o. capped (dearest steps p * rounds_of bounds (loops_out nest.heads (length nest.heads) o))) (sym is)

  pub ceiling_is : length costs ≡ length nest.inside → ((p : ℕ) → p < length nest.inside → slice_index costs p ≡ dearest steps p)
      → All (λ o. IfSome o (λ k. k < length nest.heads)) nest.inside
      → capped_total rounds costs 0 nest.inside ≡ capped (ceiling_by nest bounds (length nest.inside) steps)
  ceiling_is counted dear inside =
      capped_sum (node_ceiling nest bounds steps) rounds 0 0 costs nest.inside counted (omega arith)
      (λ i c o at-c at-o.
      let within : i < length nest.inside = slice_get_within nest.inside i o at-o in
      let is : slice_index_or nest.inside i None ≡ o = get_or_from_slice_get nest.inside i o None at-o in
      ap (λ n. capped (n * rounds_within rounds o)) (sym (get_or_from_slice_get costs i c 0 at-c) ∙ dear i within)
      ∙ node_capped i o is (subst (λ q. IfSome q (λ k. k < length nest.heads)) is (inside i None within))
      ∙ ap (λ n. capped (node_ceiling nest bounds steps n)) (let same : i ≡ 0 + i = omega arith in same))
      ∙ ap capped (let same : 0 + total (node_ceiling nest bounds steps) (range_with_len 0 (length nest.inside)) ≡ total (node_ceiling nest bounds steps) (range_with_len 0 (length nest.inside)) = omega arith in same)
