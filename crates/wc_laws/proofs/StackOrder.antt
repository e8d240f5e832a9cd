-- In the order of positions none comes before itself, and a stack comes before those that stand on it.
use Rattle.std.proofs.Common.{ℕ, ◌≡◌, ◌<◌, ◌≤◌, ⊎_elim, List, [], ◌∷◌, ◌++◌, reverse, Some, refl, sym, ap, ◌∙◌, arith, nat_cmp, Less, Equal, Greater}
use Rattle.std.specs.Cmp.{nat_cmp_is}
use Rattle.std.specs.Cmp.Lexicographic.{slice_cmp}
use Rattle.std.specs.List.{AllPairs, slice_get}
use Rattle.std.specs.Ordering.{ordering_then}
use Rattle.std.specs.declared.cmp.Ordering.{Ordering}
use Rattle.std.proofs.lemmas.Bool.{cases_lt}
use Rattle.std.proofs.lemmas.List.{reverse-append}
use Rattle.wc_graph.proofs.OrderLemmas.{same_equal}
use Rattle.wc_model.specs.Program.Positions.{Call, Position, call_cmp, position_cmp, stack_cmp}
use Rattle.wc_nest.proofs.ListLemmas.{pairs_at}

itself : (n : ℕ) → nat_cmp n n ≡ Equal
itself n = sym (nat_cmp_is n n Equal refl)

call_itself : (c : Call) → call_cmp c c ≡ Equal
call_itself c = ap (λ o. ordering_then o (nat_cmp c.callee c.callee)) (itself c.returns) ∙ itself c.callee

position_itself : (p : Position) → position_cmp p p ≡ Equal
position_itself p = ap (λ o. ordering_then o (nat_cmp p.pc p.pc)) (same_equal (reverse p.calls)) ∙ itself p.pc

not_less : (o : Ordering) → o ≡ Equal → o ≡ Less → ⊥
not_less o is less = cc

-- a rising list has each position once
pub position_once : (ps : List Position) → AllPairs (λ p q. position_cmp p q ≡ Less) ps → (i j : ℕ) (p : Position) → slice_get ps i ≡ Some p → slice_get ps j ≡ Some p → i ≡ j
position_once ps sorted i j p at_i at_j = ⊎_elim
    (λ (less : i < j). absurd (not_less (position_cmp p p) (position_itself p) (pairs_at (λ q r. position_cmp q r ≡ Less) ps i j p p sorted less at_i at_j)))
    (λ (high : j ≤ i). ⊎_elim
    (λ (more : j < i). absurd (not_less (position_cmp p p) (position_itself p) (pairs_at (λ q r. position_cmp q r ≡ Less) ps j i p p sorted more at_j at_i)))
    (λ (low : i ≤ j). omega arith)
    (cases_lt j i))
    (cases_lt i j)

longer : (w : List Call) (c : Call) → slice_cmp call_cmp (w ++ c ∷ []) w ≡ Greater
longer [] c = refl
longer (x ∷ w) c = ap (λ o. ordering_then o (slice_cmp call_cmp (w ++ c ∷ []) w)) (call_itself x) ∙ longer w c

not_greater : (o : Ordering) → o ≡ Greater → o ≡ Less → ⊥
not_greater o is less = cc

-- a stack that stands on another one doesn't come before it
pub stack_above : (c : Call) (calls : List Call) → stack_cmp (c ∷ calls) calls ≡ Less → ⊥
stack_above c calls less = not_greater (stack_cmp (c ∷ calls) calls)
    (ap (λ (w : List Call). slice_cmp call_cmp w (reverse calls)) (reverse-append (c ∷ []) calls) ∙ longer (reverse calls) c) less
