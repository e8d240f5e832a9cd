-- The orders of positions and of stacks go one way.
use Rattle.std.proofs.Common.{◌≡◌, List, reverse, Ordering, Less, Greater, sym, ap, ◌∙◌}
use Rattle.std.specs.Cmp.{IsTotalOrder}
use Rattle.std.specs.Ordering.{ordering_reverse}
use Rattle.std.proofs.lemmas.Cmp.{lists_total, nat_cmp_total, on_total, then_total}
use Rattle.wc_model.specs.Program.Positions.{Call, Position, call_cmp, position_cmp, stack_cmp}

call_total : IsTotalOrder call_cmp
call_total = then_total (on_total (λ (c : Call). c.returns) nat_cmp_total) (on_total (λ (c : Call). c.callee) nat_cmp_total)

stack_total : IsTotalOrder stack_cmp
stack_total = on_total (λ (calls : List Call). reverse calls) (lists_total call_total)

position_total : IsTotalOrder position_cmp
position_total = then_total (on_total (λ (p : Position). p.calls) stack_total) (on_total (λ (p : Position). p.pc) nat_cmp_total)

less_one_way : {K : Type 0} (cmp : K → K → Ordering) → IsTotalOrder cmp → (x y : K) → cmp x y ≡ Less → cmp y x ≡ Less → ⊥
less_one_way cmp order x y less more = let clash : Less ≡ Greater = sym less ∙ order.antisymm x y ∙ ap (λ (o : Ordering). ordering_reverse o) more in cc

pub stacks_one_way : (a b : List Call) → stack_cmp a b ≡ Less → stack_cmp b a ≡ Less → ⊥
stacks_one_way = less_one_way stack_cmp stack_total

pub positions_one_way : (p q : Position) → position_cmp p q ≡ Less → position_cmp q p ≡ Less → ⊥
positions_one_way = less_one_way position_cmp position_total
