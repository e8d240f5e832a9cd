use Rattle.std.proofs.Common.{◌≡◌, ◌==◌, ◌+◌, ◌≤◌, drop, map, filter, length}
use Rattle.wc_core.proofs.opening.count_of.Given as goal

abbrev pub invariant-loop-work : goal.invariant-loop-work
invariant-loop-work g l = (l.count + length (filter (λ w. w == l.kind) (map g.W.Work.kind_of (drop l.work-index l.works))) ≡ length (filter (λ w. w == l.kind) (map g.W.Work.kind_of l.works))) × (l.count ≤ l.work-index)
