use Rattle.std.proofs.Common.{ℕ, ◌≡◌, ◌++◌, drop, map}
use Rattle.wc_core.specs.Openings.{works_in}
use Rattle.wc_core.proofs.opening.counts_of.Given as goal

abbrev pub invariant-loop-kind : goal.invariant-loop-kind
invariant-loop-kind g l = l.counts.items ++ works_in (map g.W.Work.kind_of l.works) (drop l.kind-index l.order) ≡ works_in (map g.W.Work.kind_of l.works) l.order
