use Rattle.wc_bounds.specs.Inner.Stated.{IsStated}
use Rattle.wc_bounds.proofs.stated.stated_bounds.Given as goal

abbrev pub invariant-loop-index : goal.invariant-loop-index
invariant-loop-index l = IsStated l.facts l.index l.stated
