use Rattle.std.proofs.Common.{◌≡◌, ◌+◌, drop}
use Rattle.wc_model.specs.Flow.Systems.{times_in}
use Rattle.wc_model.specs.Program.Positions.{Position}
use Rattle.wc_system.specs.Inner.Terms.{visit_sum}
use Rattle.wc_system.proofs.terms.gathered.Given as goal

abbrev pub invariant-loop-term : goal.invariant-loop-term
invariant-loop-term l = (p : Position) → visit_sum p l.visits.items + times_in p (drop l.term-index l.terms) ≡ times_in p l.terms
