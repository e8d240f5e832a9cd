use Rattle.std.proofs.Common.{◌≡◌, ◌+◌, ◌*◌, ◌≤◌, ◌^◌, drop}
use Rattle.wc_model.specs.Flow.Systems.{constant_in}
use Rattle.wc_system.proofs.terms.constant_of.Given as goal

abbrev pub invariant-loop-term : goal.invariant-loop-term
invariant-loop-term l = record {
  small : l.sum ≤ l.term-index * 2 ^ 32;
  to_come : l.sum + constant_in (drop l.term-index l.terms) ≡ constant_in l.terms;
}
