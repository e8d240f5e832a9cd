use Rattle.std.proofs.Common.{◌≡◌, [], length}
use Rattle.wc_f4.specs.Places.{answer, start}
use Rattle.wc_f4.specs.Views.{known, left}
use Rattle.wc_f4.proofs.reading.all_facts.Given as goal

-- the facts so far and the tokens to come give what all tokens gave
abbrev pub invariant-facts : goal.invariant-facts
invariant-facts l = answer (known l.fn.names) start start [] (left l.fn.reader) ≡ answer (known l.names) start start l.facts.items (left l.reader)

abbrev pub decreases-facts : goal.decreases-facts
decreases-facts l = length (left l.reader)
