use Rattle.std.proofs.Common.{◌≡◌, ◌≤◌, List, length}
use Rattle.wc_model.specs.declared.flow_facts.Fact.{Fact}
use Rattle.wc_f4.specs.Places.{Place, Side, answer, term, with_terms}
use Rattle.wc_f4.specs.Views.{known, left}
use Rattle.wc_f4.proofs.sums.sum.Given as goal

-- the terms so far and the tokens to come give what all tokens gave
abbrev pub invariant-loop-terms : goal.invariant-loop-terms
invariant-loop-terms l = record {
  read : (side : Side) (later : Place) (facts : List Fact)
      → answer (known l.fn.names) later (term side) facts (left l.fn.reader) ≡ answer (known l.names) later (term (with_terms side l.terms.items)) facts (left l.reader);
  shorter : length (left l.reader) ≤ length (left l.fn.reader);
}

abbrev pub decreases-loop-terms : goal.decreases-loop-terms
decreases-loop-terms l = length (left l.reader)
