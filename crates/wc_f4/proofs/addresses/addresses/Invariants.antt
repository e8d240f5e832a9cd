use Rattle.std.proofs.Common.{◌≡◌, ◌≤◌, List, [], length}
use Rattle.wc_model.specs.declared.flow_facts.Fact.{Fact}
use Rattle.wc_f4.specs.Places.{Owner, Place, address, answer, listed}
use Rattle.wc_f4.specs.Views.{known, left}
use Rattle.wc_f4.proofs.addresses.addresses.Given as goal

-- the addresses so far and the tokens to come give what all tokens gave
abbrev pub invariant-loop-addresses : goal.invariant-loop-addresses
invariant-loop-addresses l = record {
  read : (owner : Owner) (later : Place) (facts : List Fact)
      → answer (known l.fn.names) later (address (listed owner [])) facts (left l.fn.reader) ≡ answer (known l.names) later (address (listed owner l.addresses.items)) facts (left l.reader);
  shorter : length (left l.reader) ≤ length (left l.fn.reader);
}

abbrev pub decreases-loop-addresses : goal.decreases-loop-addresses
decreases-loop-addresses l = length (left l.reader)
