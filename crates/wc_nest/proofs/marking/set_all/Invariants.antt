use Rattle.std.proofs.Common.{◌≡◌, length, drop}
use Rattle.wc_nest.specs.Inner.Marking.{set_all}
use Rattle.wc_nest.proofs.marking.set_all.Given as goal

abbrev pub invariant-loop-place : goal.invariant-loop-place
invariant-loop-place g l =
    record {
      sized : length l.items.items ≡ length l.fn.items.items;
      to_come : set_all l.items.items (drop l.place-index l.places) l.value ≡ set_all l.fn.items.items l.places l.value;
    }
