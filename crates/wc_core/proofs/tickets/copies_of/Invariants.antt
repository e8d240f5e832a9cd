use Rattle.wc_core.specs.Inner.Gifts.{AreCopiesOf}
use Rattle.wc_core.proofs.tickets.copies_of.Given as goal

abbrev pub invariant-loop-session : goal.invariant-loop-session
invariant-loop-session g l = AreCopiesOf l.value.value l.session l.own l.copies.items
