-- the keys to come decide
use Rattle.std.proofs.Common.{◌≡◌, drop}
use Rattle.wc_core.specs.Inner.Lines.{AllWide}
use Rattle.wc_core.specs.Inner.Moves.{put}
use Rattle.wc_core.proofs.moves.put.Given as goal

abbrev pub invariant-loop-key : goal.invariant-loop-key
invariant-loop-key g l =
    (put l.fn.ticket.name l.fn.ticket.session (drop l.key-index l.keys) l.ticket.had l.store.lines ≡ put l.fn.ticket.name l.fn.ticket.session l.keys l.fn.ticket.had l.fn.store.lines)
    × (l.ticket ≡ record l.fn.ticket { had = l.ticket.had }) × (l.store.spare ≡ l.fn.store.spare) × AllWide l.fn.ticket.session l.store.lines
