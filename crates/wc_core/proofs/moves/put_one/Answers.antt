use Rattle.std.proofs.Common.{sym, subst}
use Rattle.wc_core.specs.Inner.Lines.{AllWide}
use Rattle.wc_core.proofs.ShelfLemmas.{keeps_filled, wide_stays}
use Rattle.wc_core.proofs.moves.put_one.Goals.{in-Some, in_default}
use Rattle.wc_core.proofs.moves.put_one.Goals as goal

pub returns-clause-wide : goal.returns-clause-wide
returns-clause-wide g c =
    elim c.match-take.branch [
      | in-Some w ↦ subst (λ s. AllWide c.args.ticket.now.session s.lines) (sym w.store-is) (subst (λ ls. AllWide c.args.ticket.now.session ls) (sym w.put_back.ensures.rest) (wide_stays _ _ (keeps_filled _ _) _ _ _ _ _ c.requires))
      | in_default w ↦ subst (λ s. AllWide c.args.ticket.now.session s.lines) (sym w.store-is) c.requires
    ]
