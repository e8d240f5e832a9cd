use Rattle.std.proofs.Common.{sym, subst}
use Rattle.wc_core.specs.Inner.Lines.{AllWide}
use Rattle.wc_core.proofs.ShelfLemmas.{keeps_taken, wide_stays}
use Rattle.wc_core.proofs.moves.pull_one.Goals as goal

pub returns-in-Some-clause-wide : goal.returns-in-Some-clause-wide
returns-in-Some-clause-wide g c = subst (λ ls. AllWide c.args.ticket.now.session ls) (sym c.take-taken.ensures.rest) (wide_stays _ _ (keeps_taken _) _ _ _ _ _ c.requires)

pub returns-in_default-clause-wide : goal.returns-in_default-clause-wide
returns-in_default-clause-wide g c = subst (λ ls. AllWide c.args.ticket.now.session ls) (sym c.take-taken.ensures.rest) (wide_stays _ _ (keeps_taken _) _ _ _ _ _ c.requires)
