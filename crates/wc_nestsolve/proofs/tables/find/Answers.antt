use Rattle.std.proofs.Common.{refl}
use Rattle.wc_nestsolve.proofs.FillLemmas.{best_of, starts_fit, starts_ordered}
use Rattle.wc_nestsolve.proofs.tables.find.Goals as goal

pub best_step-requires-clause-ordered : goal.best_step-requires-clause-ordered
best_step-requires-clause-ordered c = starts_ordered _ _ _ c.requires.starts _ c.requires.known

pub best_step-requires-clause-known : goal.best_step-requires-clause-known
best_step-requires-clause-known c = starts_fit _ _ _ c.requires.starts _ c.requires.known

pub returns : goal.returns
returns c = best_of _ _ _ c.requires.starts _ c.requires.known _ _ refl _ _ _ _ c.best_step.ensures
