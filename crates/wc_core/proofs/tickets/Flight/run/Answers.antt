use Rattle.std.proofs.Common.{rules}
use Rattle.wc_core.proofs.FlightLemmas.{lands_from}
use Rattle.wc_core.proofs.tickets.Flight.run.Goals as goal

pub returns-clause-fits : goal.returns-clause-fits
returns-clause-fits g c o h fits = lands_from g.W.Work.is_feature o h c.args.self _ (search rules) (search rules) fits
