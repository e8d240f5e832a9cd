use Rattle.wc_mustmay.proofs.NameLemmas.{not_found}
use Rattle.wc_mustmay.proofs.names.name_of.Goals as goal

pub returns-in-Err : goal.returns-in-Err
returns-in-Err c = absurd (not_found c.args.names.now c.in_ok-line.line c.in-Err.field-0 c.requires.rising c.in-Err.ensures.position (rw c.in_ok-line.was at c.requires.there))
