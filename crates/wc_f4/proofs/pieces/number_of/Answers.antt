use Rattle.wc_f4.proofs.RunLemmas.{read_none, read_some}
use Rattle.wc_f4.proofs.pieces.number_of.Goals as goal

pub returns-in-Some : goal.returns-in-Some
returns-in-Some c = read_some c.args.base c.args.digits.now c.in-Some.number c.in-Some.ensures.0 c.in-Some.ensures.1

pub returns-in-None : goal.returns-in-None
returns-in-None c = read_none c.args.base c.args.digits.now c.requires.digits c.in-None.ensures
