use Rattle.std.proofs.Common.{[], ◌∷◌, sym, subst}
use Rattle.wc_f4.specs.Grammar.{one}
use Rattle.wc_f4.specs.Reading.{Refuses, names_of}
use Rattle.wc_f4.proofs.FirstWrong.{facts_stated, reads_whole, refuses}
use Rattle.wc_f4.proofs.reading.read_one.Goals as goal

pub returns-in-Ok-clause-read : goal.returns-in-Ok-clause-read
returns-in-Ok-clause-read c = reads_whole one c.args.image.now c.args.text.now (c.in-Ok.fact ∷ []) c.in-Ok.ensures

pub returns-in-Err-clause-read : goal.returns-in-Err-clause-read
returns-in-Err-clause-read c =
    subst (Refuses one (names_of c.args.image.now) c.args.text.now) (sym c.trouble_of.ensures) (refuses one c.args.image.now c.args.text.now c.in-Err.stop _ c.in-Err.ensures)

pub returns-in-Ok-clause-stated : goal.returns-in-Ok-clause-stated
returns-in-Ok-clause-stated c = (facts_stated one c.args.image.now c.args.text.now (c.in-Ok.fact ∷ []) c.in-Ok.ensures).0
