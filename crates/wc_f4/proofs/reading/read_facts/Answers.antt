use Rattle.std.proofs.Common.{Ok, Err, sym, subst}
use Rattle.std.proofs.lemmas.List.Elements.{All-from_recursion}
use Rattle.wc_f4.specs.Grammar.{any}
use Rattle.wc_f4.specs.Reading.{Refuses, names_of}
use Rattle.wc_f4.specs.Stated.{IsStated}
use Rattle.wc_f4.proofs.FirstWrong.{facts_stated, reads_whole, refuses}
use Rattle.wc_f4.proofs.GivenBack.{gives_all}
use Rattle.wc_f4.proofs.reading.read_facts.Goals as goal

pub returns-in-Ok-clause-read : goal.returns-in-Ok-clause-read
returns-in-Ok-clause-read c = reads_whole any c.args.image.now c.args.text.now c.in-Ok.facts.items c.in-Ok.ensures

pub returns-in-Err-clause-read : goal.returns-in-Err-clause-read
returns-in-Err-clause-read c =
    subst (Refuses any (names_of c.args.image.now) c.args.text.now) (sym c.trouble_of.ensures) (refuses any c.args.image.now c.args.text.now c.in-Err.stop _ c.in-Err.ensures)

pub returns-in-Ok-clause-only : goal.returns-in-Ok-clause-only
returns-in-Ok-clause-only c = λ facts is. gives_all (names_of c.args.image.now) facts c.args.text.now (Ok c.in-Ok.facts.items) is (reads_whole any c.args.image.now c.args.text.now c.in-Ok.facts.items c.in-Ok.ensures)

pub returns-in-Err-clause-only : goal.returns-in-Err-clause-only
returns-in-Err-clause-only c =
    λ facts is.
    gives_all (names_of c.args.image.now) facts c.args.text.now (Err c.trouble_of.result) is
    (subst (Refuses any (names_of c.args.image.now) c.args.text.now) (sym c.trouble_of.ensures) (refuses any c.args.image.now c.args.text.now c.in-Err.stop _ c.in-Err.ensures))

pub returns-in-Ok-clause-stated : goal.returns-in-Ok-clause-stated
returns-in-Ok-clause-stated c = All-from_recursion IsStated c.in-Ok.facts.items (facts_stated any c.args.image.now c.args.text.now c.in-Ok.facts.items c.in-Ok.ensures)
