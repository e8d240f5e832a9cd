use Rattle.std.specs.Prelude.{codes}
use Rattle.wc_f4.specs.FactText.{term_text}
use Rattle.wc_io.proofs.WritingLemmas.{Writes_after}
use Rattle.wc_f4.proofs.PrintingLemmas.{Writes_stopped}
use Rattle.wc_f4.proofs.printing.write_next_term.Goals as goal

pub returns-in_err-write_whole-clause-text : goal.returns-in_err-write_whole-clause-text
returns-in_err-write_whole-clause-text g c = Writes_stopped _ _ c.from_residual.result (codes " + ") (term_text c.args.term.now) c.from_residual.ensures.0 c.in_err-write_whole.ensures.text

pub returns-clause-text : goal.returns-clause-text
returns-clause-text g c = Writes_after _ (g.K.Sink.held c.write_whole.new.sink) _ c.write_term.result (codes " + ") (term_text c.args.term.now) c.in_ok-write_whole.ensures.text c.write_term.ensures.text
