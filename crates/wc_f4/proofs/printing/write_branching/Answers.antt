use Rattle.std.proofs.Common.{◌++◌}
use Rattle.std.specs.Prelude.{codes}
use Rattle.wc_base.specs.FaultTexts.{address}
use Rattle.wc_f4.specs.FactText.{addresses_text}
use Rattle.wc_io.proofs.WritingLemmas.{Writes_after}
use Rattle.wc_f4.proofs.PrintingLemmas.{Writes_stopped}
use Rattle.wc_f4.proofs.printing.write_branching.Goals as goal

pub returns-in_err-write_pieces-clause-text : goal.returns-in_err-write_pieces-clause-text
returns-in_err-write_pieces-clause-text g c = Writes_stopped _ _ c.from_residual.result (c.args.word.now ++ (address c.args.at ++ codes " to ")) (addresses_text c.args.to.now ++ codes ";") c.from_residual.ensures.0 c.in_err-write_pieces.ensures.text

pub returns-clause-text : goal.returns-clause-text
returns-clause-text g c = Writes_after _ (g.K.Sink.held c.write_pieces.new.sink) _ c.write_list.result (c.args.word.now ++ (address c.args.at ++ codes " to ")) (addresses_text c.args.to.now ++ codes ";") c.in_ok-write_pieces.ensures.text c.write_list.ensures.text
