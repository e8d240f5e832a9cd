use Rattle.std.proofs.Common.{◌++◌}
use Rattle.std.specs.Prelude.{codes}
use Rattle.wc_base.specs.FaultTexts.{address}
use Rattle.wc_f4.specs.FactText.{within_text}
use Rattle.wc_io.proofs.WritingLemmas.{Writes_after}
use Rattle.wc_f4.proofs.PrintingLemmas.{Writes_stopped}
use Rattle.wc_f4.proofs.printing.write_visited.Goals as goal

pub returns-in_err-write_pieces-clause-text : goal.returns-in_err-write_pieces-clause-text
returns-in_err-write_pieces-clause-text g c = Writes_stopped _ _ c.from_residual.result (codes "[" ++ address c.args.at) (within_text c.args.within.now ++ codes "]") c.from_residual.ensures.0 c.in_err-write_pieces.ensures.text

pub returns-clause-text : goal.returns-clause-text
returns-clause-text g c = Writes_after _ (g.K.Sink.held c.write_pieces.new.sink) _ c.write_within.result (codes "[" ++ address c.args.at) (within_text c.args.within.now ++ codes "]") c.in_ok-write_pieces.ensures.text c.write_within.ensures.text
