use Rattle.std.proofs.Common.{◌++◌}
use Rattle.std.specs.Prelude.{codes}
use Rattle.wc_base.specs.FaultTexts.{address}
use Rattle.wc_f4.specs.FactText.{times_text, within_text}
use Rattle.wc_io.proofs.WritingLemmas.{Writes_after}
use Rattle.wc_f4.proofs.PrintingLemmas.{Writes_stopped}
use Rattle.wc_f4.proofs.printing.write_visits.Goals as goal

pub returns-in_err-write_times-clause-text : goal.returns-in_err-write_times-clause-text
returns-in_err-write_times-clause-text g c = Writes_stopped _ _ c.from_residual.result (times_text c.args.times) ((codes "[" ++ address c.args.at) ++ (within_text c.args.within.now ++ codes "]")) c.from_residual.ensures.0 c.in_err-write_times.ensures.text

pub returns-clause-text : goal.returns-clause-text
returns-clause-text g c = Writes_after _ (g.K.Sink.held c.write_times.new.sink) _ c.write_visited.result (times_text c.args.times) ((codes "[" ++ address c.args.at) ++ (within_text c.args.within.now ++ codes "]")) c.in_ok-write_times.ensures.text c.write_visited.ensures.text
