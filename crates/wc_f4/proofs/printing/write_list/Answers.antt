use Rattle.wc_f4.specs.FactText.{addresses_text}
use Rattle.wc_io.proofs.WritingLemmas.{Writes_after}
use Rattle.wc_f4.proofs.PrintingLemmas.{Writes_stopped}
use Rattle.wc_f4.proofs.printing.write_list.Goals as goal

pub returns-in_err-write_addresses-clause-text : goal.returns-in_err-write_addresses-clause-text
returns-in_err-write_addresses-clause-text g c = Writes_stopped _ _ c.from_residual.result (addresses_text c.args.list.now) (c.args.end.now) c.from_residual.ensures.0 c.in_err-write_addresses.ensures.text

pub returns-clause-text : goal.returns-clause-text
returns-clause-text g c = Writes_after _ (g.K.Sink.held c.write_addresses.new.sink) _ c.write_whole.result (addresses_text c.args.list.now) (c.args.end.now) c.in_ok-write_addresses.ensures.text c.write_whole.ensures.text
