use Rattle.std.specs.Prelude.{codes}
use Rattle.wc_hw.specs.HardwareText.{hardware_text}
use Rattle.wc_io.proofs.WritingLemmas.{Writes_after, part_longer}
use Rattle.wc_report.proofs.edits.write_timing.Goals as goal

pub returns-in-Ok-clause-text : goal.returns-in-Ok-clause-text
returns-in-Ok-clause-text g c =
    Writes_after _ (g.K.Sink.held c.write_whole.new.sink) _ c.write_hardware.result (codes "hardware ") (hardware_text c.args.hardware.now) c.in-Ok.ensures.text c.write_hardware.ensures.text

pub returns-in-Err-clause-text : goal.returns-in-Err-clause-text
returns-in-Err-clause-text g c = part_longer _ _ (codes "hardware ") (hardware_text c.args.hardware.now) c.in-Err.ensures.text
