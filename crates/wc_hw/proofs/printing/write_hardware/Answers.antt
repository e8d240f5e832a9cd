use Rattle.wc_io.proofs.WritingLemmas.{WritesTo_after, WritesTo_stopped}
use Rattle.wc_hw.specs.HardwareText.{cycles_text, icache_text}
use Rattle.wc_hw.proofs.printing.write_hardware.Goals as goal

pub returns-in-Ok : goal.returns-in-Ok
returns-in-Ok g c =
    WritesTo_after g.K.Sink _ c.write_cycles.new.sink _ _ c.write_rest.result (cycles_text c.args.hardware.now.cycles)
    (icache_text c.args.hardware.now.cycles c.args.hardware.now.cache) c.in-Ok.ensures c.write_rest.ensures

pub returns-in-Err : goal.returns-in-Err
returns-in-Err g c =
    WritesTo_stopped g.K.Sink _ _ _ _ (cycles_text c.args.hardware.now.cycles) (icache_text c.args.hardware.now.cycles c.args.hardware.now.cache) c.in-Err.ensures
