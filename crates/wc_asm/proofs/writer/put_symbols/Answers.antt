use Rattle.wc_asm.proofs.Appends.{symbols_turn, addresses_turn, size_turn}
use Rattle.wc_asm.proofs.writer.put_symbols.Goals as goal

pub loop-name-preserved : goal.loop-name-preserved
loop-name-preserved c =
    record {
      written = symbols_turn c.args.names.now c.loop-name.name-index c.loop-name.place c.name-item.result c.items.result.now c.loop-name.file.items c.put_symbol.new.file.items _ c.loop-name-test.true c.name-item.is c.items.ensures c.in_ok-put_symbol.ensures.symbol c.loop-name.invariant.written;
      addresses = addresses_turn c.args.names.now c.loop-name.name-index c.name-item.result c.loop-name-test.true c.name-item.is c.put_symbol.ensures.address c.loop-name.invariant.addresses;
      place = size_turn c.args.names.now c.loop-name.name-index c.loop-name.place c.name-item.result c.items.result.now _ c.loop-name-test.true c.name-item.is c.items.ensures c.loop-name.invariant.place;
    }
