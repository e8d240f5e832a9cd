use Rattle.std.proofs.Common.{flat_map}
use Rattle.wc_model.specs.Program.Elf.{symbols}
use Rattle.wc_model.specs.Program.Image.{label_checks, label_name}
use Rattle.wc_elf.proofs.Steps.{turn_pass, turn_items, turn_stops}
use Rattle.wc_elf.proofs.labels.names_in.Goals as goal

pub returns-in-Err-clause-reads : goal.returns-in-Err-clause-reads
returns-in-Err-clause-reads c =
    turn_stops (label_checks c.args.file.now c.args.header) c.args.table.now.symbols 16 c.args.table.now.count c.loop-index.index (flat_map (label_checks c.args.file.now c.args.header) (symbols c.args.file.now c.args.header)) c.in-Err.trouble c.loop-index-test.true c.loop-index.invariant.faults c.in-Err.ensures.reads

pub loop-index-preserved : goal.loop-index-preserved
loop-index-preserved c =
    record {
      names = turn_items (label_name c.args.file.now c.args.header) c.args.table.now.symbols 16 c.args.table.now.count c.loop-index.index c.loop-index.names.items c.add_name.new.names.items _ c.loop-index-test.true c.in_default.ensures.reads.1 c.loop-index.invariant.names;
      faults = turn_pass (label_checks c.args.file.now c.args.header) c.args.table.now.symbols 16 c.args.table.now.count c.loop-index.index _ c.loop-index-test.true c.in_default.ensures.reads.0 c.loop-index.invariant.faults;
      inside = c.in_default.ensures.inside c.loop-index.invariant.inside;
    }
