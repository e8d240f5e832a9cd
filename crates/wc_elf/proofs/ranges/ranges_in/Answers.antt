use Rattle.std.proofs.Common.{flat_map}
use Rattle.wc_model.specs.Program.Elf.{entries}
use Rattle.wc_model.specs.Program.Image.{segment_checks, segment_range}
use Rattle.wc_elf.proofs.Steps.{turn_pass, turn_items, turn_stops}
use Rattle.wc_elf.proofs.ranges.ranges_in.Goals as goal

pub returns-in-Err-clause-reads : goal.returns-in-Err-clause-reads
returns-in-Err-clause-reads c =
    turn_stops (segment_checks c.args.file.now) c.args.table 32 c.args.count c.loop-index.index (flat_map (segment_checks c.args.file.now) (entries c.args.table 32 c.args.count)) c.in-Err.trouble c.loop-index-test.true c.loop-index.invariant.faults c.in-Err.ensures.reads

pub loop-index-preserved : goal.loop-index-preserved
loop-index-preserved c =
    record {
      ranges = turn_items (segment_range c.args.file.now) c.args.table 32 c.args.count c.loop-index.index c.loop-index.ranges.items c.add_range.new.ranges.items _ c.loop-index-test.true c.in_default.ensures.reads.1 c.loop-index.invariant.ranges;
      faults = turn_pass (segment_checks c.args.file.now) c.args.table 32 c.args.count c.loop-index.index _ c.loop-index-test.true c.in_default.ensures.reads.0 c.loop-index.invariant.faults;
      inside = c.in_default.ensures.inside c.loop-index.invariant.inside;
    }
