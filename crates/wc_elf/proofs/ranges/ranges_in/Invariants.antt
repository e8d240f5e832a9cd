use Rattle.std.proofs.Common.{◌≡◌, ◌++◌, flat_map, length, All}
use Rattle.wc_model.specs.Program.Elf.{entries}
use Rattle.wc_model.specs.Program.Image.{first_fault, segment_checks, segment_range}
use Rattle.wc_elf.specs.Readings.{IsInside}
use Rattle.wc_elf.proofs.Steps.{rest}
use Rattle.wc_elf.proofs.ranges.ranges_in.Given as goal

abbrev pub invariant-loop-index : goal.invariant-loop-index
invariant-loop-index l =
    record {
      ranges : l.ranges.items ++ flat_map (segment_range l.file) (rest l.table 32 l.count l.index) ≡ flat_map (segment_range l.file) (entries l.table 32 l.count);
      faults : first_fault (flat_map (segment_checks l.file) (rest l.table 32 l.count l.index)) ≡ first_fault (flat_map (segment_checks l.file) (entries l.table 32 l.count));
      inside : All (IsInside (length l.file)) l.ranges.items;
    }
