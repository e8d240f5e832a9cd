use Rattle.std.proofs.Common.{◌≡◌, ℕ, ◌*◌, ◌<◌, ◌≤◌, min, length, slice_index}
use Rattle.wc_elf.specs.Strings.{nul_from}
use Rattle.wc_elf.proofs.strings.block_ends.Given as goal

abbrev pub invariant-loop-block : goal.invariant-loop-block
invariant-loop-block l =
    record {
      below : l.block ≤ l.count;
      size : length l.ends.items ≡ l.count;
      next : l.next ≡ nul_from l.strings (min (64 * l.block) (length l.strings));
      done : (b : ℕ) → l.block ≤ b → b < l.count → slice_index l.ends.items b ≡ nul_from l.strings (64 * b);
    }

abbrev pub decreases-loop-block : goal.decreases-loop-block
decreases-loop-block l = l.block
