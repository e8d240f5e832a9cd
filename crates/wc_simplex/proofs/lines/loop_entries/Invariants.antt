use Rattle.std.proofs.Common.{◌≡◌, false, get_or, map}
use Rattle.std.specs.List.{range_with_len}
use Rattle.wc_simplex.specs.Inner.Lines.{loop_entry}
use Rattle.wc_simplex.proofs.lines.loop_entries.Given as goal

abbrev pub invariant-loop-place : goal.invariant-loop-place
invariant-loop-place l = l.entries.items ≡ map (λ i. loop_entry (get_or l.back i false) (get_or l.entry i false) l.bound) (range_with_len 0 l.place)
