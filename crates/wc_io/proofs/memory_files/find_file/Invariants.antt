use Rattle.std.proofs.Common.{◌≡◌, drop, map}
use Rattle.std.specs.List.{find}
use Rattle.wc_io.specs.Memory.{is_at, seen}
use Rattle.wc_io.proofs.memory_files.find_file.Given as goal

abbrev pub invariant-loop-file : goal.invariant-loop-file
invariant-loop-file l = find (is_at l.path) (map seen (drop l.file-index l.files)) ≡ find (is_at l.path) (map seen l.files)
