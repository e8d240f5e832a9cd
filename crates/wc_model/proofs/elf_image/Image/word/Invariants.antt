use Rattle.std.proofs.Common.{◌≡◌, drop}
use Rattle.std.specs.List.{find}
use Rattle.wc_model.specs.Program.Words.{has_word, word_in}
use Rattle.wc_model.proofs.elf_image.Image.word.Given as goal

-- the ranges to come decide
abbrev pub invariant-loop-range : goal.invariant-loop-range
invariant-loop-range l = word_in l.self.bytes l.at (find (has_word l.at) (drop l.range-index l.range-items)) ≡ word_in l.self.bytes l.at (find (has_word l.at) l.self.ranges)
