use Rattle.std.proofs.Common.{◌≡◌, length}
use Rattle.wc_lru.specs.Inner.Sets.{IsMoving, lines_of}
use Rattle.wc_lru.proofs.sets.Set.fetch.Given as goal

abbrev pub invariant-loop-place : goal.invariant-loop-place
invariant-loop-place l = record {
  count : l.self.count ≡ l.fn.self.count;
  eight : length l.self.lines ≡ 8;
  moving : IsMoving l.line (lines_of l.fn.self) l.self.lines l.self.count l.place l.coming;
}
