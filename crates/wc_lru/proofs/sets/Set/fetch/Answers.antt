use Rattle.std.proofs.Common.{arith, length-set, ◌∙◌}
use Rattle.wc_lru.specs.Inner.Sets.{lines_of}
use Rattle.wc_lru.proofs.SetLemmas.{met, passed}
use Rattle.wc_lru.proofs.sets.Set.fetch.Goals as goal

-- src/sets.rt:36:17
pub returns-then-here-line-clause-lines : goal.returns-then-here-line-clause-lines
returns-then-here-line-clause-lines c =
    let l = c.loop-place in
    met c.args.ways c.args.line (lines_of c.args.self.now) l.self.lines l.self.count l.place l.coming (omega (arith, c.loop-place-test.true, l.invariant.count)) (omega (arith, l.invariant.count, l.invariant.eight, c.requires.ways, c.requires.count)) (omega (arith, l.invariant.count, c.requires.count)) c.if-here-line.true l.invariant.moving

-- src/sets.rt:32:9
pub loop-place-preserved : goal.loop-place-preserved
loop-place-preserved c =
    let l = c.loop-place in
    record {
      count = l.invariant.count;
      eight = length-set l.self.lines l.place l.coming ∙ l.invariant.eight;
      moving = passed c.args.line (lines_of c.args.self.now) l.self.lines l.self.count l.place l.coming (omega (arith, c.loop-place-test.true, l.invariant.count)) (omega (arith, l.invariant.count, l.invariant.eight, c.requires.ways, c.requires.count)) c.if-here-line.false l.invariant.moving;
    }
