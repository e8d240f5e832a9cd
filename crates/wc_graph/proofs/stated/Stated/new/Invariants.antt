use Rattle.std.proofs.Common.{map, take}
use Rattle.wc_graph.specs.Inner.Stated.{AreStated}
use Rattle.wc_graph.proofs.stated.Stated.new.Given as goal

abbrev pub invariant-loop-fact : goal.invariant-loop-fact
invariant-loop-fact l = AreStated (map (λ f. f.1) (take l.fact-index l.fact-items)) l.stated
