use Rattle.std.proofs.Common.{map}
use Rattle.wc_bounds.specs.Inner.Tallies.{IsTally}
use Rattle.wc_bounds.proofs.tallies.tally_heads.Given as goal

abbrev pub invariant-loop-index : goal.invariant-loop-index
invariant-loop-index l = IsTally l.graph l.nest (map (λ f. f.1) l.facts) l.index l.tally
