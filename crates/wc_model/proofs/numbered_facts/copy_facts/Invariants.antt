use Rattle.std.proofs.Common.{◌≡◌, take}
use Rattle.wc_model.proofs.numbered_facts.copy_facts.Given as goal

abbrev pub invariant-loop-fact : goal.invariant-loop-fact
invariant-loop-fact l = l.items.items ≡ take l.fact-index l.facts
