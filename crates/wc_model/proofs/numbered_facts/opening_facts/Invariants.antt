-- what is there, and what is to come
use Rattle.std.proofs.Common.{◌≡◌, ◌++◌, ◌+◌, drop}
use Rattle.wc_model.specs.Workspace.Edits.{numbered}
use Rattle.wc_model.proofs.numbered_facts.opening_facts.Given as goal

abbrev pub invariant-loop-fact : goal.invariant-loop-fact
invariant-loop-fact l = (l.items.items ++ numbered l.number (drop l.fact-index l.facts) ≡ numbered 2 l.facts) × (l.number ≡ l.fact-index + 2)
