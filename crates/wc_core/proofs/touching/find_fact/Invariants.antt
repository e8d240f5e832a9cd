-- the facts to come decide
use Rattle.std.proofs.Common.{◌≡◌, drop}
use Rattle.wc_model.specs.Workspace.Edits.{fact_numbered}
use Rattle.wc_core.proofs.touching.find_fact.Given as goal

abbrev pub invariant-loop-fact : goal.invariant-loop-fact
invariant-loop-fact l = fact_numbered l.number (drop l.fact-index l.facts) ≡ fact_numbered l.number l.facts
