use Rattle.std.proofs.Common.{ℕ, List, IfOk, ap, subst, ◌∙◌}
use Rattle.std.proofs.lemmas.Result.{IfOk-weaker}
use Rattle.wc_model.specs.declared.flow_facts.Fact.{Fact}
use Rattle.wc_model.specs.Workspace.Edits.{numbered}
use Rattle.wcet.specs.BoundCall.{setting_in}
use Rattle.wcet.specs.Chained.{covers, given}
use Rattle.wc_model.specs.Workspace.Chain.{chain}
use Rattle.wcet.proofs.ChainLemmas.{chain_covers}
use Rattle.wcet.proofs.bound.outcome_of.Goals as goal

pub returns-clause-safe : goal.returns-clause-safe
returns-clause-safe g c =
    let facts = c.in_ok-facts.ensures ∙ ap (numbered 2) c.as_slice.ensures.value in
    let P : List (ℕ × Fact) → Type 0 = λ fs. IfOk c.chain.result (chain (given c.args.loaded.image fs c.args.loaded.hardware) c.args.name.now) in
    IfOk-weaker c.chain.result (chain (setting_in c.args.loaded) c.args.name.now) (covers (setting_in c.args.loaded) c.args.name.now)
    (λ outcome is. chain_covers (setting_in c.args.loaded) c.args.name.now outcome is)
    (subst P facts (rw c.as_bytes.ensures.value at c.chain.ensures.outcome))
