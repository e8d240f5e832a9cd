use Rattle.std.proofs.Common.{List, ℕ, ◌&&◌, ◌||◌, not, take, sym, subst, ap, ◌∙◌, arith}
use Rattle.std.proofs.lemmas.List.{take_all}
use Rattle.wc_model.specs.declared.kinds.Describe.{Describe}
use Rattle.wc_model.specs.Workspace.Closures.{has_kind}
use Rattle.wc_registry.specs.Inner.KindSets.{holds}
use Rattle.wc_registry.specs.Inner.Required.{AreMissing}
use Rattle.wc_registry.proofs.FaultLemmas.{missing_more, missing_none, one_more, provided_below}
use Rattle.wc_registry.proofs.requirements.missing.Goals as goal

pub loop-describe-init : goal.loop-describe-init
loop-describe-init c = missing_none c.args.list.now c.provided-provided.result c.provided-provided.ensures.are c.empty-missing.result c.empty-missing.ensures.empty

pub loop-describe-preserved : goal.loop-describe-preserved
loop-describe-preserved c =
    let l = c.loop-describe in
    let list : List Describe = c.args.list.now in
    let adds = λ (k : ℕ). c.add_unless.ensures k ∙ ap (λ (ks : List ℕ). (has_kind k ks && not (holds c.provided-provided.result k)) || holds c.loop-describe.missing k) c.items.ensures in
    subst (λ (ds : List Describe). AreMissing list ds c.add_unless.new.self) (sym (one_more list l.describe-index c.describe-item.result c.loop-describe-test.true c.describe-item.is))
    (missing_more list c.provided-provided.result c.provided-provided.ensures.are (take l.describe-index list) c.describe-item.result l.missing c.add_unless.new.self adds l.invariant)

pub returns-clause-missing : goal.returns-clause-missing
returns-clause-missing c = subst (λ (ds : List Describe). AreMissing c.args.list.now ds c.loop-describe.missing) (take_all c.loop-describe.describe-index c.args.list.now (omega arith)) c.loop-describe.invariant

pub returns-clause-below : goal.returns-clause-below
returns-clause-below c = provided_below c.args.list.now c.provided-provided.result 65 c.provided-provided.ensures.counted c.provided-provided.ensures.are
