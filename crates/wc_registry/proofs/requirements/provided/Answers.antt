use Rattle.std.proofs.Common.{List, take, sym, subst, arith}
use Rattle.std.proofs.lemmas.List.{take_all}
use Rattle.wc_model.specs.declared.kinds.Describe.{Describe}
use Rattle.wc_registry.specs.Inner.Required.{AreProvided}
use Rattle.wc_registry.proofs.FaultLemmas.{one_more, provided_more, provided_none}
use Rattle.wc_registry.proofs.requirements.provided.Goals as goal

pub loop-describe-init : goal.loop-describe-init
loop-describe-init c = record { are = provided_none c.empty-provided.result c.empty-provided.ensures.empty; counted = c.empty-provided.ensures.counted }

pub loop-describe-preserved : goal.loop-describe-preserved
loop-describe-preserved c =
    let l = c.loop-describe in
    record {
      are = subst (λ (ds : List Describe). AreProvided ds c.add.new.self) (sym (one_more c.args.list.now l.describe-index c.describe-item.result c.loop-describe-test.true c.describe-item.is))
          (provided_more (take l.describe-index c.args.list.now) c.describe-item.result l.provided c.add.new.self c.add.ensures.adds l.invariant.are);
      counted = c.add.ensures.counted;
    }

pub returns-clause-are : goal.returns-clause-are
returns-clause-are c = subst (λ (ds : List Describe). AreProvided ds c.loop-describe.provided) (take_all c.loop-describe.describe-index c.args.list.now (omega arith)) c.loop-describe.invariant.are
