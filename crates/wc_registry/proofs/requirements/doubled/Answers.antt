use Rattle.std.proofs.Common.{List, Bool, [], ◌∷◌, ◌++◌, take, sym, subst, ◌∙◌, arith}
use Rattle.std.proofs.lemmas.List.{take_all}
use Rattle.wc_model.specs.declared.kinds.Describe.{Describe}
use Rattle.wc_registry.specs.Inner.Required.{AreDoubled, AreProvided}
use Rattle.wc_registry.proofs.FaultLemmas.{doubled_more, doubled_none, doubled_same, one_more, provided_more, provided_none}
use Rattle.wc_registry.proofs.requirements.doubled.Goals.{then-has, else-has}
use Rattle.wc_registry.proofs.requirements.doubled.Goals as goal

pub loop-describe-init : goal.loop-describe-init
loop-describe-init c = record { are = provided_none c.empty-provided.result c.empty-provided.ensures.empty; doubled = doubled_none c.empty-doubled.result c.empty-doubled.ensures.empty }

pub loop-describe-preserved : goal.loop-describe-preserved
loop-describe-preserved c =
    let l = c.loop-describe in
    let d : Describe = c.describe-item.result in
    let ds : List Describe = take l.describe-index c.args.list.now in
    let more = sym (one_more c.args.list.now l.describe-index d c.loop-describe-test.true c.describe-item.is) in
    record {
      are = subst (λ (es : List Describe). AreProvided es c.add-in-loop-describe.new.self) more (provided_more ds d l.provided c.add-in-loop-describe.new.self c.add-in-loop-describe.ensures.adds l.invariant.are);
      doubled = subst (λ (es : List Describe). AreDoubled es c.if-has.doubled) more (elim c.if-has.branch [
        | then-has w ↦ subst (λ (marks : List Bool). AreDoubled (take c.loop-describe.describe-index c.args.list.now ++ c.describe-item.result ∷ []) marks) (sym w.doubled-is) (doubled_more (take c.loop-describe.describe-index c.args.list.now) c.describe-item.result c.loop-describe.provided c.loop-describe.doubled w.add.new.self c.loop-describe.invariant.are (sym c.has.ensures ∙ w.if-has.true) w.add.ensures.adds c.loop-describe.invariant.doubled)
        | else-has w ↦ subst (λ (marks : List Bool). AreDoubled (take c.loop-describe.describe-index c.args.list.now ++ c.describe-item.result ∷ []) marks) (sym w.doubled-is) (doubled_same (take c.loop-describe.describe-index c.args.list.now) c.describe-item.result c.loop-describe.provided c.loop-describe.doubled c.loop-describe.invariant.are (sym c.has.ensures ∙ w.if-has.false) c.loop-describe.invariant.doubled)
      ]);
    }

pub returns : goal.returns
returns c = subst (λ (ds : List Describe). AreDoubled ds c.loop-describe.doubled) (take_all c.loop-describe.describe-index c.args.list.now (omega arith)) c.loop-describe.invariant.doubled
