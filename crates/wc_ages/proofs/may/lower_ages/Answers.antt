use Rattle.std.proofs.Common.{◌≡◌, ℕ, ◌∙◌, true, false}
use Rattle.wc_ages.proofs.MayLemmas.{lowering_more}
use Rattle.wc_ages.proofs.may.lower_ages.Goals as goal
use Rattle.wc_ages.proofs.may.lower_ages.Goals.{then-lower_age, else-lower_age}

pub loop-place-preserved : goal.loop-place-preserved
loop-place-preserved c =
    let e = c.lower_age.ensures in
    elim c.if-lower_age.branch [
      | then-lower_age w ↦ lowering_more c.args.other.now c.loop-place.place c.args.ages.now.items c.loop-place.ages.items c.lower_age.new.ages.items c.loop-place.changed true c.if-lower_age.changed c.loop-place-test.true c.requires c.loop-place.invariant e.ages (λ not. e.same (w.if-lower_age.true ∙ not)) (λ _. e.less w.if-lower_age.true) w.changed-is
      | else-lower_age w ↦ lowering_more c.args.other.now c.loop-place.place c.args.ages.now.items c.loop-place.ages.items c.lower_age.new.ages.items c.loop-place.changed false c.if-lower_age.changed c.loop-place-test.true c.requires c.loop-place.invariant e.ages (λ _. e.same w.if-lower_age.false) (λ yes. e.less (w.if-lower_age.false ∙ yes)) w.changed-is
    ]
