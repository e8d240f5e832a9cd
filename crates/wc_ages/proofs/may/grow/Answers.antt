use Rattle.std.proofs.Common.{◌≡◌, ℕ, ◌<◌, ◌∙◌, length, ap, arith}
use Rattle.wc_ages.proofs.MayLemmas.{ages_yes, ages_no}
use Rattle.wc_ages.proofs.may.grow.Goals as goal
use Rattle.wc_ages.proofs.may.grow.Goals.{then-age-limit, else-age-limit}

pub loop-age-preserved : goal.loop-age-preserved
loop-age-preserved c =
    let old = c.args.ages.now.items in
    let now = c.loop-age.age-items in
    let i = c.loop-age.age-index in
    let value = ap length c.deref_mut-age-items.ensures.value in
    let within : i < length old = omega (arith, c.loop-age-test.true, value) in
    let long : length now ≡ length old = c.loop-age.auto.age-items ∙ value in
    elim c.if-age-limit.branch [
      | then-age-limit w ↦ w.age-items-is ∙ ages_yes c.args.limit old now i within c.loop-age.invariant long w.if-age-limit.true
      | else-age-limit w ↦ w.age-items-is ∙ ages_no c.args.limit old now i within c.loop-age.invariant long w.if-age-limit.false
    ]
