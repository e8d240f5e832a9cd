use Rattle.std.proofs.Common.{ℕ, ℤ, get_or, pos, inl, inr, ⊎_elim, ◌∙◌, rules, SFits}
use Rattle.std.proofs.lemmas.Int.{to_z-of_z}
use Rattle.std.proofs.lemmas.Option.{slice_get-get_or}
use mir.Syntax.{w128}
use Rattle.wc_model.specs.Flow.Places.{number_at}
use Rattle.wc_dual.specs.Inner.Limits.{factor_term}
use Rattle.wc_dual.proofs.PassLemmas.{sum_next, sum_out}
use Rattle.wc_dual.proofs.limits.factors_times.Goals as goal

pub returns-in_default : goal.returns-in_default
returns-in_default c =
    let none : ℕ × ℤ = (0, pos 0) in
    let f : ℕ × ℤ = get_or c.args.factors.now c.loop-factor.factor-index none in
    let at = slice_get-get_or c.args.factors.now c.loop-factor.factor-index none c.loop-factor-test.true in
    ⊎_elim (λ wide. inl (c.loop-factor.factor-index, f, at, wide))
    (λ out. inr (sum_out (factor_term c.args.steps.now (number_at c.args.x.now)) c.args.factors.now (pos 0) c.loop-factor.factor-index f _ at c.loop-factor.invariant out))
    c.in_default.ensures

pub loop-factor-preserved : goal.loop-factor-preserved
loop-factor-preserved c =
    let none : ℕ × ℤ = (0, pos 0) in
    let f : ℕ × ℤ = get_or c.args.factors.now c.loop-factor.factor-index none in
    let at = slice_get-get_or c.args.factors.now c.loop-factor.factor-index none c.loop-factor-test.true in
    let fits : SFits w128 c.in-Some.next = search rules in
    to_z-of_z w128 c.in-Some.next fits
    ∙ sum_next (factor_term c.args.steps.now (number_at c.args.x.now)) c.args.factors.now (pos 0) c.loop-factor.factor-index f _ c.in-Some.next at c.loop-factor.invariant c.in-Some.ensures
