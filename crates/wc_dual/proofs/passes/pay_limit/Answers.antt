use Rattle.std.proofs.Common.{ℕ, ℤ, ◌*ℤ◌, ◌⊎◌, get_or, map, pos, slice_get, subst, sym, arith}
use Rattle.std.proofs.lemmas.Option.{slice_get-get_or}
use Rattle.wc_model.specs.Flow.Certificates.{factor_of}
use Rattle.wc_model.specs.Flow.Places.{IsOnce}
use Rattle.wc_model.specs.Flow.SystemWalks.{cost_at}
use Rattle.wc_dual.specs.Inner.Blocks.{Adds, CannotAdd}
use Rattle.wc_dual.specs.Inner.Lines.{IsWideFactor}
use Rattle.wc_dual.proofs.PayLemmas.{limit_end, limit_next, limit_out, limit_start}
use Rattle.wc_dual.proofs.passes.pay_limit.Goals as goal

pub loop-factor-init : goal.loop-factor-init
loop-factor-init c = limit_start c.args.steps.now c.items-factor-items.result.now c.args.price.now c.args.first (subst (λ fs. IsOnce (map (λ f. f.0) fs)) (sym c.items-factor-items.ensures) c.requires.once) c.args.sums.now

pub returns-then-not-pay_factor : goal.returns-then-not-pay_factor
returns-then-not-pay_factor c =
    let once = subst (λ fs. IsOnce (map (λ f. f.0) fs)) (sym c.items-factor-items.ensures) c.requires.once in
    let none : ℕ × ℤ = (0, pos 0) in
    let f : ℕ × ℤ = get_or c.items-factor-items.result.now c.loop-factor.factor-index none in
    let at = slice_get-get_or c.items-factor-items.result.now c.loop-factor.factor-index none c.loop-factor-test.true in
    subst (λ gs. IsWideFactor c.args.steps.now c.args.row.now c.args.price.now ⊎ CannotAdd c.args.first (λ i. cost_at (λ t. factor_of t.source gs *ℤ c.args.price.now) (slice_get c.args.steps.now i)) c.args.sums.now)
    c.items-factor-items.ensures
    (limit_out c.args.steps.now c.items-factor-items.result.now c.args.price.now c.args.first once c.args.row.now c.loop-factor.factor-index f c.args.sums.now c.loop-factor.sums (sym c.items-factor-items.ensures) at
    c.loop-factor.invariant c.if-not-pay_factor.ensures)

pub loop-factor-preserved : goal.loop-factor-preserved
loop-factor-preserved c =
    let once = subst (λ fs. IsOnce (map (λ f. f.0) fs)) (sym c.items-factor-items.ensures) c.requires.once in
    let none : ℕ × ℤ = (0, pos 0) in
    let f : ℕ × ℤ = get_or c.items-factor-items.result.now c.loop-factor.factor-index none in
    let at = slice_get-get_or c.items-factor-items.result.now c.loop-factor.factor-index none c.loop-factor-test.true in
    limit_next c.args.steps.now c.items-factor-items.result.now c.args.price.now c.args.first once c.loop-factor.factor-index f c.args.sums.now c.loop-factor.sums c.pay_factor.new.sums at c.loop-factor.invariant
    c.if-not-pay_factor.ensures

pub returns : goal.returns
returns c =
    let once = subst (λ fs. IsOnce (map (λ f. f.0) fs)) (sym c.items-factor-items.ensures) c.requires.once in
    subst (λ gs. Adds c.args.first (λ i. cost_at (λ t. factor_of t.source gs *ℤ c.args.price.now) (slice_get c.args.steps.now i)) c.args.sums.now c.loop-factor.sums) c.items-factor-items.ensures
    (limit_end c.args.steps.now c.items-factor-items.result.now c.args.price.now c.args.first once c.loop-factor.factor-index c.args.sums.now c.loop-factor.sums (omega arith) c.loop-factor.invariant)
