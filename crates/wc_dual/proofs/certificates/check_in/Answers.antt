use Rattle.std.proofs.Common.{subst, sym}
use Rattle.wc_model.specs.Flow.Places.{number_at}
use Rattle.wc_dual.specs.Wide.{IsWideCount}
use Rattle.wc_dual.specs.Inner.Shapes.{AreCounts}
use Rattle.wc_dual.proofs.CertificateLemmas.{counts_of, fair_of, pass_on, priced_of, shaped_of, solution_end, wide_counts, wide_prices}
use Rattle.wc_dual.proofs.certificates.check_in.Goals as goal

pub returns-then-not-is_shaped : goal.returns-then-not-is_shaped
returns-then-not-is_shaped c = λ holds. c.if-not-is_shaped.ensures (shaped_of c.args.system.now c.args.solution.now c.prices_of-prices.result c.prices_of-prices.ensures holds)

pub returns-then-not-are_fair : goal.returns-then-not-are_fair
returns-then-not-are_fair c = λ holds. c.if-not-are_fair.ensures (fair_of c.args.system.now c.args.solution.now c.prices_of-prices.result c.prices_of-prices.ensures holds)

pub returns-in_default : goal.returns-in_default
returns-in_default c =
    pass_on c.check_counts.result c.in_default.not-Yes
    (λ whole. subst (λ zs. AreCounts c.args.system.now c.args.solution.now.den (number_at zs)) (sym c.items-x.ensures)
    (counts_of c.args.system.now c.args.solution.now c.prices_of-prices.result c.prices_of-prices.ensures whole))
    (λ wide. wide_counts c.args.system.now c.args.solution.now c.prices_of-prices.result c.prices_of-prices.ensures
    (subst (λ zs. IsWideCount c.args.system.now c.args.solution.now.den (number_at zs)) c.items-x.ensures wide)) c.check_counts.ensures

pub returns-in_default-check_prices : goal.returns-in_default-check_prices
returns-in_default-check_prices c =
    pass_on c.check_prices.result c.in_default-check_prices.not-Yes (priced_of c.args.system.now c.args.solution.now c.prices_of-prices.result c.prices_of-prices.ensures)
    (wide_prices c.args.system.now c.args.solution.now c.prices_of-prices.result c.prices_of-prices.ensures) c.check_prices.ensures

pub returns : goal.returns
returns c =
    solution_end c.args.system.now c.args.solution.now c.prices_of-prices.result c.prices_of-prices.ensures c.if-not-is_shaped.ensures c.if-not-are_fair.ensures
    (subst (λ zs. AreCounts c.args.system.now c.args.solution.now.den (number_at zs)) c.items-x.ensures c.in-Yes.ensures) c.in-Yes-check_prices.ensures c.check_values.result c.check_values.ensures
