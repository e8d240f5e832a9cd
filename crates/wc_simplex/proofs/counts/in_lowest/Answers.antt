use Rattle.std.proofs.Common.{◌<◌, ◌/◌, sym, subst}
use Rattle.wc_simplex.proofs.ReadingLemmas.{gcd_some, part_some}
use Rattle.wc_simplex.proofs.counts.in_lowest.Goals as goal

pub nonzero_div-result : goal.nonzero_div-result
nonzero_div-result c = subst (λ g. 0 < g) (sym c.common_divisor-common.ensures) (gcd_some c.args.over c.args.under c.requires)

pub nonzero_div-result-2 : goal.nonzero_div-result-2
nonzero_div-result-2 c = subst (λ g. 0 < g) (sym c.common_divisor-common.ensures) (gcd_some c.args.over c.args.under c.requires)

pub returns-clause-some : goal.returns-clause-some
returns-clause-some c = subst (λ g. 0 < c.args.under / g) (sym c.common_divisor-common.ensures) (part_some c.args.over c.args.under c.requires)
