use Rattle.std.proofs.Common.{rules, SFits}
use Rattle.std.proofs.lemmas.Int.{to_z-of_z}
use mir.Syntax.{w128}
use Rattle.wc_dual.specs.Inner.Lines.{listed}
use Rattle.wc_dual.proofs.CertificateLemmas.{dual_end, dual_out}
use Rattle.wc_dual.proofs.values.dual_of.Goals as goal

pub returns-in_default : goal.returns-in_default
returns-in_default c = dual_out c.args.system.now (listed c.args.prices.now) _ c.items-loops.ensures c.in_default.ensures

pub returns : goal.returns
returns c =
    let fits : SFits w128 c.in-Some.sum = search rules in
    dual_end c.args.system.now (listed c.args.prices.now) _ _ c.items-loops.ensures c.items-limits.ensures c.in-Some.sum _ (to_z-of_z w128 c.in-Some.sum fits) c.in-Some.ensures c.with_constants.result c.with_constants.ensures
