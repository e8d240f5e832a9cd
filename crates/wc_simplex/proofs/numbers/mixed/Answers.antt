use Rattle.std.proofs.Common.{◌∙◌, rules}
use Rattle.wc_simplex.proofs.ExactLemmas.{mix_left}
use Rattle.wc_simplex.proofs.numbers.mixed.Goals as goal

pub returns-then-y-eq0 : goal.returns-then-y-eq0
returns-then-y-eq0 c = c.product.ensures ∙ mix_left c.args.a.now c.args.b.now c.args.x.now c.args.y.now (search rules) c.if-y-eq0.true
