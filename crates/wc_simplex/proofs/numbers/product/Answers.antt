use Rattle.std.proofs.Common.{◌*ℤ◌, rules}
use Rattle.wc_simplex.proofs.ExactLemmas.{exact_read, no_product}
use Rattle.wc_simplex.proofs.numbers.product.Goals as goal

pub returns : goal.returns
returns c = exact_read ◌*ℤ◌ c.args.a.now c.args.b.now _ (search rules) (search rules) c.mul.ensures

pub returns-then-b-eq0 : goal.returns-then-b-eq0
returns-then-b-eq0 c = no_product c.args.a.now c.args.b.now (search rules) c.if-b-eq0.true
