use Rattle.std.proofs.Common.{◌-ℤ◌, pos, rules}
use Rattle.wc_simplex.proofs.ExactLemmas.{exact_read}
use Rattle.wc_simplex.proofs.numbers.negated.Goals as goal

pub returns : goal.returns
returns c = exact_read ◌-ℤ◌ (pos 0) c.args.a.now _ (search rules) (search rules) c.sub.ensures
