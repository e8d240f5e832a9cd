use Rattle.wc_simplex.proofs.DivisorLemmas.{same_gcd}
use Rattle.wc_simplex.proofs.numbers.common_divisor.Goals as goal

pub returns : goal.returns
returns c = same_gcd c.args.a c.args.b _ c.gcd.ensures
