use Rattle.std.proofs.Common.{rules}
use Rattle.wc_simplex.proofs.ExactLemmas.{no_quotient}
use Rattle.wc_simplex.proofs.numbers.quotient.Goals as goal

pub returns-then-entry-eq0 : goal.returns-then-entry-eq0
returns-then-entry-eq0 c = no_quotient c.args.entry.now c.args.by (search rules) c.if-entry-eq0.true
