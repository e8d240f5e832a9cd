use Rattle.std.proofs.Common.{not, rules}
use Rattle.wc_model.specs.Flow.RowMachine.{is_zero}
use Rattle.wc_simplex.proofs.RowLemmas.{place_within}
use Rattle.wc_simplex.proofs.rows.Row.first_nonzero.Goals as goal

pub returns-clause-within : goal.returns-clause-within
returns-clause-within c = place_within (λ x. not (is_zero x)) c.args.self.now c.args.columns c.first_nonzero.result (search rules)
