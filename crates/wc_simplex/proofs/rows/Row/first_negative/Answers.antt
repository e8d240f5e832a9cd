use Rattle.std.proofs.Common.{rules}
use Rattle.wc_model.specs.Flow.RowMachine.{is_negative}
use Rattle.wc_simplex.proofs.RowLemmas.{place_within}
use Rattle.wc_simplex.proofs.rows.Row.first_negative.Goals as goal

pub returns-clause-within : goal.returns-clause-within
returns-clause-within c = place_within is_negative c.args.self.now c.args.columns c.first_negative.result (search rules)
