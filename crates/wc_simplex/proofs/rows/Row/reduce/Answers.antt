use Rattle.wc_simplex.proofs.RowLemmas.{lower_small}
use Rattle.wc_simplex.proofs.rows.Row.reduce.Goals as goal

pub lower-requires : goal.lower-requires
lower-requires c = lower_small _ _ _ _ _ _ c.in_ok-mix_rows.ensures.mixed
