-- A workspace of one session, which waits for nobody.
use Rattle.std.specs.Prelude.{ℕ, ◌≡◌, ◌≢◌, true, []}
use Rattle.wc_model.specs.Workspace.Closures.{has_kind, order_of}
use Rattle.wc_model.specs.Workspace.States.{Opening, home_of, start}

-- It has one session, and each kind of its registry has a work at home at the start.
pub record IsAlone (o : Opening) : Type 0 where
  pub one : o.sessions ≡ 1
  pub staffed : (kind : ℕ) → has_kind kind (order_of o.kinds) ≡ true → home_of kind (start o).home ≢ []
