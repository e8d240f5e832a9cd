-- What the row machine needs of a system with stated limits.
use Rattle.std.specs.Prelude.{ℕ, ◌<◌, ◌≤◌, pos}
use Rattle.wc_model.specs.declared.flow_system.System.{System}
use Rattle.wc_model.specs.Flow.Cells.{cells_of}
use Rattle.wc_model.specs.Flow.Certificates.{ArePrices, Prices, scaled}
use Rattle.wc_model.specs.Flow.Ends.{system_ends}
use Rattle.wc_model.specs.Flow.Systems.{IsSystem}
use Rattle.wc_model.specs.Flow.Walks.{Joins}
use Rattle.wc_model.specs.Program.Reaching.{IsLive}

pub record IsSolvable (s : System) : Type 0 where
  pub sound : IsSystem s
  pub few : cells_of s ≤ 250000
  pub live : (p : ℕ) → p < s.nodes → IsLive (Joins system_ends s.steps) s.start p
  pub prices : Prices
  pub priced : ArePrices s (scaled (pos 1)) prices
