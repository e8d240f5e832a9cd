-- A law of all systems of a graph and its nest, with stated limits or without, whose ceiling is below 2^100: the line
-- of each step is met by potentials and prices of the loops alone.
use Rattle.std.specs.Prelude.{ℕ, ◌≡◌, ◌<◌, ◌^◌, pos}
use Rattle.wc_model.specs.declared.flow_system.System.{System}
use Rattle.wc_model.specs.declared.graphs.Graph.{Graph}
use Rattle.wc_model.specs.declared.graphs.Nest.{Nest}
use Rattle.wc_model.specs.Flow.Ceiling.{ceiling_of}
use Rattle.wc_model.specs.Flow.Certificates.{ArePrices, Prices, scaled}
use Rattle.wc_model.specs.Flow.Nest.{IsNest}
use Rattle.wc_model.specs.Flow.Systems.{IsSystem}
use Rattle.wc_model.specs.Program.Graphs.{IsGraph}
use Rattle.wc_nestsolve.specs.Given.{IsSystemIn}

abbrev pub LoopsArePriced : Type 0
LoopsArePriced = (graph : Graph) (nest : Nest) (s : System)
    → IsGraph graph → IsNest graph nest → IsSystemIn graph nest s → IsSystem s → ceiling_of nest s < 2 ^ 100
    → (prices : Prices) × ArePrices s (scaled (pos 1)) prices × ((k : ℕ) → prices.w k ≡ pos 0)
