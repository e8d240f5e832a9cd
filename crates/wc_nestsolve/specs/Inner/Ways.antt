-- The orders in which the passes go over the nodes.
use Rattle.std.specs.Prelude.{ℕ, ◌+◌, List, Option}
use Rattle.wc_model.specs.declared.flow_system.System.{System}
use Rattle.wc_model.specs.declared.graphs.Nest.{Nest}
use Rattle.wc_model.specs.Flow.Ends.{system_ends}
use Rattle.wc_model.specs.Flow.Walks.{AreStarts}
use Rattle.wc_nestsolve.specs.declared.found.Found.{Found}
use Rattle.wc_nestsolve.specs.declared.ways.Ways.{Ways}
use Rattle.wc_nestsolve.specs.Inner.Orders.{IsDownOrder}
use Rattle.wc_nestsolve.specs.Inner.Passes.{AreClasses, AreRounds, IsRoundsPass}
use Rattle.wc_nestsolve.specs.Inner.Solvable.{IsSolvable}

module _ (s : System) where
  pub record AreWays (nest : Nest) (w : Ways) : Type 0 where
    pub solvable : IsSolvable nest s
    pub order : IsDownOrder s nest w.order.items
    pub classes : AreClasses nest w.order.items w.classes.items
    pub starts : AreStarts system_ends (s.nodes + 1) s.steps w.starts.items

-- the rounds of the loops from `count` on, and of all
abbrev pub FindsRounds : System → Nest → Ways → ℕ → List ℕ → List ℕ → List (Option Found) → Type 0
FindsRounds s nest w count extra v best = IsRoundsPass s nest w.order.items w.classes.items count extra v best

abbrev pub HasRounds : System → Nest → Ways → List ℕ → List ℕ → Type 0
HasRounds s nest w extra v = AreRounds s nest w.order.items w.classes.items 0 extra v
