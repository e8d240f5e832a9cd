use Rattle.std.proofs.Common.{ℕ, ◌≡◌, List, drop}
use Rattle.std.specs.List.{list_any}
use Rattle.wc_model.specs.Program.Positions.{Call}
use Rattle.wc_graph.specs.Inner.Opened.{reopens}
use Rattle.wc_graph.specs.Inner.Frames.{HasStack}
use Rattle.wc_graph.proofs.opened.Opened.reopens.Given as goal

abbrev pub invariant-loop-turn : goal.invariant-loop-turn
invariant-loop-turn l = (entry : ℕ) (calls : List Call) → HasStack entry l.frames l.frame calls → list_any (λ t. reopens entry calls t.way) (drop l.turn-index l.turns) ≡ list_any (λ t. reopens entry calls t.way) l.turns
