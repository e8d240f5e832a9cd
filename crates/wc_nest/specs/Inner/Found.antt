-- What is found at a level.
use Rattle.std.specs.Prelude.{ℕ, ◌≡◌, Bool, false, List, replicate}
use Rattle.wc_nest.specs.declared.heads.Pair.{Pair}
use Rattle.wc_nest.specs.declared.marking.Mark.{Mark}
use Rattle.wc_nest.specs.declared.ways.Way.{Way}
use Rattle.wc_nest.specs.Inner.Classes.{AreClasses}
use Rattle.wc_nest.specs.Inner.Levels.{enter_ways, loop_ways, no_heads, note_nodes}

-- the classes, which nodes are entered, which classes have a way inside, and the first two heads of each
pub record AreFound (start : ℕ) (members : List ℕ) (ways : List Way) (marks : List Mark) (count : ℕ) (old entered looped : List Bool) (pairs : List Pair) : Type 0 where
  pub classes : AreClasses ways members marks count
  pub are_entered : entered ≡ enter_ways marks old ways
  pub are_looped : looped ≡ loop_ways marks (replicate count false) ways
  pub are_pairs : pairs ≡ note_nodes marks entered start (replicate count no_heads) members
