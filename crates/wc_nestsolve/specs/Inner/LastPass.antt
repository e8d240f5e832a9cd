-- The last pass: potentials and counts, loop by loop from the outermost inwards.
use Rattle.std.specs.Prelude.{ℕ, ◌≡◌, ◌+◌, ◌*◌, ◌<◌, ◌^◌, ℤ, pos, neg_ℤ, ◌≤ℤ◌, true, List, length, slice_index, Option, Some}
use Rattle.wc_model.specs.declared.flow_system.System.{System}
use Rattle.wc_model.specs.declared.flow_system.SystemLoop.{SystemLoop}
use Rattle.wc_model.specs.declared.graphs.Nest.{Nest}
use Rattle.wc_model.specs.Flow.Counts.{entered, out_of}
use Rattle.wc_nestsolve.specs.declared.found.Found.{Found}
use Rattle.wc_nestsolve.specs.declared.ways.Ways.{Ways}
use Rattle.wc_nestsolve.specs.Inner.Flows.{IsFlow}
use Rattle.wc_nestsolve.specs.Inner.Nested.{IsLoop, lies}
use Rattle.wc_nestsolve.specs.Inner.Passes.{bounds_of, numbers, rounds_in}
use Rattle.wc_nestsolve.specs.Inner.Potentials.{IsPotential}
use Rattle.wc_nestsolve.specs.Inner.Raising.{potential_at}
use Rattle.wc_nestsolve.specs.Inner.Tables.{AreTables, IsClear, IsTable, found_at, value_of_found}
use Rattle.wc_nestsolve.specs.Inner.Weights.{surcharge}

module _ (s : System) (nest : Nest) (v : List ℕ) (value : ℤ) where
  pub record ArePotentials (count : ℕ) (u : List (Option ℤ)) : Type 0 where
    pub counted : length u ≡ s.nodes
    pub met : IsPotential s nest (numbers v) count (potential_at u)
    pub at_start : potential_at u s.start ≡ Some value
    pub low : (p : ℕ) (z : ℤ) → potential_at u p ≡ Some z → neg_ℤ (pos ((count + 1) * 2 ^ 100)) ≤ℤ z
    pub high : (p : ℕ) (z : ℤ) → potential_at u p ≡ Some z → z ≤ℤ pos ((count + 1) * 2 ^ 100)

  pub record AreCounts (count : ℕ) (x : List ℕ) : Type 0 where
    pub counted : length x ≡ length s.steps
    pub flow : IsFlow s nest (numbers v) count value (numbers x)
    pub come : (k : ℕ) (l : SystemLoop) → IsLoop s nest k l → k < count → entered s.start (pos 1) (numbers x) l ≤ℤ pos (rounds_in nest (bounds_of s) 0 k l.head)
    pub seen : (p : ℕ) → p < s.nodes → out_of s.steps (numbers x) p ≤ℤ pos (rounds_in nest (bounds_of s) 0 count p)

-- the table of the ways round a loop is filled once more, with the round's value
pub record IsFilledFor (s : System) (nest : Nest) (w : Ways) (place : ℕ) (v : List ℕ) (best : List (Option Found)) : Type 0 where
  pub own : SystemLoop
  pub here : IsLoop s nest place own
  pub extra : List ℕ
  pub tables : AreTables s nest extra best
  pub counted : length v ≡ length s.loops
  pub charged : (q : ℕ) → pos (slice_index extra q) ≡ surcharge s (numbers v) q
  pub table : IsTable s nest (Some own.head) (λ p. (lies nest place p ≡ true) × (p < s.nodes)) extra best
  pub value : value_of_found (found_at best own.head) ≡ slice_index v place
  pub small : (p : ℕ) (f : Found) → found_at best p ≡ Some f → f.value < 2 ^ 100

pub record IsTurn (s : System) (nest : Nest) (v : List ℕ) (value : ℤ) (count : ℕ) (u : List (Option ℤ)) (x : List ℕ) : Type 0 where
  pub potentials : ArePotentials s nest v value count u
  pub counts : AreCounts s nest v value count x

-- an empty table between the turns, and as many rounds as loops
pub record IsLastTable (s : System) (nest : Nest) (extra v : List ℕ) (best : List (Option Found)) : Type 0 where
  pub tables : AreTables s nest extra best
  pub clear : IsClear best
  pub counted : length v ≡ length s.loops

-- whatever their value is, potentials and counts stay so for one loop more
module _ (s : System) (nest : Nest) (v : List ℕ) (place : ℕ) where
  abbrev pub RaisePotentials : List (Option ℤ) → List (Option ℤ) → Type 0
  RaisePotentials old new = (value : ℤ) → ArePotentials s nest v value place old → ArePotentials s nest v value (place + 1) new

  abbrev pub AddRounds : List ℕ → List ℕ → Type 0
  AddRounds old new = (value : ℤ) → AreCounts s nest v value place old → AreCounts s nest v value (place + 1) new

  abbrev pub HasTurn : List (Option ℤ) → List ℕ → Type 0
  HasTurn u x = (value : ℤ) × IsTurn s nest v value place u x

  abbrev pub HasPotentials : List (Option ℤ) → Type 0
  HasPotentials u = (value : ℤ) × ArePotentials s nest v value place u

  abbrev pub HasCounts : List ℕ → Type 0
  HasCounts x = (value : ℤ) × AreCounts s nest v value place x
