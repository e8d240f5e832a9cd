-- The list of opened paths that a house tells.
use Rattle.std.specs.Prelude.{◌≡◌, ℕ, zero, suc, ◌+◌, ◌-◌, ◌<◌, nat_lt, Bool, true, false, ◌&&◌, ◌||◌, not, if◌then◌else◌, List, [], ◌∷◌, ◌++◌, map, take, Option, Some, None, Result, Ok, Err, string_bytes}
use Rattle.wc_io.specs.declared.houses.HouseError.{HouseError}
use Rattle.wc_io.specs.declared.houses.HouseError.TheVariants.{Failed, Memory}
use Rattle.wc_io.specs.declared.opened.OpenedRow.{OpenedRow}

-- one call that opened a path, or failed to: as a sink or as a source
pub record Row : Type 0 where
  pub path : List ℕ
  pub sink : Bool
  pub failed : Bool

abbrev pub row_failed : List ℕ → Bool → Bool → Row
row_failed path sink failed = record { path = path; sink = sink; failed = failed }

abbrev pub row_of : OpenedRow → Row
row_of r = record { path = string_bytes r.path; sink = r.sink; failed = r.failed }

-- a row more, which failed
abbrev pub AddsFailed : Row → List Row → List Row → Type 0
AddsFailed row old new = new ≡ old ++ record row { failed = true } ∷ []

-- a call that opens a path adds its row, failed exactly where it answers `Failed`, and none for want of memory
abbrev pub AddsRow : {T : Type 0} → List ℕ → Bool → List Row → List Row → Result T HouseError → Type 0
AddsRow path sink old new (Ok _) = new ≡ old ++ row_failed path sink false ∷ []
AddsRow path sink old new (Err Failed) = new ≡ old ++ row_failed path sink true ∷ []
AddsRow path sink old new (Err (Memory _)) = new ≡ old

-- the row after its source or sink came back with so many faults
abbrev pub with_faults : ℕ → Row → Row
with_faults faults r = row_failed r.path r.sink (r.failed || nat_lt 0 faults)

-- the rows after the source or sink of the row at this index came back with so many faults
abbrev pub marked : ℕ → ℕ → List Row → List Row
marked i faults [] = []
marked zero faults (r ∷ rs) = with_faults faults r ∷ rs
marked (suc i) faults (r ∷ rs) = r ∷ marked i faults rs

-- whether the row at an index is a sink
abbrev pub sink_at : ℕ → List Row → Option Bool
sink_at i [] = None
sink_at zero (r ∷ rs) = Some r.sink
sink_at (suc i) (r ∷ rs) = sink_at i rs

-- the path of the row at an index
abbrev pub path_at : ℕ → List Row → List ℕ
path_at i [] = []
path_at zero (r ∷ rs) = r.path
path_at (suc i) (r ∷ rs) = path_at i rs

-- the source or sink of that place came back with so many faults
abbrev pub MarksRow : ℕ → ℕ → List Row → List Row → Type 0
MarksRow place faults old new = new ≡ marked (place - 1) faults old

-- a source or sink came back, by its place and its count of faults
abbrev pub Marks : {T : Type 0} → (T → ℕ) → (T → ℕ) → T → List Row → List Row → Type 0
Marks place faults given old new = MarksRow (place given) (faults given) old new

-- the path of the row of that place
abbrev pub path_of : ℕ → List Row → List ℕ
path_of place rows = path_at (place - 1) rows

-- a place is the number of a row, from 1
abbrev pub IsRowOf : ℕ → Bool → List Row → Type 0
IsRowOf place sink rows = (0 < place) × (sink_at (place - 1) rows ≡ Some sink)

abbrev pub same_kind : Bool → Bool → Bool
same_kind a b = if a then b else not b

abbrev pub is_failed : Bool → Row → Bool
is_failed sink r = r.failed && same_kind r.sink sink

-- the number of failed rows of sinks or of sources
abbrev pub failed_count : Bool → List Row → ℕ
failed_count sink [] = 0
failed_count sink (r ∷ rs) = (if is_failed sink r then 1 else 0) + failed_count sink rs

-- a path and whether it is opened as a sink
abbrev pub asked : Row → List ℕ × Bool
asked r = (r.path, r.sink)

-- the rows that a call adds are for the first of these paths, in their order, each once
abbrev pub AddsRows : List (List ℕ × Bool) → List Row → List Row → Type 0
AddsRows paths old new = (rows : List Row) × (new ≡ old ++ rows) × ((n : ℕ) × (map asked rows ≡ take n paths))

-- the rows that a call adds are for these paths, in their order
abbrev pub AddsAllRows : List (List ℕ × Bool) → List Row → List Row → Type 0
AddsAllRows paths old new = (rows : List Row) × (new ≡ old ++ rows) × (map asked rows ≡ paths)
