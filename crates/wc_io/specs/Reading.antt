-- What reading a file answers, and what it leaves of a house.
use Rattle.std.specs.Prelude.{◌≡◌, Bool, true, false, ℕ, List, [], ◌∷◌, ◌++◌, ◌⊎◌, Result, Ok, Err, IsErrOf}
use Rattle.wc_io.specs.Rows.{Row, row_failed}
use Rattle.wc_io.specs.declared.whole.ReadWhole.{ReadWhole}
use Rattle.wc_io.specs.declared.whole.ReadWhole.TheVariants.{Long, Failed, Memory}

-- one row more: the path as a source
abbrev pub AddsSourceRow : List ℕ → List Row → List Row → Type 0
AddsSourceRow path old new = (failed : Bool) × (new ≡ old ++ row_failed path false failed ∷ [])

-- `Failed` leaves a failed row, and only want of memory may leave none
abbrev pub AddsReadRow : {T : Type 0} → List ℕ → Result T ReadWhole → List Row → List Row → Type 0
AddsReadRow path (Ok _) old new = AddsSourceRow path old new
AddsReadRow path (Err Long) old new = AddsSourceRow path old new
AddsReadRow path (Err Failed) old new = new ≡ old ++ row_failed path false true ∷ []
AddsReadRow path (Err (Memory _)) old new = (new ≡ old) ⊎ AddsSourceRow path old new

-- more came than was asked for
abbrev pub IsLong : {T : Type 0} → Result T ReadWhole → Type 0
IsLong result = IsErrOf result Long
