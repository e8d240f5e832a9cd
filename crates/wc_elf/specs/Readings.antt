-- What each part of the reading gives: the first fault of its checks, or its value where none fails.
use Rattle.std.specs.Prelude.{ℕ, ◌≡◌, ◌+◌, ◌≤◌, ◌^◌, Bool, List, None, Some}
use Rattle.std.specs.declared.result.Result.{Result}
use Rattle.std.specs.declared.result.Result.TheVariants.{Ok, Err}
use Rattle.wc_base.specs.declared.faults.Fault.{Fault}
use Rattle.wc_base.specs.declared.troubles.Trouble.{Trouble}
use Rattle.wc_base.specs.declared.troubles.Trouble.TheVariants.{Fault as Refused, Memory}
use Rattle.wc_model.specs.Program.Image.{first_fault}
use Rattle.wc_model.specs.declared.elf_image.Range.{Range}

-- the checks pass, or the first that fails gives the fault
abbrev pub Checks : {T : Type 0} → List (Bool × Fault) → Result T Fault → Type 0
Checks checks (Ok _) = first_fault checks ≡ None
Checks checks (Err fault) = first_fault checks ≡ Some fault

abbrev pub Stops : List (Bool × Fault) → Trouble → Type 0
Stops checks (Refused fault) = first_fault checks ≡ Some fault
Stops checks (Memory _) = Unit {0}

abbrev pub Reads : {T : Type 0} → List (Bool × Fault) → (T → Type 0) → Result T Trouble → Type 0
Reads checks is (Ok value) = (first_fault checks ≡ None) × is value
Reads checks is (Err trouble) = Stops checks trouble

-- the range lies in a file of so many bytes, and ends at 2^32 or before
pub record IsInside (size : ℕ) (range : Range) : Type 0 where
  pub bytes : range.offset + range.length ≤ size
  pub end : range.start + range.length ≤ 2 ^ 32
