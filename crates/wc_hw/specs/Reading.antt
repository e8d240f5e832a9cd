-- What reading a hardware file answers.
use Rattle.std.specs.Prelude.{◌≡◌, ℕ, List, Some, Result, Ok, Err, IsUtf8}
use Rattle.serde_json.specs.Data.{Data}
use Rattle.serde_json.specs.Read.{read}
use Rattle.wc_base.specs.declared.faults.Fault.{Fault}
use Rattle.wc_base.specs.declared.faults.Fault.TheVariants.{BadJson, BadField}
use Rattle.wc_base.specs.declared.troubles.Trouble.{Trouble}
use Rattle.wc_base.specs.declared.troubles.Trouble.TheVariants.{Fault as Refused, Memory}
use Rattle.wc_model.specs.declared.machine.Hardware.{Hardware}
use Rattle.wc_hw.specs.HardwareFile.{IsHardware, first_wrong}

-- the bytes are a JSON value
abbrev pub HasReading : List ℕ → Data → Type 0
HasReading bytes d = IsUtf8 bytes × (read bytes ≡ Some d)

abbrev pub IsRefused : List ℕ → Fault → Type 0
IsRefused bytes BadJson = (d : Data) → HasReading bytes d → ⊥
IsRefused bytes (BadField word) = (d : Data) × HasReading bytes d × (first_wrong d ≡ Some word)
IsRefused bytes _ = ⊥

-- the hardware that the JSON value states, its first wrong name, or no JSON value
abbrev pub ReadsAs : List ℕ → Result Hardware Trouble → Type 0
ReadsAs bytes (Ok h) = (d : Data) × HasReading bytes d × IsHardware h d
ReadsAs bytes (Err (Refused fault)) = IsRefused bytes fault
ReadsAs bytes (Err (Memory _)) = Unit {0}
