-- What loading the files of a call answers, and which paths the house was asked for.
use Rattle.std.specs.Prelude.{◌≡◌, ◌<◌, ℕ, false, true, List, [], ◌∷◌, ◌++◌, map, Option, Some, ◌⊎◌, Result, Ok, Err, Vec}
use Rattle.std.specs.declared.alloc.Global.{Global}
use Rattle.wc_base.specs.declared.faults.Fault.{Fault as FaultCode}
use Rattle.wc_io.specs.Reading.{AddsSourceRow}
use Rattle.wc_io.specs.Rows.{Row, row_failed, failed_count, AddsRows, AddsAllRows}
use Rattle.wc_model.specs.declared.elf_image.Image.{Image}
use Rattle.wc_model.specs.declared.flow_facts.Fact.{Fact}
use Rattle.wc_model.specs.declared.machine.Hardware.{Hardware}
use Rattle.wcet.specs.declared.loading.Loaded.{Loaded}
use Rattle.wcet.specs.declared.loading.Unloaded.{Unloaded}
use Rattle.wcet.specs.declared.loading.Unloaded.TheVariants.{ReadFault, Refused, Memory}
use Rattle.wcet.specs.Files.{FileSays, BinarySays, HardwareSays, AreInputs, IsFirstFault, optional_path, paths_of}
use Rattle.wcet.specs.Words.{Paths}

-- the house was asked for all of these paths, in their order, each once as a source
abbrev pub OpensAll : List (List ℕ) → List Row → List Row → Type 0
OpensAll paths = AddsAllRows (map (λ path. (path, false)) paths)

-- or for the first of them
abbrev pub OpensSome : List (List ℕ) → List Row → List Row → Type 0
OpensSome paths = AddsRows (map (λ path. (path, false)) paths)

-- what decoding these bytes answers
abbrev pub Decodes : {T : Type 0} → (List ℕ → Result T FaultCode → Type 0) → List ℕ → Result T Unloaded → Type 0
Decodes says bytes (Ok x) = says bytes (Ok x)
Decodes says bytes (Err ReadFault) = ⊥
Decodes says bytes (Err (Refused fault)) = says bytes (Err fault)
Decodes says bytes (Err Memory) = Unit {0}

-- bytes that are handed on as they are
abbrev pub AreBytes : List ℕ → Result (Vec ℕ Global) FaultCode → Type 0
AreBytes bytes (Ok same) = same.items ≡ bytes
AreBytes bytes (Err fault) = ⊥

-- facts as a list
abbrev pub listed : Result (Vec Fact Global) Unloaded → Result (List Fact) Unloaded
listed (Ok facts) = Ok facts.items
listed (Err unloaded) = Err unloaded

-- what loading one file answers
abbrev pub LoadsFile : {T : Type 0} → (List ℕ → Type 0) → (List ℕ → Result T FaultCode → Type 0) → List ℕ → List Row → List Row → Result T Unloaded → Type 0
LoadsFile holds says path old new (Ok x) = AddsSourceRow path old new × FileSays holds says (Ok x)
LoadsFile holds says path old new (Err ReadFault) = new ≡ old ++ row_failed path false true ∷ []
LoadsFile holds says path old new (Err (Refused fault)) = AddsSourceRow path old new × FileSays holds says (Err fault)
LoadsFile holds says path old new (Err Memory) = (new ≡ old) ⊎ AddsSourceRow path old new

-- what loading a file that may be left out answers: where it is left out no file is opened
abbrev pub LoadsOptional : {T : Type 0} → (Option (List ℕ) → Result T FaultCode → Type 0) → Option (List ℕ) → List Row → List Row → Result T Unloaded → Type 0
LoadsOptional says path old new (Ok x) = OpensAll (optional_path path) old new × says path (Ok x)
LoadsOptional says path old new (Err ReadFault) = (unread : List ℕ) × (path ≡ Some unread) × (new ≡ old ++ row_failed unread false true ∷ [])
LoadsOptional says path old new (Err (Refused fault)) = OpensAll (optional_path path) old new × says path (Err fault)
LoadsOptional says path old new (Err Memory) = OpensSome (optional_path path) old new

-- the refusal of a file, and the paths that were read up to there
pub record IsRefused (holds : List ℕ → List ℕ → Type 0) (paths : Paths) (old new : List Row) (fault : FaultCode) : Type 0 where
  pub read : List (List ℕ)
  pub first : IsFirstFault holds paths fault read
  pub opened : OpensAll read old new

-- The file that couldn't be read has the last row, which is a failed one, and the files before it have no fault.
pub data IsUnread (holds : List ℕ → List ℕ → Type 0) (paths : Paths) (old new : List Row) : Type 0 where
  binary_unread : new ≡ old ++ row_failed paths.binary false true ∷ [] → IsUnread holds paths old new
  hardware_unread : (image : Image) (path : List ℕ) (middle : List Row) → BinarySays holds paths.binary (Ok image) → paths.hardware ≡ Some path
      → OpensAll (paths.binary ∷ []) old middle → new ≡ middle ++ row_failed path false true ∷ [] → IsUnread holds paths old new
  facts_unread : (image : Image) (hardware : Hardware) (path : List ℕ) (middle : List Row) → BinarySays holds paths.binary (Ok image) → HardwareSays holds paths.hardware (Ok hardware) → paths.facts ≡ Some path
      → OpensAll (paths.binary ∷ optional_path paths.hardware) old middle → new ≡ middle ++ row_failed path false true ∷ [] → IsUnread holds paths old new

-- No memory was left: the house was asked for the first of the paths, and no file before the last of them has a fault.
pub data IsUnfinished (holds : List ℕ → List ℕ → Type 0) (paths : Paths) (old new : List Row) : Type 0 where
  at_binary : OpensSome (paths.binary ∷ []) old new → IsUnfinished holds paths old new
  at_hardware : (image : Image) (middle : List Row) → BinarySays holds paths.binary (Ok image)
      → OpensAll (paths.binary ∷ []) old middle → OpensSome (optional_path paths.hardware) middle new → IsUnfinished holds paths old new
  at_facts : (image : Image) (hardware : Hardware) (middle : List Row) → BinarySays holds paths.binary (Ok image) → HardwareSays holds paths.hardware (Ok hardware)
      → OpensAll (paths.binary ∷ optional_path paths.hardware) old middle → OpensSome (optional_path paths.facts) middle new → IsUnfinished holds paths old new
  past_files : (loaded : Loaded) → AreInputs holds paths loaded → OpensAll (paths_of paths) old new → IsUnfinished holds paths old new

-- what loading all files answers
abbrev pub Loads : (List ℕ → List ℕ → Type 0) → Paths → List Row → List Row → Result Loaded Unloaded → Type 0
Loads holds paths old new (Ok loaded) = AreInputs holds paths loaded × OpensAll (paths_of paths) old new
Loads holds paths old new (Err ReadFault) = (failed_count false old < failed_count false new) × OpensSome (paths_of paths) old new × IsUnread holds paths old new
Loads holds paths old new (Err (Refused fault)) = IsRefused holds paths old new fault
Loads holds paths old new (Err Memory) = IsUnfinished holds paths old new
