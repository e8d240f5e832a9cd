-- What the files of a call say, and the first fault among them, in the order in which they are read.
use Rattle.std.specs.Prelude.{◌≡◌, ◌<◌, ◌≤◌, ℕ, Bool, true, false, List, [], ◌∷◌, ◌++◌, length, Option, Some, None, IsSome, IfSome, ◌⊎◌, Result, Ok, Err}
use Rattle.wc_base.specs.declared.faults.Fault.{Fault as FaultCode}
use Rattle.wc_base.specs.declared.faults.Fault.TheVariants.{LongFile}
use Rattle.wc_base.specs.declared.faults.FileWord.{FileWord}
use Rattle.wc_base.specs.declared.faults.FileWord.TheVariants.{Binary, Hardware as HardwareFile, Facts as FactsFile}
use Rattle.wc_base.specs.declared.troubles.Trouble.TheVariants.{Fault as Refused}
use Rattle.wc_f4.specs.Reading.{ReadsFacts, names_of}
use Rattle.wc_hw.specs.Reading.{ReadsAs}
use Rattle.wc_model.specs.declared.elf_image.Image.{Image}
use Rattle.wc_model.specs.declared.flow_facts.Fact.{Fact}
use Rattle.wc_model.specs.declared.machine.Hardware.{Hardware}
use Rattle.wc_model.specs.Workspace.Hardware.{default_hardware}
use Rattle.wc_model.specs.Program.Image.{image_fault, IsImageOf}
use Rattle.wcet.specs.declared.loading.Loaded.{Loaded}
use Rattle.wcet.specs.Words.{Paths}

-- the bytes that a path's file may have: those that are told of it, and where a house tells its files, no others
abbrev pub MayBe : Option (List ℕ) → Bool → List ℕ → Type 0
MayBe (Some told) tells bytes = bytes ≡ told
MayBe None true bytes = ⊥
MayBe None false bytes = Unit {0}

abbrev pub Holds : Bool → (List ℕ → Option (List ℕ)) → List ℕ → List ℕ → Type 0
Holds tells files path bytes = MayBe (files path) tells bytes

-- these bytes are told of the path's file
abbrev pub IsTold : (List ℕ → Option (List ℕ)) → List ℕ → List ℕ → Type 0
IsTold files path bytes = files path ≡ Some bytes

-- a file of more than 16,777,216 bytes isn't read further
abbrev pub Within : {T : Type 0} → FileWord → (List ℕ → Result T FaultCode → Type 0) → List ℕ → Result T FaultCode → Type 0
Within word says bytes (Ok x) = (length bytes ≤ 16777216) × says bytes (Ok x)
Within word says bytes (Err fault) = ((16777216 < length bytes) × (fault ≡ LongFile word)) ⊎ ((length bytes ≤ 16777216) × says bytes (Err fault))

-- the image, or the first check that fails
abbrev pub ImageSays : List ℕ → Result Image FaultCode → Type 0
ImageSays bytes (Ok image) = IsImageOf bytes image
ImageSays bytes (Err fault) = image_fault bytes ≡ Some fault

-- the hardware, or a fault of its text
abbrev pub TimingSays : List ℕ → Result Hardware FaultCode → Type 0
TimingSays bytes (Ok hardware) = ReadsAs bytes (Ok hardware)
TimingSays bytes (Err fault) = ReadsAs bytes (Err (Refused fault))

-- the facts, or a fault of their text; names are those of the image
abbrev pub FactsSay : Image → List ℕ → Result (List Fact) FaultCode → Type 0
FactsSay image bytes (Ok facts) = ReadsFacts (names_of image) bytes (Ok facts)
FactsSay image bytes (Err fault) = ReadsFacts (names_of image) bytes (Err (Refused fault))

-- bytes that the file may have say so
abbrev pub FileSays : {T : Type 0} → (List ℕ → Type 0) → (List ℕ → Result T FaultCode → Type 0) → Result T FaultCode → Type 0
FileSays holds says result = (bytes : List ℕ) × holds bytes × says bytes result

-- where no path is given it is what stands for no file
abbrev pub OptionalSays : {T : Type 0} → (List ℕ → List ℕ → Type 0) → T → (List ℕ → Result T FaultCode → Type 0) → Option (List ℕ) → Result T FaultCode → Type 0
OptionalSays holds absent says None result = result ≡ Ok absent
OptionalSays holds absent says (Some path) result = FileSays (holds path) says result

abbrev pub BinarySays : (List ℕ → List ℕ → Type 0) → List ℕ → Result Image FaultCode → Type 0
BinarySays holds path result = FileSays (holds path) (Within Binary ImageSays) result

abbrev pub HardwareSays : (List ℕ → List ℕ → Type 0) → Option (List ℕ) → Result Hardware FaultCode → Type 0
HardwareSays holds path result = OptionalSays holds default_hardware (Within HardwareFile TimingSays) path result

abbrev pub FactsFileSays : (List ℕ → List ℕ → Type 0) → Image → Option (List ℕ) → Result (List Fact) FaultCode → Type 0
FactsFileSays holds image path result = OptionalSays holds [] (Within FactsFile (FactsSay image)) path result

abbrev pub optional_path : Option (List ℕ) → List (List ℕ)
optional_path None = []
optional_path (Some path) = path ∷ []

-- the paths of a call's files, in the order in which they are read
abbrev pub paths_of : Paths → List (List ℕ)
paths_of paths = paths.binary ∷ optional_path paths.hardware ++ optional_path paths.facts

-- these files are told
pub record AreTold (files : List ℕ → Option (List ℕ)) (paths : Paths) : Type 0 where
  pub binary : IsSome (files paths.binary)
  pub hardware : IfSome paths.hardware (λ path. IsSome (files path))
  pub facts : IfSome paths.facts (λ path. IsSome (files path))

-- no file has a fault, and this is what they say
pub record AreInputs (holds : List ℕ → List ℕ → Type 0) (paths : Paths) (loaded : Loaded) : Type 0 where
  pub image : BinarySays holds paths.binary (Ok loaded.image)
  pub timing : HardwareSays holds paths.hardware (Ok loaded.hardware)
  pub facts : FactsFileSays holds loaded.image paths.facts (Ok loaded.facts.items)

-- the first fault, and the paths that are read up to there
pub data IsFirstFault (holds : List ℕ → List ℕ → Type 0) (paths : Paths) : FaultCode → List (List ℕ) → Type 0 where
  of_binary : (fault : FaultCode) → BinarySays holds paths.binary (Err fault) → IsFirstFault holds paths fault (paths.binary ∷ [])
  of_hardware : (fault : FaultCode) (image : Image) → BinarySays holds paths.binary (Ok image) → HardwareSays holds paths.hardware (Err fault) → IsFirstFault holds paths fault (paths.binary ∷ optional_path paths.hardware)
  of_facts : (fault : FaultCode) (image : Image) (hardware : Hardware) → BinarySays holds paths.binary (Ok image) → HardwareSays holds paths.hardware (Ok hardware) → FactsFileSays holds image paths.facts (Err fault)
      → IsFirstFault holds paths fault (paths_of paths)
