-- What the image of a program's file says of the program. The file is read by the fields of the System V gABI,
-- chapter 4.
use Rattle.std.specs.Prelude.{ℕ, ◌≡◌, ◌⊎◌, ◌<◌, ◌≤◌, ◌+◌, ◌*◌, ◌%◌, Bool, true, ◌==◌, if◌then◌else◌, List, [], ◌∷◌, map, length, find, slice_index, slice_range, Option, None, Some}
use Rattle.std.specs.Str.{bytes_eq}
use Rattle.std.specs.declared.result.Result.{Result}
use Rattle.std.specs.declared.result.Result.TheVariants.{Ok, Err}
use Rattle.wc_base.specs.declared.faults.Fault.{Fault}
use Rattle.wc_base.specs.declared.faults.Fault.TheVariants.{NoSymbol, Thumb}
use Rattle.wc_model.specs.Program.Image.{image_fault, IsImageOf}
use Rattle.wc_model.specs.Program.Words.{word_at, find_of}
use Rattle.wc_model.specs.declared.elf_image.Image.{Image}
use Rattle.wc_model.specs.declared.elf_image.Name.{Name}
use Rattle.wc_model.specs.declared.elf_image.Range.{Range}
use Rattle.wc_asm.specs.declared.program.Program.{Program}

-- all the program's words, from its start on; they stand behind the two headers of the file
abbrev pub code_range : Program → Range
code_range program = record { start = program.start; offset = 84; length = 4 * length program.words }

-- what is told of a name: its bytes, its address, and whether it is a function's
abbrev pub told : List ℕ → Name → List ℕ × ℕ × Bool
told bytes name = (slice_range bytes name.offset (name.offset + name.length), name.value, name.function)

-- each name of a program is told as a function's
abbrev pub function_of : List ℕ × ℕ → List ℕ × ℕ × Bool
function_of name = (name.0, name.1, true)

-- an odd address is one of Thumb code
abbrev pub arm_address : Option (List ℕ × ℕ) → Result ℕ Fault
arm_address None = Err NoSymbol
arm_address (Some name) = if name.1 % 2 == 1 then Err (Thumb name.1) else Ok name.1

-- the address of the first name that is called so
abbrev pub address_in : List (List ℕ × ℕ) → List ℕ → Result ℕ Fault
address_in names called = arm_address (find (λ name. bytes_eq name.0 called) names)

-- the image has the program's words at their addresses and nowhere else, and the program's names in their order
pub record IsProgramImage (program : Program) (image : Image) : Type 0 where
  pub range : image.ranges ≡ code_range program ∷ []
  pub words : (k : ℕ) → k < length program.words → word_at image (program.start + 4 * k) ≡ Some (slice_index program.words k)
  pub others : (at : ℕ) → (at < program.start) ⊎ (program.start + 4 * length program.words ≤ at) → word_at image at ≡ None
  pub names : map (told image.bytes) image.names ≡ map function_of program.names
  pub addresses : (called : List ℕ) → find_of image called ≡ address_in program.names called

-- a reader refuses nothing of the file, and the image that it gives is the program's
pub record IsReadBack (program : Program) (file : List ℕ) : Type 0 where
  pub sound : image_fault file ≡ None
  pub image : (image : Image) → IsImageOf file image → IsProgramImage program image
