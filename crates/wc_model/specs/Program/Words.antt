-- The words and the names of an image. From the System V gABI, chapter 4, and ELF for the ARM Architecture.
use Rattle.std.specs.Prelude.{ℕ, ◌+◌, ◌-◌, ◌%◌, Bool, ◌&&◌, ◌==◌, nat_le, if◌then◌else◌, List, find, drop, slice_range, Option, None, Some}
use Rattle.std.specs.Str.{bytes_eq}
use Rattle.std.specs.declared.result.Result.{Result}
use Rattle.std.specs.declared.result.Result.TheVariants.{Ok, Err}
use Rattle.byteorder.specs.Endian.{little_number}
use Rattle.wc_base.specs.declared.faults.Fault.{Fault}
use Rattle.wc_base.specs.declared.faults.Fault.TheVariants.{NoSymbol, Thumb}
use Rattle.wc_model.specs.declared.elf_image.Range.{Range}
use Rattle.wc_model.specs.declared.elf_image.Name.{Name}
use Rattle.wc_model.specs.declared.elf_image.Image.{Image}

-- the range holds all four bytes of the word at the address
abbrev pub has_word : ℕ → Range → Bool
has_word at range = nat_le range.start at && nat_le (at + 4) (range.start + range.length)

abbrev pub word_in : List ℕ → ℕ → Option Range → Option ℕ
word_in bytes at None = None
word_in bytes at (Some range) = Some (little_number 4 (drop (range.offset + (at - range.start)) bytes))

-- the word at an address that is a multiple of 4, by the first range that holds it
abbrev pub word_at : Image → ℕ → Option ℕ
word_at image at = if at % 4 == 0 then word_in image.bytes at (find (has_word at) image.ranges) else None

abbrev pub is_called : List ℕ → List ℕ → Name → Bool
is_called bytes name symbol = bytes_eq (slice_range bytes symbol.offset (symbol.offset + symbol.length)) name

abbrev pub address_of : Option Name → Result ℕ Fault
address_of None = Err NoSymbol
address_of (Some symbol) = if symbol.function && symbol.value % 2 == 1 then Err (Thumb symbol.value) else Ok symbol.value

-- the address that a name means: the value of the first symbol that is called so
abbrev pub find_of : Image → List ℕ → Result ℕ Fault
find_of image name = address_of (find (is_called image.bytes name) image.names)
