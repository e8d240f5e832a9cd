-- The image of an ELF file: the checks in their order, and what the bytes say where none of them fails.
-- From the System V gABI, chapter 4, and ELF for the ARM Architecture.
use Rattle.std.specs.Prelude.{ℕ, ◌≡◌, ◌+◌, ◌*◌, ◌%◌, ◌^◌, Bool, not, ◌&&◌, ◌||◌, ◌==◌, nat_le, nat_lt, if◌then◌else◌, List, [], ◌∷◌, ◌++◌, flat_map, drop, Option, None, Some, is_some, position}
use Rattle.std.specs.Option.{unwrap_or}
use Rattle.wc_base.specs.declared.faults.Fault.{Fault}
use Rattle.wc_base.specs.declared.faults.Fault.TheVariants.{Truncated, NotArm, BadTable}
use Rattle.wc_model.specs.Program.Elf.{byte, word, is_inside, e_type, e_machine, e_phoff, e_shoff, e_phentsize, e_phnum, e_shentsize, e_shnum, p_offset, p_vaddr, p_filesz, sh_type, sh_offset, sh_size, sh_link, st_name, st_value, st_type, st_shndx, is_executable, program_headers, symbol_section, linked, contents, symbols}
use Rattle.wc_model.specs.declared.elf_image.Range.{Range}
use Rattle.wc_model.specs.declared.elf_image.Name.{Name}
use Rattle.wc_model.specs.declared.elf_image.Image.{Image}

-- the first condition that doesn't hold gives its fault
abbrev pub first_fault : List (Bool × Fault) → Option Fault
first_fault [] = None
first_fault (check ∷ later) = if check.0 then first_fault later else Some check.1

-- e_ident, an executable for ARM
abbrev pub header_checks : List ℕ → List (Bool × Fault)
header_checks file =
    (is_inside file 0 52, Truncated 0)
    ∷ (word file 0 == 0x464C457F, NotArm 0)
    ∷ (byte file 4 == 1, NotArm 4)
    ∷ (byte file 5 == 1, NotArm 5)
    ∷ (byte file 6 == 1, NotArm 6)
    ∷ (e_type file == 2, NotArm 16)
    ∷ (e_machine file == 40, NotArm 18)
    ∷ []

abbrev pub program_table_checks : List ℕ → List (Bool × Fault)
program_table_checks file =
    if e_phnum file == 0 then []
    else (e_phentsize file == 32, BadTable 42)
    ∷ (is_inside file (e_phoff file) (32 * e_phnum file), Truncated (e_phoff file))
    ∷ []

-- the segment lies in the file, and ends at 2^32 or before
abbrev pub segment_checks : List ℕ → ℕ → List (Bool × Fault)
segment_checks file header =
    if is_executable file header
    then (is_inside file (p_offset file header) (p_filesz file header), Truncated (p_offset file header))
    ∷ (nat_le (p_vaddr file header + p_filesz file header) (2 ^ 32), BadTable header)
    ∷ []
    else []

abbrev pub section_table_checks : List ℕ → List (Bool × Fault)
section_table_checks file =
    if e_shnum file == 0 then []
    else (e_shentsize file == 40, BadTable 46)
    ∷ (is_inside file (e_shoff file) (40 * e_shnum file), Truncated (e_shoff file))
    ∷ []

abbrev pub is_string_table : List ℕ → ℕ → Bool
is_string_table file section = nat_lt (sh_link file section) (e_shnum file) && sh_type file (linked file section) == 3

abbrev pub symbol_section_checks : List ℕ → ℕ → List (Bool × Fault)
symbol_section_checks file section =
    (sh_size file section % 16 == 0, BadTable section)
    ∷ (is_inside file (sh_offset file section) (sh_size file section), Truncated (sh_offset file section))
    ∷ (is_string_table file section, BadTable section)
    ∷ (is_inside file (sh_offset file (linked file section)) (sh_size file (linked file section)), Truncated (sh_offset file (linked file section)))
    ∷ []

-- a symbol of type NOTYPE or FUNC that isn't undefined and has a name
abbrev pub is_label : List ℕ → ℕ → Bool
is_label file symbol = not (st_shndx file symbol == 0) && (st_type file symbol == 0 || st_type file symbol == 2) && not (st_name file symbol == 0)

-- how many bytes stand from st_name on before the first NUL of the string table, if there is one
abbrev pub name_length : List ℕ → ℕ → ℕ → Option ℕ
name_length file section symbol = position (λ byte. byte == 0) (drop (st_name file symbol) (contents file (linked file section)))

abbrev pub label_checks : List ℕ → ℕ → ℕ → List (Bool × Fault)
label_checks file section symbol =
    if is_label file symbol then (is_some (name_length file section symbol), BadTable symbol) ∷ [] else []

abbrev pub symbol_checks : List ℕ → Option ℕ → List (Bool × Fault)
symbol_checks file None = []
symbol_checks file (Some section) = symbol_section_checks file section ++ flat_map (label_checks file section) (symbols file section)

abbrev pub range_checks : List ℕ → List (Bool × Fault)
range_checks file = program_table_checks file ++ flat_map (segment_checks file) (program_headers file)

abbrev pub name_checks : List ℕ → List (Bool × Fault)
name_checks file = section_table_checks file ++ symbol_checks file (symbol_section file)

-- all checks in their order
abbrev pub checks : List ℕ → List (Bool × Fault)
checks file = header_checks file ++ (range_checks file ++ name_checks file)

abbrev pub image_fault : List ℕ → Option Fault
image_fault file = first_fault (checks file)

-- an executable segment is a range
abbrev pub segment_range : List ℕ → ℕ → List Range
segment_range file header =
    if is_executable file header
    then record { start = p_vaddr file header; offset = p_offset file header; length = p_filesz file header } ∷ []
    else []

abbrev pub ranges_of : List ℕ → List Range
ranges_of file = flat_map (segment_range file) (program_headers file)

-- a label whose name has so many bytes is a name, unless it has none
abbrev pub name_in : List ℕ → ℕ → ℕ → ℕ → List Name
name_in file section symbol length =
    if length == 0 then []
    else record {
      offset = sh_offset file (linked file section) + st_name file symbol;
      length = length;
      value = st_value file symbol;
      function = st_type file symbol == 2;
    } ∷ []

abbrev pub label_name : List ℕ → ℕ → ℕ → List Name
label_name file section symbol =
    if is_label file symbol then name_in file section symbol (unwrap_or (name_length file section symbol) 0) else []

abbrev pub section_names : List ℕ → Option ℕ → List Name
section_names file None = []
section_names file (Some section) = flat_map (label_name file section) (symbols file section)

abbrev pub names_of : List ℕ → List Name
names_of file = section_names file (symbol_section file)

-- the image of a file in which no check fails
pub record IsImageOf (file : List ℕ) (image : Image) : Type 0 where
  pub sound : image_fault file ≡ None
  pub bytes : image.bytes ≡ file
  pub ranges : image.ranges ≡ ranges_of file
  pub names : image.names ≡ names_of file
