-- The ELF file of a program: its fields in their order. From the System V gABI, chapter 4.
use Rattle.std.specs.Prelude.{ℕ, ◌+◌, ◌-◌, ◌*◌, ◌%◌, ◌^◌, Bool, not, ◌&&◌, ◌==◌, nat_le, List, [], ◌∷◌, ◌++◌, flat_map, length, replicate}
use Rattle.std.specs.List.{list_all, list_any}
use Rattle.byteorder.specs.Endian.{little_bytes}
use Rattle.wc_asm.specs.declared.program.Program.{Program}

abbrev pub words : List ℕ → List ℕ
words numbers = flat_map (little_bytes 4) numbers

abbrev pub halves : List ℕ → List ℕ
halves numbers = flat_map (little_bytes 2) numbers

-- where the parts of the file begin
abbrev pub names_size : List (List ℕ × ℕ) → ℕ
names_size [] = 0
names_size (name ∷ names) = length name.0 + 1 + names_size names

abbrev pub symbols_offset : Program → ℕ
symbols_offset program = 84 + 4 * length program.words

abbrev pub strings_offset : Program → ℕ
strings_offset program = symbols_offset program + 16 * (length program.names + 1)

abbrev pub strings_size : Program → ℕ
strings_size program = 1 + names_size program.names

abbrev pub padding : Program → ℕ
padding program = (4 - strings_size program % 4) % 4

abbrev pub sections_offset : Program → ℕ
sections_offset program = strings_offset program + strings_size program + padding program

abbrev pub file_size : Program → ℕ
file_size program = sections_offset program + 3 * 40

-- the parts
abbrev pub file_header : ℕ → ℕ → List ℕ
file_header start sections =
    (0x7F ∷ 0x45 ∷ 0x4C ∷ 0x46 ∷ 1 ∷ 1 ∷ 1 ∷ 0 ∷ 0 ∷ 0 ∷ 0 ∷ 0 ∷ 0 ∷ 0 ∷ 0 ∷ 0 ∷ [])
    ++ (halves (2 ∷ 40 ∷ [])
    ++ (words (1 ∷ start ∷ 52 ∷ sections ∷ 0x05000000 ∷ [])
    ++ halves (52 ∷ 32 ∷ 1 ∷ 40 ∷ 3 ∷ 2 ∷ [])))

abbrev pub program_header : ℕ → ℕ → List ℕ
program_header start size = words (1 ∷ 84 ∷ start ∷ start ∷ size ∷ size ∷ 5 ∷ 4 ∷ [])

-- STB_GLOBAL, STT_FUNC, SHN_ABS
abbrev pub symbol : ℕ → ℕ → List ℕ
symbol name value = words (name ∷ value ∷ 0 ∷ []) ++ (0x12 ∷ 0 ∷ halves (0xFFF1 ∷ []))

-- the symbols of names whose strings begin at the place `at`
abbrev pub symbols_from : ℕ → List (List ℕ × ℕ) → List ℕ
symbols_from at [] = []
symbols_from at (name ∷ names) = symbol at name.1 ++ symbols_from (at + (length name.0 + 1)) names

abbrev pub symbol_table : List (List ℕ × ℕ) → List ℕ
symbol_table names = words (0 ∷ 0 ∷ 0 ∷ 0 ∷ []) ++ symbols_from 1 names

abbrev pub strings_of : List (List ℕ × ℕ) → List ℕ
strings_of [] = []
strings_of (name ∷ names) = name.0 ++ (0 ∷ strings_of names)

abbrev pub string_table : List (List ℕ × ℕ) → List ℕ
string_table names = 0 ∷ strings_of names

abbrev pub section_headers : ℕ → ℕ → ℕ → ℕ → List ℕ
section_headers symbols symbols_size strings size =
    words (0 ∷ 0 ∷ 0 ∷ 0 ∷ 0 ∷ 0 ∷ 0 ∷ 0 ∷ 0 ∷ 0 ∷ [])
    ++ (words (0 ∷ 2 ∷ 0 ∷ 0 ∷ symbols ∷ symbols_size ∷ 2 ∷ 1 ∷ 4 ∷ 16 ∷ [])
    ++ words (0 ∷ 3 ∷ 0 ∷ 0 ∷ strings ∷ size ∷ 0 ∷ 0 ∷ 1 ∷ 0 ∷ []))

abbrev pub file_of : Program → List ℕ
file_of program =
    file_header program.start (sections_offset program)
    ++ (program_header program.start (4 * length program.words)
    ++ (words program.words
    ++ (symbol_table program.names
    ++ (string_table program.names
    ++ (replicate (padding program) 0
    ++ section_headers (symbols_offset program) (16 * (length program.names + 1)) (strings_offset program) (strings_size program))))))

-- the programs that such a file can hold, in 16 MiB
abbrev pub is_name : List ℕ → Bool
is_name name = not (length name == 0) && not (list_any (λ byte. byte == 0) name)

abbrev pub are_names : List (List ℕ × ℕ) → Bool
are_names names = list_all (λ name. is_name name.0) names

abbrev pub is_code : Program → Bool
is_code program = program.start % 4 == 0 && nat_le (program.start + 4 * length program.words) (2 ^ 32)

abbrev pub is_writable_of : Program → Bool
is_writable_of program = is_code program && are_names program.names && nat_le (file_size program) (2 ^ 24)
