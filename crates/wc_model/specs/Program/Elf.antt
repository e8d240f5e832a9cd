-- The fields of a 32-bit ELF file. From the System V gABI, chapter 4 (Object Files).
use Rattle.std.specs.Prelude.{ℕ, ◌+◌, ◌*◌, ◌/◌, ◌%◌, Bool, ◌&&◌, ◌==◌, nat_le, List, map, find, drop, length, slice_index, slice_range, Option}
use Rattle.std.specs.List.{range_with_len}
use Rattle.byteorder.specs.Endian.{little_number}

-- the unsigned char, Elf32_Half, and Elf32_Word, Elf32_Off or Elf32_Addr at an offset
abbrev pub byte : List ℕ → ℕ → ℕ
byte file at = slice_index file at

abbrev pub half : List ℕ → ℕ → ℕ
half file at = little_number 2 (drop at file)

abbrev pub word : List ℕ → ℕ → ℕ
word file at = little_number 4 (drop at file)

-- the piece lies wholly in the file
abbrev pub is_inside : List ℕ → ℕ → ℕ → Bool
is_inside file offset size = nat_le (offset + size) (length file)

-- the offsets of a table's entries
abbrev pub entries : ℕ → ℕ → ℕ → List ℕ
entries table size count = map (λ index. table + size * index) (range_with_len 0 count)

-- Elf32_Ehdr
abbrev pub e_type : List ℕ → ℕ
e_type file = half file 16

abbrev pub e_machine : List ℕ → ℕ
e_machine file = half file 18

abbrev pub e_phoff : List ℕ → ℕ
e_phoff file = word file 28

abbrev pub e_shoff : List ℕ → ℕ
e_shoff file = word file 32

abbrev pub e_phentsize : List ℕ → ℕ
e_phentsize file = half file 42

abbrev pub e_phnum : List ℕ → ℕ
e_phnum file = half file 44

abbrev pub e_shentsize : List ℕ → ℕ
e_shentsize file = half file 46

abbrev pub e_shnum : List ℕ → ℕ
e_shnum file = half file 48

-- Elf32_Phdr at the offset `header`
abbrev pub p_type : List ℕ → ℕ → ℕ
p_type file header = word file header

abbrev pub p_offset : List ℕ → ℕ → ℕ
p_offset file header = word file (header + 4)

abbrev pub p_vaddr : List ℕ → ℕ → ℕ
p_vaddr file header = word file (header + 8)

abbrev pub p_filesz : List ℕ → ℕ → ℕ
p_filesz file header = word file (header + 16)

abbrev pub p_flags : List ℕ → ℕ → ℕ
p_flags file header = word file (header + 24)

-- Elf32_Shdr at the offset `header`
abbrev pub sh_type : List ℕ → ℕ → ℕ
sh_type file header = word file (header + 4)

abbrev pub sh_offset : List ℕ → ℕ → ℕ
sh_offset file header = word file (header + 16)

abbrev pub sh_size : List ℕ → ℕ → ℕ
sh_size file header = word file (header + 20)

abbrev pub sh_link : List ℕ → ℕ → ℕ
sh_link file header = word file (header + 24)

-- Elf32_Sym at the offset `symbol`
abbrev pub st_name : List ℕ → ℕ → ℕ
st_name file symbol = word file symbol

abbrev pub st_value : List ℕ → ℕ → ℕ
st_value file symbol = word file (symbol + 4)

abbrev pub st_type : List ℕ → ℕ → ℕ
st_type file symbol = byte file (symbol + 12) % 16

abbrev pub st_shndx : List ℕ → ℕ → ℕ
st_shndx file symbol = half file (symbol + 14)

-- the tables: each header or symbol by its offset
abbrev pub program_headers : List ℕ → List ℕ
program_headers file = entries (e_phoff file) 32 (e_phnum file)

abbrev pub section_headers : List ℕ → List ℕ
section_headers file = entries (e_shoff file) 40 (e_shnum file)

-- PT_LOAD with PF_X
abbrev pub is_executable : List ℕ → ℕ → Bool
is_executable file header = p_type file header == 1 && p_flags file header % 2 == 1

-- the first SHT_SYMTAB, and the section that it links to
abbrev pub symbol_section : List ℕ → Option ℕ
symbol_section file = find (λ header. sh_type file header == 2) (section_headers file)

abbrev pub linked : List ℕ → ℕ → ℕ
linked file section = e_shoff file + 40 * sh_link file section

abbrev pub contents : List ℕ → ℕ → List ℕ
contents file section = slice_range file (sh_offset file section) (sh_offset file section + sh_size file section)

abbrev pub symbols : List ℕ → ℕ → List ℕ
symbols file section = entries (sh_offset file section) 16 (sh_size file section / 16)
