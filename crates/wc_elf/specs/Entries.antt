-- The entries of a file's tables as they are read.
use Rattle.std.specs.Prelude.{ℕ, ◌≡◌, List}
use Rattle.wc_model.specs.Program.Elf.{is_executable, p_offset, p_vaddr, p_filesz, sh_type, sh_offset, sh_size, sh_link, st_name, st_value, st_type, st_shndx}
use Rattle.wc_elf.specs.declared.headers.Segment.{Segment}
use Rattle.wc_elf.specs.declared.headers.Section.{Section}
use Rattle.wc_elf.specs.declared.headers.Symbol.{Symbol}

pub record IsSegment (file : List ℕ) (header : ℕ) (segment : Segment) : Type 0 where
  pub executable : segment.executable ≡ is_executable file header
  pub offset : segment.offset ≡ p_offset file header
  pub address : segment.address ≡ p_vaddr file header
  pub size : segment.size ≡ p_filesz file header

pub record IsSection (file : List ℕ) (header : ℕ) (section : Section) : Type 0 where
  pub kind : section.kind ≡ sh_type file header
  pub offset : section.offset ≡ sh_offset file header
  pub size : section.size ≡ sh_size file header
  pub link : section.link ≡ sh_link file header

pub record IsSymbol (file : List ℕ) (place : ℕ) (symbol : Symbol) : Type 0 where
  pub name : symbol.name ≡ st_name file place
  pub value : symbol.value ≡ st_value file place
  pub kind : symbol.kind ≡ st_type file place
  pub section : symbol.section ≡ st_shndx file place
