-- A symbol table and its strings, as the file's section headers tell them.
use Rattle.std.specs.Prelude.{ℕ, ◌≡◌, ◌+◌, ◌*◌, ◌/◌, ◌≤◌, List, length}
use Rattle.wc_model.specs.Program.Elf.{sh_offset, sh_size, linked}
use Rattle.wc_elf.specs.declared.sections.SymbolTable.{SymbolTable}

pub record IsSymbolTable (file : List ℕ) (section : ℕ) (table : SymbolTable) : Type 0 where
  pub symbols : table.symbols ≡ sh_offset file section
  pub count : table.count ≡ sh_size file section / 16
  pub strings : table.strings ≡ sh_offset file (linked file section)
  pub size : table.size ≡ sh_size file (linked file section)
  pub symbols_inside : table.symbols + 16 * table.count ≤ length file
  pub strings_inside : table.strings + table.size ≤ length file
