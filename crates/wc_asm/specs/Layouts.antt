-- Where the parts of a program's file begin, as they are computed.
use Rattle.std.specs.Prelude.{◌≡◌, ◌≤◌, ◌^◌}
use Rattle.wc_asm.specs.Files.{symbols_offset, strings_offset, strings_size, padding, sections_offset, file_size}
use Rattle.wc_asm.specs.declared.program.Program.{Program}
use Rattle.wc_asm.specs.declared.layout.Layout.{Layout}

pub record IsLayout (program : Program) (layout : Layout) : Type 0 where
  pub symbols : layout.symbols ≡ symbols_offset program
  pub strings : layout.strings ≡ strings_offset program
  pub size : layout.size ≡ strings_size program
  pub padding : layout.padding ≡ padding program
  pub sections : layout.sections ≡ sections_offset program
  pub small : file_size program ≤ 2 ^ 24
