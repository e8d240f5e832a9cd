use Rattle.std.proofs.Common.{◌≡◌, ℕ, ◌+◌, ◌<◌, ◌^◌, List, ◌++◌, drop, get_or}
use Rattle.wc_asm.specs.Files.{names_size, symbols_from, symbol_table}
use Rattle.wc_asm.proofs.writer.put_symbols.Given as goal

abbrev pub invariant-loop-name : goal.invariant-loop-name
invariant-loop-name l =
    record {
      written : l.file.items ++ symbols_from l.place (drop l.name-index l.names) ≡ l.fn.file.items ++ symbol_table l.names;
      addresses : (k : ℕ) (d : List ℕ × ℕ) → k < l.name-index → (get_or l.names k d).1 < 2 ^ 32;
      place : l.place + names_size (drop l.name-index l.names) ≡ 1 + names_size l.names;
    }
