use Rattle.std.proofs.Common.{◌≡◌, drop}
use Rattle.std.specs.List.{find}
use Rattle.wc_model.specs.Program.Words.{is_called, address_of}
use Rattle.wc_elf.proofs.lookup.find.Given as goal

-- the symbols to come decide
abbrev pub invariant-loop-symbol : goal.invariant-loop-symbol
invariant-loop-symbol l = address_of (find (is_called l.image.bytes l.name) (drop l.symbol-index l.symbol-items)) ≡ address_of (find (is_called l.image.bytes l.name) l.image.names)
