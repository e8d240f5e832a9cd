use Rattle.std.proofs.Common.{◌≡◌, ◌==◌}
use Rattle.std.specs.List.{find}
use Rattle.wc_model.specs.Program.Elf.{entries, sh_type}
use Rattle.wc_elf.proofs.Steps.{rest}
use Rattle.wc_elf.proofs.sections.symbol_section.Given as goal

abbrev pub invariant-loop-index : goal.invariant-loop-index
invariant-loop-index l = find (λ header. sh_type l.file header == 2) (rest l.table 40 l.count l.index) ≡ find (λ header. sh_type l.file header == 2) (entries l.table 40 l.count)
