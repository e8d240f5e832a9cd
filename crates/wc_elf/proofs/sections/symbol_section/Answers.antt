use Rattle.wc_elf.proofs.Steps.{find_next}
use Rattle.std.proofs.Common.{◌==◌, arith}
use Rattle.wc_model.specs.Program.Elf.{sh_type}
use Rattle.wc_elf.proofs.sections.symbol_section.Goals as goal

pub loop-index-preserved : goal.loop-index-preserved
loop-index-preserved c = let turn = find_next (λ header. sh_type c.args.file.now header == 2) c.args.table 40 c.args.count c.loop-index.index _ c.loop-index-test.true c.loop-index.invariant in grind (arith, turn)

pub returns-then-section_at-eq-SYMBOL_TABLE-clause-first : goal.returns-then-section_at-eq-SYMBOL_TABLE-clause-first
returns-then-section_at-eq-SYMBOL_TABLE-clause-first c = let turn = find_next (λ header. sh_type c.args.file.now header == 2) c.args.table 40 c.args.count c.loop-index.index _ c.loop-index-test.true c.loop-index.invariant in grind (arith, turn)
