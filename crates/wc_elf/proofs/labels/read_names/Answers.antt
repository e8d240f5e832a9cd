use Rattle.std.proofs.Common.{◌≡◌, Some, None, arith}
use Rattle.wc_model.specs.Program.Elf.{symbol_section}
use Rattle.wc_model.specs.Program.Image.{first_fault, section_table_checks, symbol_checks, section_names}
use Rattle.wc_elf.proofs.Steps.{pass, reads_later}
use Rattle.wc_elf.proofs.labels.read_names.Goals as goal

pub returns-in-Some-clause-reads : goal.returns-in-Some-clause-reads
returns-in-Some-clause-reads c =
    let found : symbol_section c.args.file.now ≡ Some c.in-Some.header = grind arith in
    let sound : first_fault (section_table_checks c.args.file.now) ≡ None = grind arith in
    rw found (reads_later (section_table_checks c.args.file.now) (symbol_checks c.args.file.now (Some c.in-Some.header)) (λ names. names.items ≡ section_names c.args.file.now (Some c.in-Some.header)) c.section_names.result sound c.section_names.ensures.reads)

pub returns-in-None-clause-reads : goal.returns-in-None-clause-reads
returns-in-None-clause-reads c =
    let found : symbol_section c.args.file.now ≡ None = grind arith in
    let sound : first_fault (section_table_checks c.args.file.now) ≡ None = grind arith in
    rw found (pass (section_table_checks c.args.file.now) (symbol_checks c.args.file.now None) sound, c.new-in-None.ensures.items)
