use Rattle.std.proofs.Common.{◌∙◌}
use Rattle.wc_model.specs.Program.Image.{name_checks, range_checks}
use Rattle.wc_elf.proofs.Steps.{pass, stops_first, stops_later}
use Rattle.wc_elf.proofs.image.read_tables.Goals as goal

pub returns-in-Err-clause-reads : goal.returns-in-Err-clause-reads
returns-in-Err-clause-reads c = stops_first (range_checks c.args.file.now) (name_checks c.args.file.now) c.in-Err.trouble c.in-Err.ensures.reads

pub returns-in-Ok-read_names-clause-reads : goal.returns-in-Ok-read_names-clause-reads
returns-in-Ok-read_names-clause-reads c =
    (pass (range_checks c.args.file.now) (name_checks c.args.file.now) c.in-Ok.ensures.reads.0 ∙ c.in-Ok-read_names.ensures.reads.0, (c.in-Ok.ensures.reads.1, c.in-Ok-read_names.ensures.reads.1))

pub returns-in-Err-read_names-clause-reads : goal.returns-in-Err-read_names-clause-reads
returns-in-Err-read_names-clause-reads c = stops_later (range_checks c.args.file.now) (name_checks c.args.file.now) c.in-Err-read_names.trouble c.in-Ok.ensures.reads.0 c.in-Err-read_names.ensures.reads
