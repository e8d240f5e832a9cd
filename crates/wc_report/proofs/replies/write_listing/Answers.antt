use Rattle.std.specs.Prelude.{flat_map, length}
use Rattle.wc_report.specs.ReplyText.{counts_text, numbered_text, timing_text}
use Rattle.wc_report.proofs.TextLemmas.{part_of_first, part_of_two, all_three}
use Rattle.wc_report.proofs.replies.write_listing.Goals as goal

pub returns-in-Err-clause-text : goal.returns-in-Err-clause-text
returns-in-Err-clause-text g c =
    part_of_first _ _ (counts_text (length c.args.facts.now) c.args.at) (flat_map numbered_text c.args.facts.now) (timing_text c.args.hardware.now) c.in-Err.ensures.text

pub returns-in-Ok-write_facts-clause-text : goal.returns-in-Ok-write_facts-clause-text
returns-in-Ok-write_facts-clause-text g c =
    all_three _ (g.K.Sink.held c.write_counts.new.sink) (g.K.Sink.held c.write_facts.new.sink) (counts_text (length c.args.facts.now) c.args.at) (flat_map numbered_text c.args.facts.now) (timing_text c.args.hardware.now) c.in-Ok.ensures.text _ _ c.in-Ok-write_facts.ensures.text c.write_hardware_line.ensures.text

pub returns-in-Err-write_facts-clause-text : goal.returns-in-Err-write_facts-clause-text
returns-in-Err-write_facts-clause-text g c =
    part_of_two _ (g.K.Sink.held c.write_counts.new.sink) _ (counts_text (length c.args.facts.now) c.args.at) (flat_map numbered_text c.args.facts.now) (timing_text c.args.hardware.now) c.in-Ok.ensures.text c.in-Err-write_facts.ensures.text
