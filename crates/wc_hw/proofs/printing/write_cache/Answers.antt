use Rattle.std.proofs.Common.{◌∙◌}
use Rattle.wc_hw.proofs.TextLemmas.{flat_joined}
use Rattle.wc_hw.proofs.printing.write_cache.Goals as goal

pub returns : goal.returns
returns g c =
    let written = c.write_pieces.ensures in
    record {
      text = rw (← (c.as_bytes.ensures.value ∙ c.start_text.ensures)) (rw flat_joined at written.text);
      cause = written.cause;
      place = written.place;
    }
