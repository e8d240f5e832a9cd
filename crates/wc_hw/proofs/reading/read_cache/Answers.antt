use Rattle.std.proofs.Common.{◌≡◌, true, refl, sym}
use Rattle.std.specs.Prelude.{codes}
use Rattle.serde_json.specs.View.{view}
use Rattle.wc_model.specs.Cache.Ranges.{is_line_size, is_set_count, is_way_count}
use Rattle.wc_hw.specs.HardwareFile.{cache_number}
use Rattle.wc_hw.proofs.TextLemmas.{checked_passes}
use Rattle.wc_hw.proofs.reading.read_cache.Goals as goal

pub invariant_of-cache : goal.invariant_of-cache
invariant_of-cache c =
    let d = view c.args.value.now in
    let sets : is_set_count c.in-Some.sets ≡ true = checked_passes is_set_count (cache_number (codes "sets") d) c.in-Some.sets (sym c.in-Some.ensures) in
    let ways : is_way_count c.in-Some-ways_of.ways ≡ true = checked_passes is_way_count (cache_number (codes "ways") d) c.in-Some-ways_of.ways (sym c.in-Some-ways_of.ensures) in
    let line : is_line_size c.in-Some-line_of.line ≡ true = checked_passes is_line_size (cache_number (codes "line") d) c.in-Some-line_of.line (sym c.in-Some-line_of.ensures) in
    record { in_range = rw (sets, ways, line) refl }
