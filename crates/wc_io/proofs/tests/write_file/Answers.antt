use Rattle.std.proofs.Common.{true, false, ◌∙◌}
use Rattle.wc_io.proofs.RowLemmas.{new_row}
use Rattle.wc_io.proofs.tests.write_file.Goals as goal

pub return_sink-requires : goal.return_sink-requires
return_sink-requires g c =
    new_row (g.H.House.opened c.args.house.now) _ c.args.path.now true false _ c.in_ok-sink.ensures.row (c.write_whole-written.ensures.place ∙ c.in_ok-sink.ensures.place)
