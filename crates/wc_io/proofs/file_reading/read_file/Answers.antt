use Rattle.std.proofs.Common.{false, ◌∙◌}
use Rattle.wc_io.proofs.HouseLemmas.{read_and_back}
use Rattle.wc_io.proofs.RowLemmas.{new_row}
use Rattle.wc_io.proofs.file_reading.read_file.Goals as goal

pub return_source-requires : goal.return_source-requires
return_source-requires g c =
    new_row (g.H.House.opened c.args.house.now) _ c.args.path.now false false _ c.in-Ok.ensures.row (c.read_whole-bytes.ensures.place ∙ c.in-Ok.ensures.place)

pub returns-clause-house : goal.returns-clause-house
returns-clause-house g c =
    let opened = c.in-Ok.ensures in
    let read = c.read_whole-bytes.ensures in
    let back = c.return_source.ensures in
    read_and_back g.H.House c.args.house.now c.source.new.self c.return_source.new.self c.args.path.now c.read_whole-bytes.result _ _ _ _ opened.row
    opened.place read.place opened.fresh read.failed back.rows opened.files back.files opened.tells back.tells opened.out back.out
