use Rattle.std.proofs.Common.{◌-◌, false, true}
use Rattle.wc_io.proofs.RowLemmas.{new_row}
use Rattle.wcet.proofs.OpeningLemmas.{still_row, failed_rows, memory_rows}
use Rattle.wcet.proofs.opening.open.Goals as goal

pub return_source-requires : goal.return_source-requires
return_source-requires g c =
    still_row (g.H.Source.Source.place c.in-Ok.source) false true c.args.output.now (g.H.House.opened c.source.new.self) (g.H.House.opened c.sink.new.self) c.in-Err.error
    (new_row (g.H.House.opened c.args.house.now) (g.H.House.opened c.source.new.self) c.args.input.now false false (g.H.Source.Source.place c.in-Ok.source) c.in-Ok.ensures.row c.in-Ok.ensures.place) c.in-Err.ensures.row

pub returns-in-Failed-clause-rows : goal.returns-in-Failed-clause-rows
returns-in-Failed-clause-rows g c =
    failed_rows c.args.input.now c.args.output.now (g.H.House.opened c.args.house.now) (g.H.House.opened c.source.new.self) (g.H.House.opened c.sink.new.self) (g.H.House.opened c.return_source.new.self)
    (g.H.Source.Source.place c.in-Ok.source - 1) (g.H.Source.Source.faults c.in-Ok.source) c.in-Err.error c.in-Failed.is c.in-Ok.ensures.row c.in-Err.ensures.row c.in-Ok.ensures.fresh c.return_source.ensures.rows

pub returns-in-Memory-clause-rows : goal.returns-in-Memory-clause-rows
returns-in-Memory-clause-rows g c =
    memory_rows c.args.input.now c.args.output.now (g.H.House.opened c.args.house.now) (g.H.House.opened c.source.new.self) (g.H.House.opened c.sink.new.self) (g.H.House.opened c.return_source.new.self)
    (g.H.Source.Source.place c.in-Ok.source - 1) (g.H.Source.Source.faults c.in-Ok.source) c.in-Err.error (λ is. cc) c.in-Ok.ensures.row c.in-Err.ensures.row c.in-Ok.ensures.fresh c.return_source.ensures.rows
