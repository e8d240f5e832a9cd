use Rattle.std.proofs.Common.{◌-◌, true, sym, ap, subst, ◌∙◌}
use Rattle.wc_io.specs.Rows.{IsRowOf, path_at}
use Rattle.wc_io.proofs.RowLemmas.{IsRowOf_marked, path_at_marked}
use Rattle.wcet.proofs.OpeningLemmas.{given_file}
use Rattle.wcet.proofs.opening.give_back.Goals as goal

pub return_sink-requires : goal.return_sink-requires
return_sink-requires g c =
    subst (IsRowOf (g.H.Sink.Sink.place c.args.sink) true) (sym c.return_source.ensures.rows)
    (IsRowOf_marked (g.H.Sink.Sink.place c.args.sink) true (g.H.House.opened c.args.house.now) (g.H.Source.Source.place c.args.source - 1) (g.H.Source.Source.faults c.args.source) c.requires.sink)

-- marks change no path
pub returns-clause-file : goal.returns-clause-file
returns-clause-file g c =
    let i = g.H.Sink.Sink.place c.args.sink - 1 in
    given_file (g.H.House.file c.args.house.now) (g.H.House.file c.return_source.new.self) (g.H.House.file c.return_sink.new.self) (g.H.Sink.Sink.held c.args.sink)
    (path_at i (g.H.House.opened c.args.house.now)) (path_at i (g.H.House.opened c.return_source.new.self))
    (ap (path_at i) c.return_source.ensures.rows ∙ path_at_marked (g.H.House.opened c.args.house.now) i (g.H.Source.Source.place c.args.source - 1) (g.H.Source.Source.faults c.args.source))
    c.return_source.ensures.files c.return_sink.ensures.file

pub returns-clause-others : goal.returns-clause-others
returns-clause-others g c =
    let i = g.H.Sink.Sink.place c.args.sink - 1 in
    λ p other.
    c.return_sink.ensures.others p (λ is. other (is ∙ ap (path_at i) c.return_source.ensures.rows ∙ path_at_marked (g.H.House.opened c.args.house.now) i (g.H.Source.Source.place c.args.source - 1) (g.H.Source.Source.faults c.args.source)))
    ∙ c.return_source.ensures.files p
