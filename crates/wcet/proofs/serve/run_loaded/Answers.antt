use Rattle.std.proofs.Common.{ap, ◌∙◌, inr}
use Rattle.wcet.proofs.CallLemmas.{not_opened}
use Rattle.wcet.proofs.ServingLemmas.{nothing_ran, session_over, sink_path, sink_row, source_row}
use Rattle.wcet.proofs.serve.run_loaded.Goals as goal

pub returns-in-Err-clause-session : goal.returns-in-Err-clause-session
returns-in-Err-clause-session g c =
    not_opened c.args.loaded (g.H.House.tells c.args.house.now) (g.H.House.file c.args.house.now) (g.H.House.file c.open.new.house) c.args.input.now c.args.output.now (g.H.House.opened c.args.house.now) (g.H.House.opened c.open.new.house) c.in-Err.unopened c.from.result c.from.ensures c.in-Err.ensures.rows c.in-Err.ensures.kept

pub give_back-requires-clause-source : goal.give_back-requires-clause-source
give_back-requires-clause-source g c κs within = source_row (g.H.House.opened c.args.house.now) (g.H.House.opened c.open.new.house) c.args.input.now c.args.output.now (g.H.Source.Source.place c.in-Ok-run_shipped.ran.source) c.in-Ok.ensures.rows (c.in-Ok-run_shipped.ensures.source.0 ∙ c.in-Ok.ensures.source.0)

pub give_back-requires-clause-sink : goal.give_back-requires-clause-sink
give_back-requires-clause-sink g c κs within = sink_row (g.H.House.opened c.args.house.now) (g.H.House.opened c.open.new.house) c.args.input.now c.args.output.now (g.H.Sink.Sink.place c.in-Ok-run_shipped.ran.sink) c.in-Ok.ensures.rows (c.in-Ok-run_shipped.ensures.sink.0 ∙ c.in-Ok.ensures.sink.0)

pub give_back-requires-in-Err-run_shipped-clause-source : goal.give_back-requires-in-Err-run_shipped-clause-source
give_back-requires-in-Err-run_shipped-clause-source g c κs within = source_row (g.H.House.opened c.args.house.now) (g.H.House.opened c.open.new.house) c.args.input.now c.args.output.now (g.H.Source.Source.place c.in-Err-run_shipped.source) c.in-Ok.ensures.rows (ap g.H.Source.Source.place c.in-Err-run_shipped.ensures.back.0 ∙ c.in-Ok.ensures.source.0)

pub give_back-requires-in-Err-run_shipped-clause-sink : goal.give_back-requires-in-Err-run_shipped-clause-sink
give_back-requires-in-Err-run_shipped-clause-sink g c κs within = sink_row (g.H.House.opened c.args.house.now) (g.H.House.opened c.open.new.house) c.args.input.now c.args.output.now (g.H.Sink.Sink.place c.in-Err-run_shipped.sink) c.in-Ok.ensures.rows (ap g.H.Sink.Sink.place c.in-Err-run_shipped.ensures.back.1 ∙ c.in-Ok.ensures.sink.0)

pub returns-in-Ok-run_shipped-clause-session : goal.returns-in-Ok-run_shipped-clause-session
returns-in-Ok-run_shipped-clause-session g c = (
  session_over (g.H.House.tells c.args.house.now) (g.H.House.file c.args.house.now) (g.H.House.file c.open.new.house) (g.H.House.file c.give_back.new.house) c.args.input.now c.args.output.now (g.H.House.opened c.args.house.now) (g.H.House.opened c.open.new.house) (g.H.House.opened c.give_back.new.house) c.in-Ok.ensures.rows c.in-Ok.ensures.emptied
      (g.H.Source.Source.place c.in-Ok-run_shipped.ran.source) (g.H.Source.Source.faults c.in-Ok-run_shipped.ran.source) (g.H.Sink.Sink.place c.in-Ok-run_shipped.ran.sink) (g.H.Sink.Sink.faults c.in-Ok-run_shipped.ran.sink) (c.in-Ok-run_shipped.ensures.source.0 ∙ c.in-Ok.ensures.source.0) (c.in-Ok-run_shipped.ensures.sink.0 ∙ c.in-Ok.ensures.sink.0) c.give_back.ensures.rows (g.H.Sink.Sink.held c.in-Ok.opened.sink) (g.H.Sink.Sink.held c.in-Ok-run_shipped.ran.sink) c.in-Ok.ensures.held c.give_back.ensures.file
      c.args.loaded c.in-Ok-run_shipped.ran.history.items c.in-Ok-run_shipped.ran.ended (g.H.Source.Source.left c.in-Ok.opened.source) (g.H.Source.Source.faults c.in-Ok.opened.source) (g.H.Sink.Sink.faults c.in-Ok.opened.sink) c.in-Ok.ensures.source.1 c.in-Ok.ensures.sink.1 c.in-Ok.ensures.there c.in-Ok.ensures.script
      c.in-Ok-run_shipped.ensures.read_fault c.in-Ok-run_shipped.ensures.write_fault c.in-Ok-run_shipped.ensures.run,
  c.in-Ok-run_shipped.ensures.runs,
  c.in-Ok-run_shipped.ensures.kinds,
)

pub returns-in-Ok-run_shipped-clause-others : goal.returns-in-Ok-run_shipped-clause-others
returns-in-Ok-run_shipped-clause-others g c = λ p other.
    c.give_back.ensures.others p (λ is. other (is ∙ sink_path (g.H.House.opened c.args.house.now) (g.H.House.opened c.open.new.house) c.args.input.now c.args.output.now (g.H.Sink.Sink.place c.in-Ok-run_shipped.ran.sink) c.in-Ok.ensures.rows (c.in-Ok-run_shipped.ensures.sink.0 ∙ c.in-Ok.ensures.sink.0))) ∙ c.in-Ok.ensures.others p other

pub returns-in-Err-run_shipped-clause-session : goal.returns-in-Err-run_shipped-clause-session
returns-in-Err-run_shipped-clause-session g c =
    inr (nothing_ran (g.H.House.tells c.args.house.now) (g.H.House.file c.args.house.now) (g.H.House.file c.open.new.house) (g.H.House.file c.give_back-in-Err-run_shipped.new.house) c.args.input.now c.args.output.now (g.H.House.opened c.args.house.now) (g.H.House.opened c.open.new.house) (g.H.House.opened c.give_back-in-Err-run_shipped.new.house) c.in-Ok.ensures.rows c.in-Ok.ensures.emptied
    (g.H.Source.Source.place c.in-Err-run_shipped.source) (g.H.Source.Source.faults c.in-Err-run_shipped.source) (g.H.Sink.Sink.place c.in-Err-run_shipped.sink) (g.H.Sink.Sink.faults c.in-Err-run_shipped.sink) (ap g.H.Source.Source.place c.in-Err-run_shipped.ensures.back.0 ∙ c.in-Ok.ensures.source.0) (ap g.H.Sink.Sink.place c.in-Err-run_shipped.ensures.back.1 ∙ c.in-Ok.ensures.sink.0) c.give_back-in-Err-run_shipped.ensures.rows (g.H.Sink.Sink.held c.in-Ok.opened.sink) (g.H.Sink.Sink.held c.in-Err-run_shipped.sink) c.in-Ok.ensures.held c.give_back-in-Err-run_shipped.ensures.file
    (ap g.H.Source.Source.faults c.in-Err-run_shipped.ensures.back.0 ∙ c.in-Ok.ensures.source.1) (ap g.H.Sink.Sink.faults c.in-Err-run_shipped.ensures.back.1 ∙ c.in-Ok.ensures.sink.1) (ap g.H.Sink.Sink.held c.in-Err-run_shipped.ensures.back.1))

pub returns-in-Err-run_shipped-clause-others : goal.returns-in-Err-run_shipped-clause-others
returns-in-Err-run_shipped-clause-others g c = λ p other.
    c.give_back-in-Err-run_shipped.ensures.others p (λ is. other (is ∙ sink_path (g.H.House.opened c.args.house.now) (g.H.House.opened c.open.new.house) c.args.input.now c.args.output.now (g.H.Sink.Sink.place c.in-Err-run_shipped.sink) c.in-Ok.ensures.rows (ap g.H.Sink.Sink.place c.in-Err-run_shipped.ensures.back.1 ∙ c.in-Ok.ensures.sink.0))) ∙ c.in-Ok.ensures.others p other
