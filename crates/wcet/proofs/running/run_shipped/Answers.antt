use Rattle.wcet.proofs.TallyLemmas.{kinds_known, starts_known}
use Rattle.wcet.proofs.running.run_shipped.Goals as goal

pub returns-in-Ok-run_session-clause-runs : goal.returns-in-Ok-run_session-clause-runs
returns-in-Ok-run_session-clause-runs g c =
    starts_known c.args.loaded.image c.args.loaded.hardware c.args.loaded.facts.items c.in-Ok-run_session.ran.history.items c.in-Ok-run_session.ensures.run.legal.begins c.in-Ok-run_session.ensures.rests c.in-Ok-run_session.ran.runs c.in-Ok-run_session.ensures.runs

pub returns-in-Ok-run_session-clause-kinds : goal.returns-in-Ok-run_session-clause-kinds
returns-in-Ok-run_session-clause-kinds g c =
    kinds_known c.args.loaded.image c.args.loaded.hardware c.args.loaded.facts.items c.in-Ok-run_session.ran.history.items c.in-Ok-run_session.ensures.run.legal.begins c.in-Ok-run_session.ensures.rests
