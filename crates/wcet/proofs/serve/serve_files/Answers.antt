use Rattle.wcet.specs.Words.{paths_in}
use Rattle.wcet.proofs.CallLemmas.{over_loaded, not_loaded}
use Rattle.wcet.proofs.serve.serve_files.Goals as goal

pub returns-in-Ok-clause-session : goal.returns-in-Ok-clause-session
returns-in-Ok-clause-session g c =
    over_loaded (g.H.House.tells c.args.house.now) (g.H.House.tells c.load.new.house) (g.H.House.file c.args.house.now) (g.H.House.file c.load.new.house) (g.H.House.file c.run_loaded.new.house) c.in-Ok.ensures.files c.in-Ok.ensures.tells
    (paths_in c.args.call.now.paths) c.args.call.now.input.now c.args.call.now.output.now (g.H.House.opened c.args.house.now) (g.H.House.opened c.load.new.house) (g.H.House.opened c.run_loaded.new.house) c.in-Ok.loaded c.in-Ok.ensures.inputs c.run_loaded.result c.run_loaded.ensures.session

pub returns-in-Err-clause-session : goal.returns-in-Err-clause-session
returns-in-Err-clause-session g c =
    not_loaded (g.H.House.tells c.args.house.now) (g.H.House.file c.args.house.now) (g.H.House.file c.load.new.house) (paths_in c.args.call.now.paths) c.args.call.now.input.now c.args.call.now.output.now (g.H.House.opened c.args.house.now) (g.H.House.opened c.load.new.house) c.in-Err.unloaded c.in-Err.ensures.files c.in-Err.ensures.inputs
