use Rattle.std.proofs.Common.{refl}
use Rattle.std.proofs.lemmas.Result.{IfOk-weaker}
use Rattle.wc_model.specs.Flow.RowResults.{read_end}
use Rattle.wc_simplex.specs.Inner.Finishes.{IsFine, Reads, end_as}
use Rattle.wc_simplex.specs.Inner.Machines.{seen}
use Rattle.wc_simplex.specs.Inner.Starts.{start_as}
use Rattle.wc_simplex.proofs.RunLemmas.{answers, chains, end_is, possible, regular}
use Rattle.wc_simplex.proofs.solving.run.Goals as goal

pub run_whole-requires : goal.run_whole-requires
run_whole-requires c =
    regular c.args.system.now c.requires.system c.args.columns.now c.requires.ordered c.requires.small c.requires.live c.requires.priced.0 c.requires.priced.1 c.args.start c.requires.starts

pub finish-requires-clause-chains : goal.finish-requires-clause-chains
finish-requires-clause-chains c =
    chains c.args.system.now c.requires.system c.args.columns.now c.requires.ordered c.requires.small c.requires.live c.requires.priced.0 c.requires.priced.1 c.args.start c.requires.starts

pub finish-requires-clause-end : goal.finish-requires-clause-end
finish-requires-clause-end c =
    end_is c.args.system.now c.requires.system c.args.columns.now c.requires.ordered c.requires.small c.requires.live c.requires.priced.0 c.requires.priced.1 c.args.start c.requires.starts
    (record { machine = c.run_whole.new.self; negated = c.args.start.negated }) c.in_ok-ending.ending 5000 refl c.in_ok-ending.ensures.ends c.in_ok-ending.ensures.regular
    c.in_ok-ending.ensures.shape refl

pub finish-requires-clause-possible : goal.finish-requires-clause-possible
finish-requires-clause-possible c =
    possible c.args.system.now c.requires.system c.args.columns.now c.requires.ordered c.requires.small c.requires.live c.requires.priced.0 c.requires.priced.1 c.args.start c.requires.starts
    (record { machine = c.run_whole.new.self; negated = c.args.start.negated }) c.in_ok-ending.ending 5000 refl c.in_ok-ending.ensures.ends c.in_ok-ending.ensures.regular
    c.in_ok-ending.ensures.shape refl

pub returns : goal.returns
returns c =
    IfOk-weaker c.finish.result
    (Reads (read_end c.args.system.now c.args.columns.now (start_as (record { machine = c.run_whole.new.self; negated = c.args.start.negated })) (end_as c.in_ok-ending.ending (seen c.run_whole.new.self))))
    (IsFine c.args.system.now)
    (answers c.args.system.now c.requires.system c.args.columns.now c.requires.ordered c.requires.small c.requires.live c.requires.priced.0 c.requires.priced.1 c.args.start c.requires.starts
    (record { machine = c.run_whole.new.self; negated = c.args.start.negated }) c.in_ok-ending.ending 5000 refl c.in_ok-ending.ensures.ends c.in_ok-ending.ensures.regular
    c.in_ok-ending.ensures.shape refl) c.finish.ensures
