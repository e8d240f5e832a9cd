use Rattle.std.proofs.Common.{◌+◌}
use Rattle.wc_simplex.proofs.WholeLemmas.{end_keeps}
use Rattle.wc_simplex.proofs.tableau.Machine.run_whole.Goals as goal

pub returns-clause-solutions : goal.returns-clause-solutions
returns-clause-solutions c =
    end_keeps c.args.self.now c.run_phases.new.self (c.args.self.now.right + 2) c.args.most c.run_phases.result c.requires.rows c.run_phases.ensures.ends
