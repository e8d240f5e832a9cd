use Rattle.std.proofs.Common.{◌+◌}
use Rattle.wc_simplex.proofs.SolutionLemmas.{pivot_keeps_if}
use Rattle.wc_simplex.proofs.tableau.Machine.pivot.Goals as goal

pub returns-clause-solutions : goal.returns-clause-solutions
returns-clause-solutions c =
    λ above.
    pivot_keeps_if c.args.place c.args.column c.args.self.now c.pivot_by.new.self (c.args.self.now.right + 2) c.pivot_by.result c.requires.regular.rows c.requires.place
    above c.pivot_by.ensures.pivoted
