use Rattle.std.proofs.Common.{◌∙◌, arith}
use Rattle.wc_simplex.proofs.MakingLemmas.{inequalities_end}
use Rattle.wc_simplex.proofs.making.add_inequalities.Goals as goal

pub returns : goal.returns
returns c =
    c.loop-place.invariant ∙ inequalities_end c.args.system.now c.args.columns.now c.args.slacks c.loop-place.place c.loop-place.made.items (omega (arith, c.requires.slacks))
