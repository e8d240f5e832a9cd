use Rattle.std.proofs.Common.{Err, ap, ◌∙◌}
use Rattle.wc_simplex.specs.declared.fault.SolveFault.TheVariants.{NumberLimit, PivotLimit, NoPath}
use Rattle.wc_works.proofs.SolvingLemmas.{row_refusal, row_solution}
use Rattle.wc_works.proofs.optimum.solve_limited.Goals as goal

pub returns-in-Ok : goal.returns-in-Ok
returns-in-Ok c = row_solution c.args.system.now c.in-Ok.solution c.requires.limited c.in-Ok.ensures.answer c.in-Ok.ensures.holds

pub returns-in-Err-NumberLimit : goal.returns-in-Err-NumberLimit
returns-in-Err-NumberLimit c =
    row_refusal c.args.system.now c.solve.result NumberLimit c.requires.limited (c.in-Err-NumberLimit.is ∙ ap Err c.in-Err-NumberLimit.field-0-is) c.solve.ensures.answer

pub returns-in-Err-PivotLimit : goal.returns-in-Err-PivotLimit
returns-in-Err-PivotLimit c =
    row_refusal c.args.system.now c.solve.result PivotLimit c.requires.limited (c.in-Err-PivotLimit.is ∙ ap Err c.in-Err-PivotLimit.field-0-is) c.solve.ensures.answer

pub returns-in-Err-NoPath : goal.returns-in-Err-NoPath
returns-in-Err-NoPath c =
    row_refusal c.args.system.now c.solve.result (NoPath _) c.requires.limited (c.in-Err-NoPath.is ∙ ap Err c.in-Err-NoPath.field-0-is) c.solve.ensures.answer
