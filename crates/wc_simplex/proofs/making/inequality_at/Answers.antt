use Rattle.std.proofs.Common.{◌-◌, ◌∙◌, [], ap, arith, get_or, length, pos, sym, subst}
use Rattle.std.proofs.lemmas.Result.{IfOk-weaker}
use Rattle.wc_model.specs.declared.flow_system.SystemLimit.{SystemLimit}
use Rattle.wc_model.specs.declared.flow_system.SystemLoop.{SystemLoop}
use Rattle.wc_model.specs.Flow.Tableaus.{Line, limit_line, loop_line}
use Rattle.wc_simplex.specs.Inner.Lines.{IsLine}
use Rattle.wc_simplex.specs.Inner.Making.{inequalities}
use Rattle.wc_simplex.proofs.MakingLemmas.{limit_inequality, loop_inequality}
use Rattle.wc_simplex.proofs.making.inequality_at.Goals as goal

any_loop : SystemLoop
any_loop = record { head = 0; bound = 0; back = []; entry = [] }

any_limit : SystemLimit
any_limit = record { constant = pos 0; factors = [] }

pub limit_at-requires-clause-place : goal.limit_at-requires-clause-place
limit_at-requires-clause-place c = omega (arith, ap length c.items-loops.ensures, c.requires.place)

pub loop_at-requires-clause-place : goal.loop_at-requires-clause-place
loop_at-requires-clause-place c = omega (arith, ap length c.items-loops.ensures)

pub returns-then-place-loops : goal.returns-then-place-loops
returns-then-place-loops c =
    let s = c.args.system.now in
    IfOk-weaker c.loop_at.result (λ row. (d : SystemLoop) → IsLine s (loop_line s (get_or s.loops c.args.place d)) row) (λ row. (d : Line) → IsLine s (get_or (inequalities s) c.args.place d) row)
    (λ row is d. subst (λ (x : Line). IsLine s x row) (sym (loop_inequality s c.args.place any_loop d (omega (arith, ap length c.items-loops.ensures)))) (is any_loop)) c.loop_at.ensures

pub returns-else-place-loops : goal.returns-else-place-loops
returns-else-place-loops c =
    let s = c.args.system.now in
    IfOk-weaker c.limit_at.result (λ row. (d : SystemLimit) → IsLine s (limit_line (get_or s.limits (c.args.place - length c.items-loops.result.now) d)) row)
    (λ row. (d : Line) → IsLine s (get_or (inequalities s) c.args.place d) row)
    (λ row is d. subst (λ (x : Line). IsLine s x row)
    (ap (λ n. limit_line (get_or s.limits (c.args.place - n) any_limit)) (ap length c.items-loops.ensures)
    ∙ sym (limit_inequality s c.args.place any_limit d (omega (arith, ap length c.items-loops.ensures)) c.requires.place)) (is any_limit)) c.limit_at.ensures
