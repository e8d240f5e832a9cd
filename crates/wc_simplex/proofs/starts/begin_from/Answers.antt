use Rattle.std.proofs.Common.{◌≡◌, ◌∙◌, refl, sym, subst, rules}
use Rattle.wc_simplex.proofs.StartingLemmas.{goal_begins, goal_fails}
use Rattle.wc_simplex.proofs.starts.begin_from.Goals as goal

pub returns-in-None-2 : goal.returns-in-None-2
returns-in-None-2 c =
    goal_fails c.args.system.now c.args.columns.now c.args.slacks _ c.args.halves.now c.in_ok-second_goal.field-0 c.in_ok-first_goal-in-Some.field-0 refl c.in_ok-second_goal.ensures c.in-Some.z c.in-Some.is
    c.in_ok-first_goal-in-Some.ensures c.in-None-2.is

pub returns-in_ok-begin_with-in-Some-2 : goal.returns-in_ok-begin_with-in-Some-2
returns-in_ok-begin_with-in-Some-2 c =
    goal_begins c.args.system.now c.args.columns.now c.args.slacks _ c.args.halves.now c.in_ok-second_goal.field-0 c.in_ok-first_goal-in-Some.field-0 refl c.in_ok-second_goal.ensures c.in-Some.z c.in-Some-2.w
    c.in_ok-begin_with-in-Some-2.field-0 c.in-Some.is c.in_ok-first_goal-in-Some.ensures c.in-Some-2.is c.in_ok-begin_with-in-Some-2.ensures.machine
