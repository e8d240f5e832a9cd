use Rattle.std.proofs.Common.{sym, subst}
use Rattle.wc_core.specs.Answers.{LeavesFree}
use Rattle.wc_core.proofs.tests.stage_with.Goals as goal

pub new-requires-10-clause-free : goal.new-requires-10-clause-free
new-requires-10-clause-free c session least most =
    subst (λ o. LeavesFree o c.in_ok-core.core.history session) (sym c.in_ok-core.ensures.opening) (c.in_ok-core.ensures.free session least most)
