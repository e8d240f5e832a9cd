use Rattle.std.proofs.Common.{◌≡◌, ◌∷◌, ◌++◌, ◌∙◌, [], ap₂}
use Rattle.wc_simplex.proofs.TwoLoopLemmas.{one_loop}
use Rattle.wc_simplex.proofs.tests.loops.Goals as goal

pub returns-clause-items : goal.returns-clause-items
returns-clause-items c =
    let pushed : c.push.new.self.items ≡ one_loop 1 c.args.first 4 0 ∷ [] = c.in_ok-push.ensures.items ∙ ap₂ (λ ls l. ls ++ l ∷ []) c.new-loops.ensures.items c.in_ok-first.ensures in
    c.in_ok-push-2.ensures.items ∙ ap₂ (λ ls l. ls ++ l ∷ []) pushed c.in_ok-second.ensures
