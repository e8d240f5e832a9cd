use Rattle.std.proofs.Common.{◌++◌, ◌∷◌, ◌∙◌, [], ap, rules, sym}
use Rattle.std.proofs.lemmas.Int.{to_z-of_z}
use mir.Syntax.{w128}
use Rattle.wc_simplex.specs.Inner.Counts.{counted}
use Rattle.wc_simplex.proofs.CodeLemmas.{counts_more}
use Rattle.wc_simplex.proofs.counts.count_steps.Goals as goal

pub loop-column-preserved : goal.loop-column-preserved
loop-column-preserved c =
    counts_more (counted c.args.machine.now c.args.den c.args.rows.now) c.loop-column.counts.items c.push.new.self.items c.args.at.now c.loop-column.column-index 0 c.in-Some.count _
    c.loop-column-test.true c.loop-column.invariant (sym c.scaled.ensures ∙ c.in-Some.is)
    (c.in_ok-push-in-Some.ensures.items ∙ ap (λ z. c.loop-column.counts.items ++ z ∷ []) (to_z-of_z w128 c.in-Some.count (search rules)))
