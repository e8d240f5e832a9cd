use Rattle.std.proofs.Common.{ℤ, None, rules, SFits, arith}
use Rattle.std.proofs.lemmas.Int.{to_z-of_z}
use Rattle.std.proofs.lemmas.List.{length-set}
use mir.Syntax.{w128}
use Rattle.wc_model.specs.declared.flow_system.SystemStep.{SystemStep}
use Rattle.wc_model.specs.Flow.Places.{number_at}
use Rattle.wc_dual.proofs.LineLemmas.{starts_more}
use Rattle.wc_dual.proofs.prices.open_lines.Goals as goal

pub loop-place-preserved : goal.loop-place-preserved
loop-place-preserved c =
    let fits : SFits w128 c.in-Some.line = search rules in
    let none : SystemStep = record { source = 0; target = None; cost = 0 } in
    record {
      kept = omega (arith, length-set {A = ℤ}, c.loop-place.invariant.kept);
      so_far = starts_more c.args.steps.now (number_at c.args.u.now) c.args.first c.loop-place.place c.loop-place.sums _ c.in-Some.line none (to_z-of_z w128 c.in-Some.line fits) c.in-Some.ensures (omega arith)
          c.loop-place.invariant.so_far;
    }
