use Rattle.std.proofs.Common.{length, ◌<◌, ap, arith}
use Rattle.std.proofs.lemmas.List.Elements.{All-push}
use Rattle.std.specs.List.{All}
use Rattle.std.specs.Option.{IfSome}
use Rattle.wc_simplex.proofs.ColumnLemmas.{column_step}
use Rattle.std.proofs.Common.{ℕ, List, sym, subst}
use Rattle.wc_simplex.proofs.columns.column.Goals as goal

pub loop-step-preserved : goal.loop-step-preserved
loop-step-preserved c =
    let i = c.loop-step.invariant in
    let s = c.args.system.now in
    let inside : c.in-Some.place < length s.steps = subst (λ o. IfSome o (λ k. k < length s.steps)) c.in-Some.is i.1 in (
      column_step s (length s.steps) c.loop-step._step c.in-Some.place c.next_step-next.result c.loop-step.next c.loop-step.places.items c.push.new.self.items _
          (omega (arith, ap length c.items-step-end.ensures)) c.in_ok-push.ensures.items c.in-Some.is i.0 c.next_step-next.ensures.next,
      c.next_step-next.ensures.inside,
      subst (λ (l : List ℕ). All (λ k. k < length s.steps) l) (sym c.in_ok-push.ensures.items) (All-push (λ k. k < length s.steps) c.loop-step.places.items c.in-Some.place i.2 inside),
    )
