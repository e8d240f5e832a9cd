use Rattle.std.proofs.Common.{ℕ, ◌≡◌, ◌<◌, None, Some, length, get_or, subst, arith}
use Rattle.std.specs.List.{slice_get}
use Rattle.std.proofs.lemmas.Option.{slice_get-get_or}
use Rattle.wc_graph.specs.declared.frames.Frame.{Frame}
use Rattle.wc_graph.proofs.opened.Opened.follow.Goals as goal

pub open-requires-clause-next : goal.open-requires-clause-next
open-requires-clause-next c =
    let frames = c.args.frames.now in
    let n = c.len-in-loop-self.result in
    let none : Frame = record { parent = None; returns = 0; callee = 0 } in
    let count : n ≡ length c.loop-self.self.roots.items = omega (arith, c.len-in-loop-self.ensures, c.loop-self.self.roots.ok.0) in
    let less : n < length frames = omega (arith, c.loop-self-test.true, c.len.ensures, c.len-in-loop-self.ensures) in
    subst (λ (k : ℕ). slice_get frames k ≡ Some (get_or frames n none)) count (slice_get-get_or frames n none less)
