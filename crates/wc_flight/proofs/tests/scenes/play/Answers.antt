use Rattle.std.proofs.Common.{◌≡◌, ℕ, ◌++◌, ◌∙◌, List, length, drop, take, ap, arith, sym, subst}
use Rattle.wc_pass.specs.Known.{KnownPass}
use Rattle.wc_flight.specs.Openings.{AreAll}
use Rattle.wc_flight.proofs.CloseLemmas.{all_stay}
use Rattle.wc_flight.proofs.tests.scenes.play.Goals as goal
use lib.Seq.{take-append_seam}

pub close-requires-after_bounds : goal.close-requires-after_bounds
close-requires-after_bounds g c κs within =
    let own = g.N.Named.desk in
    let o = g.N.Named.opening in
    let old : List KnownPass = c.as_mut_slice.result.now in
    let new : List KnownPass = c.act_all.new.passes in
    let items : List KnownPass = c.new-workspace.result.1.items in
    let long : length old ≡ length new = omega (arith, c.act_all.auto.passes) in
    let count : length new ≡ c.new-workspace.result.1.len = omega (arith, long, c.as_mut_slice.ensures.len) in
    let all : AreAll own o old = subst (λ ps. AreAll own o ps) (sym c.as_mut_slice.ensures.value) c.new-workspace.ensures.all in
    let stay : AreAll own o new = all_stay own o old new long c.act_all.ensures all in
    let seam : take c.new-workspace.result.1.len (new ++ drop (length new) items) ≡ new =
    ap (λ n. take n (new ++ drop (length new) items)) (sym count) ∙ take-append_seam new (drop (length new) items) in
    subst (λ ps. AreAll own o ps) (sym seam) stay
