use Rattle.std.proofs.Common.{◌≡◌, List, subst, sym, ap, refl, length}
use Rattle.std.specs.Prelude.{All}
use Rattle.wc_pass.specs.Known.{Known, KnownPass}
use Rattle.wc_pass.proofs.NewPasses.{new_passes-desk}
use Rattle.wc_pass.proofs.tests.two_threads_publish_and_meet_a_thousand_times_each.Goals as goal

pub run-requires-after_bounds : goal.run-requires-after_bounds
run-requires-after_bounds g c κs = (
  refl,
  ap (λ (p : Known). p.desk) c.in_ok-desk.ensures.pen,
  ap (λ (p : Known). length p.seen) c.in_ok-desk.ensures.pen,
  subst (λ (ps : List KnownPass). All (λ (p : KnownPass). p.desk ≡ c.in_ok-desk.desk) ps) (sym c.in_ok-desk.ensures.passes) (new_passes-desk c.in_ok-desk.desk 2),
)
