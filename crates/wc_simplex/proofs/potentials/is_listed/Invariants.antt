use Rattle.std.proofs.Common.{◌≡◌, drop}
use Rattle.wc_model.specs.Flow.Places.{is_listed}
use Rattle.wc_simplex.proofs.potentials.is_listed.Given as goal

abbrev pub invariant-loop-other : goal.invariant-loop-other
invariant-loop-other l = is_listed l.place (drop l.other-index l.places) ≡ is_listed l.place l.places
