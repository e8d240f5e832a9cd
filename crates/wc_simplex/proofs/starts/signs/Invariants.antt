use Rattle.std.proofs.Common.{◌≡◌, map, take}
use Rattle.wc_simplex.specs.Inner.Halves.{half_as}
use Rattle.wc_simplex.proofs.starts.signs.Given as goal

abbrev pub invariant-loop-half : goal.invariant-loop-half
invariant-loop-half l = l.signs.items ≡ map (λ h. h.negated) (map half_as (take l.half-index l.halves))
