use Rattle.std.proofs.Common.{◌≡◌, map, take}
use Rattle.wc_nestsolve.specs.Inner.Potentials.{potential_of}
use Rattle.wc_nestsolve.proofs.potentials.first_potentials.Given as goal

abbrev pub invariant-loop-found : goal.invariant-loop-found
invariant-loop-found l = l.u.items ≡ map potential_of (take l.found-index l.best)
