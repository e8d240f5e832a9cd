use Rattle.std.proofs.Common.{◌≡◌, ◌<◌, ℕ, true, false, get_or}
use Rattle.std.specs.List.{Contains}
use Rattle.wc_mustmay.proofs.MetLemmas.{AreMarked}
use Rattle.wc_mustmay.proofs.all_sets.met_sets.Given as goal

abbrev pub invariant-loop-line : goal.invariant-loop-line
invariant-loop-line l = AreMarked l.sets l.access l.line-index l.seen.items

abbrev pub invariant-loop-set : goal.invariant-loop-set
invariant-loop-set l = (s : ℕ) → s < l.set → get_or l.seen.items s false ≡ true → Contains l.met.items s
