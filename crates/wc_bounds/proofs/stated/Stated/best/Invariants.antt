use Rattle.std.proofs.Common.{ℕ}
use Rattle.wc_model.specs.Program.Positions.{Position}
use Rattle.wc_bounds.specs.Inner.Best.{IsAt}
use Rattle.wc_bounds.specs.Inner.Stated.{IsLatest, IsBestFrom, places_before}
use Rattle.wc_bounds.proofs.stated.Stated.best.Given as goal

abbrev pub invariant-loop-place : goal.invariant-loop-place
invariant-loop-place l = (k : ℕ) × IsLatest l.facts l.node.pc k l.place × ((p : Position) → IsAt l.contexts l.node p → IsBestFrom l.facts p k l.best)

abbrev pub decreases-loop-place : goal.decreases-loop-place
decreases-loop-place l = places_before l.place
