use Rattle.std.proofs.Common.{◌≡◌, ◌<◌, ◌-◌, ℕ, length}
use Rattle.wc_model.specs.Flow.Places.{number_at}
use Rattle.wc_dual.specs.Inner.Parts.{IsBalanced}
use Rattle.wc_dual.proofs.counts.check_flow.Given as goal

abbrev pub invariant-loop-first : goal.invariant-loop-first
invariant-loop-first l = record { kept : length l.room ≡ length l.fn.room; so_far : (p : ℕ) → p < l.first → p < l.system.nodes → IsBalanced l.system l.den (number_at l.x) p }

abbrev pub decreases-loop-first : goal.decreases-loop-first
decreases-loop-first l = l.system.nodes - l.first
