use Rattle.std.proofs.Common.{◌≡◌, ◌≤◌, ◌-◌, length}
use Rattle.wc_dual.specs.Inner.Lines.{ArePriced, listed}
use Rattle.wc_dual.proofs.prices.check_prices.Given as goal

abbrev pub invariant-loop-first : goal.invariant-loop-first
invariant-loop-first l = record { kept : length l.room ≡ length l.fn.room; inside : l.first ≤ length l.system.steps; so_far : ArePriced l.system (listed l.prices) l.scale 0 l.first }

abbrev pub decreases-loop-first : goal.decreases-loop-first
decreases-loop-first l = length l.system.steps - l.first
