use Rattle.std.proofs.Common.{◌≡◌, get_or, map, pos, take}
use Rattle.wc_simplex.proofs.lines.limit_entries.Given as goal

abbrev pub invariant-loop-step : goal.invariant-loop-step
invariant-loop-step l = l.entries.items ≡ map (λ t. get_or l.factors t.source (pos 0)) (take l.step-index l.steps)
