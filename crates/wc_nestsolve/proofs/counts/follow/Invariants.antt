use Rattle.std.proofs.Common.{◌≡◌, ◌-◌, ◌<◌, ◌++◌, Some}
use Rattle.wc_nestsolve.specs.Inner.Trails.{walk_from}
use Rattle.wc_nestsolve.proofs.counts.follow.Given as goal

abbrev pub invariant-loop-step : goal.invariant-loop-step
invariant-loop-step l = (l.walk.items ++ walk_from l.system l.nest l.best (l.most - l._step) (Some l.at) ≡ walk_from l.system l.nest l.best l.most (Some l.start)) × (l.at < l.system.nodes)
