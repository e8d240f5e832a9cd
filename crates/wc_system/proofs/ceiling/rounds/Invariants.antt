use Rattle.std.proofs.Common.{◌≡◌, length}
use Rattle.wc_system.specs.Inner.Capped.{AreRounds}
use Rattle.wc_system.proofs.ceiling.rounds.Given as goal

abbrev pub invariant-loop-place : goal.invariant-loop-place
invariant-loop-place l = record { counted : length l.rounds.items ≡ l.place; so_far : AreRounds l.heads l.bounds l.place l.rounds.items }
