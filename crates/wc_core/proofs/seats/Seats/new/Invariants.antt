use Rattle.std.proofs.Common.{◌≡◌, All, length}
use Rattle.wc_core.specs.Inner.Seats.{no_seat}
use Rattle.wc_core.proofs.seats.Seats.new.Given as goal

abbrev pub invariant-loop-place : goal.invariant-loop-place
invariant-loop-place l = All (λ s. s ≡ no_seat) l.seats.items × (length l.seats.items ≡ l._place)
