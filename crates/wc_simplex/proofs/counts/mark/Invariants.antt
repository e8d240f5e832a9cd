use Rattle.std.proofs.Common.{◌≡◌, ◌<◌, ℕ, drop, get_or, if◌then◌else◌, length}
use Rattle.wc_model.specs.Flow.Places.{is_listed}
use Rattle.wc_simplex.proofs.counts.mark.Given as goal

abbrev pub invariant-loop-place : goal.invariant-loop-place
invariant-loop-place l =
    (length l.found.items ≡ length l.fn.found.items)
    × ((i : ℕ) → i < length l.fn.found.items
    → (if is_listed i (drop l.place-index l.places) then l.column else get_or l.found.items i 0) ≡ (if is_listed i l.places then l.column else get_or l.fn.found.items i 0))
