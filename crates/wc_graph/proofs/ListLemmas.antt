-- Lists of one value.
use Rattle.std.proofs.Common.{ℕ, zero, suc, ◌≡◌, replicate, Some, sym}
use Rattle.std.specs.List.{slice_get}
use Rattle.std.proofs.lemmas.Option.{none-some, same_Some}

pub get_filled : {X : Type 0} (n t : ℕ) (value x : X) → slice_get (replicate n value) t ≡ Some x → x ≡ value
get_filled zero t value x at = absurd (none-some x at)
get_filled (suc n) zero value x at = sym (same_Some value x at)
get_filled (suc n) (suc t) value x at = get_filled n t value x at
