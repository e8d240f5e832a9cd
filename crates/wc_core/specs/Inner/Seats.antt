-- What the core holds for the open ask of each session.
use Rattle.std.specs.Prelude.{ℕ, ◌≡◌, ◌+◌, ◌++◌, List, [], ◌∷◌, length, slice_index_or, slice_set}

-- `keys`: each kind with the ask's own stamp, in the registry's order. `names`: copies of the ask's name, one for each
-- entry that is to come and for each run that is to go out.
pub record KnownSeat : Type 0 where
  pub keys : List (ℕ × ℕ)
  pub names : List (List ℕ)

abbrev pub no_seat : KnownSeat
no_seat = record { keys = []; names = [] }

abbrev pub seat_at : ℕ → List KnownSeat → KnownSeat
seat_at session seats = slice_index_or seats session no_seat

abbrev pub with_seat : ℕ → KnownSeat → List KnownSeat → List KnownSeat
with_seat session seat seats = slice_set seats session seat

abbrev pub all_names : List KnownSeat → ℕ
all_names [] = 0
all_names (s ∷ ss) = length s.names + all_names ss

pub record IsNameTaken (old new : KnownSeat) (name : List ℕ) : Type 0 where
  pub keys : new.keys ≡ old.keys
  pub names : old.names ≡ new.names ++ name ∷ []
