-- What clauses see of a pen, a pass and a note: the desk that made it and the list of entries that it has seen.
use Rattle.std.specs.Prelude.{ℕ, zero, suc, ◌≡◌, nat_le, if◌then◌else◌, List, [], ◌∷◌, ◌++◌, length}
use Rattle.atomic_table.specs.Seated.{TableId}
use Rattle.wc_model.specs.declared.entries.Entry.{Entry}

pub record Known : Type 0 where
  pub desk : TableId
  pub seen : List Entry

pub record KnownPass : Type 0 where
  pub desk : TableId
  pub seen : List Entry
  pub session : ℕ

-- one list is the beginning of another
abbrev pub IsPrefix : List Entry → List Entry → Type 0
IsPrefix old new = (rest : List Entry) × (new ≡ old ++ rest)

-- the longer of two lists, the first where they are equally long
abbrev pub longer : List Entry → List Entry → List Entry
longer own other = if nat_le (length other) (length own) then own else other

-- one pass for each session, numbered from 1, that has seen nothing
abbrev pub new_passes : TableId → ℕ → List KnownPass
new_passes desk zero = []
new_passes desk (suc n) = new_passes desk n ++ (record { desk = desk; seen = []; session = suc n }) ∷ []
