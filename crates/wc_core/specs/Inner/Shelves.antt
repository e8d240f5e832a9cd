-- The store as the core keeps it: for each name a row, in it each value under its kind and stamp, with one copy for each
-- session.
use Rattle.std.specs.Prelude.{ℕ, ◌==◌, ◌&&◌, Bool, if◌then◌else◌, List, [], ◌∷◌, ◌++◌, Option, None, Some, is_none, find, slice_index_or, slice_set}
use Rattle.std.specs.Option.{option_and_then}
use Rattle.wc_model.specs.Workspace.Firsts.{change_first}

-- `C` is the type of copies.
pub record KnownShelf (C : Type 0) : Type 0 where
  pub kind : ℕ
  pub stamp : ℕ
  pub copies : List (Option C)

-- `room`: how many shelves it holds without more memory.
pub record KnownRow (C : Type 0) : Type 0 where
  pub shelves : List (KnownShelf C)
  pub room : ℕ

abbrev pub is_shelf : {C : Type 0} → ℕ → ℕ → KnownShelf C → Bool
is_shelf kind stamp s = s.kind == kind && s.stamp == stamp

-- the copy of a session
abbrev pub copy_of : {C : Type 0} → ℕ → KnownShelf C → Option C
copy_of session s = slice_index_or s.copies session None

abbrev pub shelf_taken : {C : Type 0} → ℕ → KnownShelf C → KnownShelf C
shelf_taken session s = record s { copies = slice_set s.copies session None }

abbrev pub shelf_filled : {C : Type 0} → ℕ → C → KnownShelf C → KnownShelf C
shelf_filled session copy s = if is_none (copy_of session s) then record s { copies = slice_set s.copies session (Some copy) } else s

-- the copy under a kind and a stamp
abbrev pub find_copy : {C : Type 0} → ℕ → ℕ → ℕ → List (KnownShelf C) → Option C
find_copy kind stamp session shelves = option_and_then (copy_of session) (find (is_shelf kind stamp) shelves)

abbrev pub row_taken : {C : Type 0} → ℕ → ℕ → ℕ → KnownRow C → KnownRow C
row_taken kind stamp session row = record row { shelves = change_first (is_shelf kind stamp) (shelf_taken session) row.shelves }

abbrev pub row_filled : {C : Type 0} → ℕ → ℕ → ℕ → C → KnownRow C → KnownRow C
row_filled kind stamp session copy row = record row { shelves = change_first (is_shelf kind stamp) (shelf_filled session copy) row.shelves }

abbrev pub row_longer : {C : Type 0} → KnownShelf C → KnownRow C → KnownRow C
row_longer shelf row = record row { shelves = row.shelves ++ shelf ∷ [] }
