-- The rows of the store by their names, as the replay has them.
use Rattle.std.specs.Prelude.{ℕ, ◌≡◌, ◌<◌, ◌≤◌, Bool, false, if◌then◌else◌, List, [], ◌∷◌, ◌++◌, All, map, length, find, Option, None}
use Rattle.std.specs.List.{list_any}
use Rattle.std.specs.Option.{option_and_then}
use Rattle.std.specs.declared.vec.Vec.{Vec}
use Rattle.std.specs.Global.{Global}
use Rattle.wc_model.specs.Workspace.Firsts.{change_first}
use Rattle.wc_model.specs.Workspace.States.{Row, has_row, same_name, with_room}
use Rattle.wc_core.specs.Inner.Shelves.{KnownRow, KnownShelf, find_copy, row_longer}

-- a row with its name
pub record Line (C : Type 0) : Type 0 where
  pub name : List ℕ
  pub row : KnownRow C

-- `spare`: how many further names have room without more memory.
pub record KnownStore (C : Type 0) : Type 0 where
  pub lines : List (Line C)
  pub spare : ℕ

abbrev pub lines_of : {C : Type 0} → List (Vec ℕ Global × KnownRow C) → List (Line C)
lines_of entries = map (λ e. record { name = (e.0).items; row = e.1 }) entries

abbrev pub row_of : {C : Type 0} → Line C → Row
row_of l = record { name = l.name; keys = map (λ s. (s.kind, s.stamp)) l.row.shelves }

abbrev pub names : {C : Type 0} → List (Line C) → List (List ℕ)
names lines = map (λ l. l.name) lines

-- no name stands twice, and there are at most 32
abbrev pub AreApart : List (List ℕ) → Type 0
AreApart [] = Unit {0}
AreApart (n ∷ ns) = (list_any (λ m. same_name m n) ns ≡ false) × AreApart ns

pub record AreFew (all : List (List ℕ)) : Type 0 where
  pub apart : AreApart all
  pub few : length all ≤ 32

-- each value has a place for the session's copy
abbrev pub AllWide : {C : Type 0} → ℕ → List (Line C) → Type 0
AllWide session lines = All (λ l. All (λ s. session < length s.copies) l.row.shelves) lines

abbrev pub is_named : {C : Type 0} → List ℕ → Line C → Bool
is_named name l = same_name l.name name

abbrev pub at_name : {C : Type 0} → List ℕ → (KnownRow C → KnownRow C) → List (Line C) → List (Line C)
at_name name change lines = change_first (is_named name) (λ l. record l { row = change l.row }) lines

-- the copy under a name, a kind and a stamp
abbrev pub copy_for : {C : Type 0} → List ℕ → ℕ → ℕ → ℕ → List (Line C) → Option C
copy_for name kind stamp session lines = option_and_then (λ l. find_copy kind stamp session l.row.shelves) (find (is_named name) lines)

-- the name's row, if there is one, has room for a further value
abbrev pub HasPlace : {C : Type 0} → List ℕ → List (Line C) → Type 0
HasPlace name lines = All (λ l. l.name ≡ name → length l.row.shelves < l.row.room) lines

-- a value is kept in the row of its name; a new name gets a row of its own, and the row made earliest leaves for a 33rd
abbrev pub kept : {C : Type 0} → List ℕ → KnownRow C → KnownShelf C → List (Line C) → List (Line C)
kept name row shelf lines =
    if has_row name (map row_of lines)
    then at_name name (row_longer shelf) lines
    else with_room lines ++ record { name = name; row = row_longer shelf row } ∷ []
