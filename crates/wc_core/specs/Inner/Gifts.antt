-- What a run gave, as it comes home.
use Rattle.std.specs.Prelude.{ℕ, ◌≡◌, ◌≢◌, ◌+◌, ◌<◌, ◌≤◌, ◌⊎◌, List, [], length, Option, None, Some, IsSome, slice_index_or}
use Rattle.std.specs.Global.{Global}
use Rattle.std.specs.Option.{option_map}
use Rattle.std.specs.declared.sync.Arc.{Arc}
use Rattle.wc_core.specs.Inner.Shelves.{KnownRow}

-- `own`: the copy of the ask's session. `copies`: those of the others, at their numbers. `name` and `row` are for a new
-- row of the store.
pub record KnownGift (V : Type 0) : Type 0 where
  pub own : Arc V Global
  pub copies : List (Option (Arc V Global))
  pub name : List ℕ
  pub row : KnownRow (Arc V Global)

-- There is one copy for each session but the ask's own, among so many places.
pub record AreCopiesOf {V : Type 0} (value : V) (places session : ℕ) (copies : List (Option (Arc V Global))) : Type 0 where
  pub wide : length copies ≡ places
  pub full : (x : ℕ) → 1 ≤ x → x < places → x ≢ session → IsSome (slice_index_or copies x None)
  pub same : (x : ℕ) (a : Arc V Global) → slice_index_or copies x None ≡ Some a → a.value ≡ value

pub record IsGift {V : Type 0} (sessions session : ℕ) (name : List ℕ) (g : KnownGift V) : Type 0 where
  pub copies : AreCopiesOf g.own.value (sessions + 1) session g.copies
  pub name_is : g.name ≡ name
  pub empty : g.row.shelves ≡ []
  pub room : 11 ≤ g.row.room

abbrev pub gift_value : {V : Type 0} → Option (KnownGift V) → Option V
gift_value gave = option_map (λ g. g.own.value) gave

-- The copy that is made for a session.
abbrev pub IsCopyFor : {V : Type 0} → ℕ → ℕ → V → Option (Arc V Global) → Type 0
IsCopyFor session own value None = (session ≡ 0) ⊎ (session ≡ own)
IsCopyFor session own value (Some a) = a.value ≡ value
