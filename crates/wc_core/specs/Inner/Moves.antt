-- What moves between the store and an ask, by the ask's own keys.
use Rattle.std.specs.Prelude.{ℕ, ◌<◌, Bool, true, if◌then◌else◌, List, [], ◌∷◌, length, Option, None, Some, is_some, slice_set}
use Rattle.std.specs.Global.{Global}
use Rattle.std.specs.declared.sync.Arc.{Arc}
use Rattle.wc_core.specs.Features.{arc_at}
use Rattle.wc_core.specs.Inner.Gifts.{KnownGift}
use Rattle.wc_core.specs.Inner.Lines.{HasPlace, Line, at_name, copy_for, kept}
use Rattle.wc_core.specs.Inner.Shelves.{row_filled, row_taken}
use Rattle.wc_core.specs.Views.{KnownTicket}

abbrev pub Had : Type 0 → Type 0
Had V = List (Option (Arc V Global))

abbrev pub Lines : Type 0 → Type 0
Lines V = List (Line (Arc V Global))

abbrev pub holding : {V : Type 0} → ℕ → Option (Arc V Global) → Had V → Had V
holding kind None had = had
holding kind (Some a) had = slice_set had kind (Some a)

-- The copy of a key that the ask doesn't have yet.
abbrev pub pulled_one : {V : Type 0} → List ℕ → ℕ → ℕ × ℕ → Had V → Lines V → Had V × Lines V
pulled_one name session key had lines =
    if is_some (arc_at key.0 had)
    then (had, lines)
    else (holding key.0 (copy_for name key.0 key.1 session lines) had, at_name name (row_taken key.0 key.1 session) lines)

abbrev pub pulled : {V : Type 0} → List ℕ → ℕ → List (ℕ × ℕ) → Had V → Lines V → Had V × Lines V
pulled name session [] had lines = (had, lines)
pulled name session (k ∷ ks) had lines = let next = pulled_one name session k had lines in pulled name session ks next.0 next.1

abbrev pub filled_with : {V : Type 0} → List ℕ → ℕ → ℕ × ℕ → Option (Arc V Global) → Lines V → Lines V
filled_with name session key None lines = lines
filled_with name session key (Some a) lines = at_name name (row_filled key.0 key.1 session a) lines

-- The ask's copy goes back where its key stands and the place is empty.
abbrev pub put_one : {V : Type 0} → List ℕ → ℕ → ℕ × ℕ → Had V → Lines V → Had V × Lines V
put_one name session key had lines = (slice_set had key.0 None, filled_with name session key (arc_at key.0 had) lines)

abbrev pub put : {V : Type 0} → List ℕ → ℕ → List (ℕ × ℕ) → Had V → Lines V → Had V × Lines V
put name session [] had lines = (had, lines)
put name session (k ∷ ks) had lines = let next = put_one name session k had lines in put name session ks next.0 next.1

-- What a run gave is kept where it is current, and the ask has its own copy.
abbrev pub settled_lines : {V : Type 0} → ℕ → ℕ → Bool → Option (KnownGift V) → Lines V → Lines V
settled_lines kind stamp true (Some g) lines = kept g.name g.row (record { kind = kind; stamp = stamp; copies = g.copies }) lines
settled_lines kind stamp current gave lines = lines

abbrev pub settled : {V : Type 0} → ℕ → Option (KnownGift V) → KnownTicket V → KnownTicket V
settled kind None t = record t { memory = true }
settled kind (Some g) t = record t { had = slice_set t.had kind (Some g.own) }

-- what the store needs for that
abbrev pub CanSettle : {V : Type 0} → ℕ → Bool → Option (KnownGift V) → Lines V → Type 0
CanSettle spare true (Some g) lines = HasPlace g.name lines × (length g.row.shelves < g.row.room) × (0 < spare)
CanSettle spare current gave lines = Unit {0}
