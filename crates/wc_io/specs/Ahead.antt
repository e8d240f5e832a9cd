-- A source of which a piece was read ahead.
use Rattle.std.specs.Prelude.{ℕ, List, [], Option}
use Rattle.std.specs.Io.KnownBytes.{prepend_known}

-- the bytes that were read and not yet taken, and what the source tells
pub record Ahead : Type 0 where
  pub unread : List ℕ
  pub left : Option (List ℕ)
  pub place : ℕ
  pub faults : ℕ

-- a source of which nothing was read ahead
abbrev pub unread_source : Option (List ℕ) → ℕ → ℕ → Ahead
unread_source left place faults = record { unread = []; left = left; place = place; faults = faults }

-- all bytes to come, where the source tells its own
abbrev pub to_come : Ahead → Option (List ℕ)
to_come a = prepend_known a.unread a.left
