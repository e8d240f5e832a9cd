-- What the sessions of a core hold of it, where somebody keeps that for all of them.
use Rattle.std.specs.Prelude.{ℕ, ◌≡◌, ◌+◌, ◌≤◌, List, Option, None, Some, length, slice_index_or}
use Rattle.wc_core.specs.Answers.{LeavesFree}
use Rattle.wc_core.specs.Fits.{Feature, FitsFlight, FitsTicket}
use Rattle.wc_core.specs.Views.{Known, KnownFlight, KnownTicket}

-- A session holds nothing, or the ticket of its open ask, or the flight of its run.
abbrev pub IsHeld : {V : Type 0} → Feature V → Known → ℕ → Option (KnownTicket V) → Option (KnownFlight V) → Type 0
IsHeld feature k session None None = LeavesFree k.opening k.history session
IsHeld feature k session (Some t) None = FitsTicket feature k.opening k.history t × (t.session ≡ session)
IsHeld feature k session None (Some f) = FitsFlight feature k.opening k.history f × (f.ticket.session ≡ session)
IsHeld feature k session (Some t) (Some f) = ⊥

-- what stands at the number of a session
abbrev pub held_at : {A : Type 0} → ℕ → List (Option A) → Option A
held_at session xs = slice_index_or xs session None

pub record AreHeld {V : Type 0} (feature : Feature V) (k : Known) (asks : List (Option (KnownTicket V))) (runs : List (Option (KnownFlight V))) : Type 0 where
  pub asks_long : length asks ≡ k.opening.sessions + 1
  pub runs_long : length runs ≡ k.opening.sessions + 1
  pub each : (session : ℕ) → 1 ≤ session → session ≤ k.opening.sessions → IsHeld feature k session (held_at session asks) (held_at session runs)
