-- Each value of the store has a place for a session, whatever the session takes or puts back.
use Rattle.std.proofs.Common.{ℕ, Bool, true, false, if◌then◌else◌, List, Option, None, Some, is_some}
use Rattle.std.specs.Global.{Global}
use Rattle.std.specs.declared.sync.Arc.{Arc}
use Rattle.wc_core.specs.Features.{arc_at}
use Rattle.wc_core.specs.Inner.Lines.{AllWide, at_name, copy_for}
use Rattle.wc_core.specs.Inner.Moves.{Had, Lines, filled_with, holding, pulled_one, put_one}
use Rattle.wc_core.specs.Inner.Shelves.{row_taken, shelf_filled, shelf_taken}
use Rattle.wc_core.proofs.ShelfLemmas.{keeps_filled, keeps_taken, wide_stays}

abbrev IsWide : {V : Type 0} → ℕ → Had V × Lines V → Type 0
IsWide session p = AllWide session p.1

pull_case : {V : Type 0} (name : List ℕ) (session : ℕ) (key : ℕ × ℕ) (had : Had V) (lines : Lines V) (has : Bool) → AllWide session lines
    → IsWide session (if has then (had, lines) else (holding key.0 (copy_for name key.0 key.1 session lines) had, at_name name (row_taken key.0 key.1 session) lines))
pull_case name session key had lines true wide = wide
pull_case name session key had lines false wide = wide_stays session (shelf_taken session) (keeps_taken session) session name key.0 key.1 lines wide

pub pull_wide : {V : Type 0} (name : List ℕ) (session : ℕ) (key : ℕ × ℕ) (had : Had V) (lines : Lines V) → AllWide session lines → AllWide session (pulled_one name session key had lines).1
pull_wide name session key had lines wide = pull_case name session key had lines (is_some (arc_at key.0 had)) wide

put_case : {V : Type 0} (name : List ℕ) (session : ℕ) (key : ℕ × ℕ) (copy : Option (Arc V Global)) (lines : Lines V) → AllWide session lines → AllWide session (filled_with name session key copy lines)
put_case name session key None lines wide = wide
put_case name session key (Some a) lines wide = wide_stays session (shelf_filled session a) (keeps_filled session a) session name key.0 key.1 lines wide

pub put_wide : {V : Type 0} (name : List ℕ) (session : ℕ) (key : ℕ × ℕ) (had : Had V) (lines : Lines V) → AllWide session lines → AllWide session (put_one name session key had lines).1
put_wide name session key had lines wide = put_case name session key (arc_at key.0 had) lines wide
