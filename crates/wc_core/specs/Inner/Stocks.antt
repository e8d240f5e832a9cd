-- What a core holds beside its history, and what it keeps true of it.
use Rattle.std.specs.Prelude.{ℕ, ◌≡◌, ◌≢◌, ◌+◌, ◌*◌, ◌<◌, ◌≤◌, ◌⊎◌, Bool, true, false, not, ◌==◌, if◌then◌else◌, List, [], ◌∷◌, length, map, filter, reverse, Option, None, Some, IsSome, All}
use Rattle.std.specs.Global.{Global}
use Rattle.std.specs.List.{list_any}
use Rattle.std.specs.declared.sync.Arc.{Arc}
use Rattle.wc_model.specs.declared.entries.Entry.{Entry}
use Rattle.wc_model.specs.Workspace.Closures.{has_kind, order_of}
use Rattle.wc_model.specs.Workspace.Edits.{Setting}
use Rattle.wc_model.specs.Workspace.History.{Chain, bound_kind, key_with}
use Rattle.wc_model.specs.Workspace.Registry.{IsOrderOf}
use Rattle.wc_model.specs.Workspace.States.{Opening, State, Row, Run, Ask, ask_at, count_of, home_of, in_store, inputs_at, is_session, own_run, same_key, stamp_at}
use Rattle.wc_model.proofs.Replays.{Kept}
use Rattle.wc_core.specs.Fits.{Feature}
use Rattle.wc_core.specs.Inner.Lines.{AreApart, Line, copy_for, names, row_of}
use Rattle.wc_core.specs.Inner.Seats.{KnownSeat, all_names, seat_at}
use Rattle.wc_core.specs.Inner.Works.{runs_with}

-- `keys`: each kind with its current stamp, in the registry's order. `owed`: how many entries the open asks may still
-- add. `spare`: how many further names the store has room for. `room`: how many entries the history has places for.
pub record Stock (V : Type 0) : Type 0 where
  pub inputs : Setting
  pub count : ℕ
  pub keys : List (ℕ × ℕ)
  pub lines : List (Line (Arc V Global))
  pub home : List (ℕ × ℕ)
  pub out : List Run
  pub seats : List KnownSeat
  pub owed : ℕ
  pub spare : ℕ
  pub room : ℕ

-- What the registry promises: the kind of the bound, and eleven kinds at most.
pub record IsRun (o : Opening) : Type 0 where
  pub bound : has_kind bound_kind (order_of o.kinds) ≡ true
  pub few : length (order_of o.kinds) ≤ 11
  pub below : All (λ k. k < 65) (order_of o.kinds)
  pub order : IsOrderOf o.kinds (order_of o.kinds)

-- The inputs, and each kind with its stamp at a count.
abbrev pub keys_at : Opening → State → ℕ → List ℕ → List (ℕ × ℕ)
keys_at o st at kinds = map (λ k. (k, stamp_at o st k at)) kinds

pub record AreInputs {V : Type 0} (o : Opening) (st : State) (d : Stock V) : Type 0 where
  pub inputs : d.inputs ≡ inputs_at o st (count_of st)
  pub count : d.count ≡ count_of st
  pub keys : d.keys ≡ keys_at o st (count_of st) (order_of o.kinds)

-- The store.

-- An open ask of the session has the kind, under the stamp.
pub record HasKey (o : Opening) (st : State) (name : List ℕ) (kind stamp session : ℕ) : Type 0 where
  pub ask : Ask
  pub asked : ask_at session st.asks ≡ Some ask
  pub name_is : ask.name ≡ name
  pub has : has_kind kind ask.kinds ≡ true
  pub own : stamp_at o st kind ask.at ≡ stamp

-- Of each stored key each session has a copy there, but for those of which `Excused` holds.
abbrev pub AreCopiedBut : {V : Type 0} → Opening → (List ℕ → ℕ → ℕ → ℕ → Type 0) → List (Line (Arc V Global)) → Type 0
AreCopiedBut o Excused lines =
    (name : List ℕ) (kind stamp session : ℕ) → is_session o session ≡ true → in_store (key_with kind name stamp) (map row_of lines) ≡ true
    → IsSome (copy_for name kind stamp session lines) ⊎ Excused name kind stamp session

abbrev pub AreCopied : {V : Type 0} → Opening → State → List (Line (Arc V Global)) → Type 0
AreCopied o st lines = AreCopiedBut o (HasKey o st) lines

-- A value is a feature on all inputs that have its stamp.
abbrev pub IsRightFor : {V : Type 0} → Feature V → Opening → State → List ℕ → ℕ → ℕ → V → Type 0
IsRightFor feature o st name kind stamp v = (n : ℕ) → n ≤ count_of st → stamp_at o st kind n ≡ stamp → feature kind (inputs_at o st n) name v

abbrev pub AreRight : {V : Type 0} → Feature V → Opening → State → List (Line (Arc V Global)) → Type 0
AreRight {V} feature o st lines = (name : List ℕ) (kind stamp session : ℕ) (a : Arc V Global) → copy_for name kind stamp session lines ≡ Some a → IsRightFor feature o st name kind stamp a.value

-- Each row has room for all kinds, and each value a place for each session.
abbrev pub IsShaped : {V : Type 0} → ℕ → Line (Arc V Global) → Type 0
IsShaped sessions l = (11 ≤ l.row.room) × All (λ s. length s.copies ≡ sessions + 1) l.row.shelves

pub record AreLines {V : Type 0} (feature : Feature V) (o : Opening) (st : State) (lines : List (Line (Arc V Global))) : Type 0 where
  pub rows : st.rows ≡ map row_of lines
  pub apart : AreApart (names lines)
  pub shaped : All (IsShaped o.sessions) lines
  pub copied : AreCopied o st lines
  pub right : AreRight feature o st lines

-- no kind twice
abbrev pub AreSingle : List (ℕ × ℕ) → Type 0
AreSingle [] = Unit {0}
AreSingle (k ∷ ks) = (list_any (λ j. j.0 == k.0) ks ≡ false) × AreSingle ks

-- no session twice
abbrev pub AreOnce : List Run → Type 0
AreOnce [] = Unit {0}
AreOnce (r ∷ rs) = (own_run r.session rs ≡ None) × AreOnce rs

-- What the replay keeps true of the store and of the runs that are out: what is stored is current, and what runs isn't
-- stored and runs once.
pub record IsTidy (o : Opening) (st : State) : Type 0 where
  pub current : (name : List ℕ) (kind stamp : ℕ) → in_store (key_with kind name stamp) st.rows ≡ true → stamp ≡ stamp_at o st kind (count_of st)
  pub listed : (name : List ℕ) (kind stamp : ℕ) → in_store (key_with kind name stamp) st.rows ≡ true → has_kind kind (order_of o.kinds) ≡ true
  pub single : All (λ (r : Row). AreSingle r.keys) st.rows
  pub once : AreOnce st.out
  pub fresh : (session : ℕ) (run : Run) → own_run session st.out ≡ Some run → in_store run.key st.rows ≡ false
  pub alone : (x y : ℕ) (r s : Run) → x ≢ y → own_run x st.out ≡ Some r → own_run y st.out ≡ Some s → same_key r.key s.key ≡ false

-- The works at home and the runs that are out. Each work has run at most as often as the history has entries.
pub record AreWorks (o : Opening) (st : State) (home : List (ℕ × ℕ)) (out : List Run) (long : ℕ) : Type 0 where
  pub listed : map (λ h. h.0) st.home ≡ order_of o.kinds
  pub home_is : (kind : ℕ) → home_of kind st.home ≡ reverse (runs_with kind home)
  pub out_is : st.out ≡ out
  pub few_home : All (λ w. w.1 ≤ long) home
  pub few_out : All (λ r. r.runs < long) out

-- The open asks.

-- how many kinds an ask lacks
abbrev pub lacking : Opening → Ask → ℕ
lacking o ask = length (filter (λ k. not (has_kind k ask.kinds)) (order_of o.kinds))

-- How many names an ask may still use: two for each kind that it lacks and one for its answer, or the last one alone.
abbrev pub names_needed : Opening → Ask → ℕ
names_needed o ask = if ask.memory then 1 else 2 * lacking o ask + 1

-- The run of an ask that is out.
pub record IsOut (o : Opening) (st : State) (ask : Ask) (seat : KnownSeat) (run : Run) : Type 0 where
  pub name_is : run.key.name ≡ ask.name
  pub own : run.key.stamp ≡ stamp_at o st run.key.kind ask.at
  pub listed : has_kind run.key.kind (order_of o.kinds) ≡ true
  pub lacks : has_kind run.key.kind ask.kinds ≡ false
  pub quiet : ask.memory ≡ false
  pub room : 2 * lacking o ask ≤ length seat.names + 1

abbrev pub RunIs : Opening → State → Ask → KnownSeat → Option Run → Type 0
RunIs o st ask seat None = names_needed o ask ≤ length seat.names
RunIs o st ask seat (Some run) = IsOut o st ask seat run

pub record IsSeated (o : Opening) (st : State) (session : ℕ) (ask : Ask) (seat : KnownSeat) : Type 0 where
  pub keys : seat.keys ≡ keys_at o st ask.at (order_of o.kinds)
  pub names : All (λ n. n ≡ ask.name) seat.names
  pub pinned : ask.at ≤ count_of st
  pub run : RunIs o st ask seat (own_run session st.out)

abbrev pub SeatIs : Opening → State → ℕ → Option Ask → KnownSeat → Type 0
SeatIs o st session None seat = (own_run session st.out ≡ None) × (seat.names ≡ [])
SeatIs o st session (Some ask) seat = IsSeated o st session ask seat

pub record AreSeated (o : Opening) (st : State) (held : List KnownSeat) : Type 0 where
  pub asks : length st.asks ≡ o.sessions + 1
  pub seats : length held ≡ o.sessions + 1
  pub each : (session : ℕ) → is_session o session ≡ true → SeatIs o st session (ask_at session st.asks) (seat_at session held)

-- All that a core keeps true of what it holds. `long`: how many entries its history has.
pub record AreParts {V : Type 0} (feature : Feature V) (o : Opening) (st : State) (long : ℕ) (d : Stock V) : Type 0 where
  pub inputs : AreInputs o st d
  pub lines : AreLines feature o st d.lines
  pub tidy : IsTidy o st
  pub works : AreWorks o st d.home d.out long
  pub seated : AreSeated o st d.seats
  pub owes : d.owed ≡ all_names d.seats + length d.out
  pub within : long + d.owed ≤ d.room
  pub stored : d.owed ≤ d.spare
  pub counted : d.count ≤ long

pub record IsCore {V : Type 0} (chain : Chain) (feature : Feature V) (o : Opening) (history : List Entry) (d : Stock V) : Type 0 where
  pub st : State
  pub kept : Kept chain o history st
  pub runs : IsRun o
  pub parts : AreParts feature o st (length history) d
