-- What the replay of a history keeps: the store, the works at home, the runs that are out, and the open asks.
use Rattle.std.specs.Prelude.{ℕ, ◌+◌, ◌-◌, if◌then◌else◌, Bool, not, ◌&&◌, ◌||◌, ◌==◌, nat_eq, nat_le, List, [], ◌∷◌, ◌++◌, take, drop, map, filter, find, length, replicate, Option, None, is_none, slice_get, slice_index_or, slice_set}
use Rattle.std.specs.Cmp.Lexicographic.{pointwise}
use Rattle.std.specs.List.{list_any}
use Rattle.std.specs.Option.{option_map_or}
use Rattle.wc_model.specs.declared.elf_image.Image.{Image}
use Rattle.wc_model.specs.declared.flow_facts.Fact.{Fact}
use Rattle.wc_model.specs.declared.inputs.Edit.{Edit}
use Rattle.wc_model.specs.declared.inputs.Edit.TheVariants.{Add, Hardware as Timing}
use Rattle.wc_model.specs.declared.kinds.Describe.{Describe}
use Rattle.wc_model.specs.declared.machine.Hardware.{Hardware}
use Rattle.wc_model.specs.Workspace.Edits.{Setting, after_edits}
use Rattle.wc_model.specs.Workspace.Closures.{has_kind, closure, touches_any, stamp_of}
use Rattle.wc_model.specs.Workspace.Firsts.{change_first, without_first}

-- What a workspace is opened with. `works` has the number of works of each kind.
pub record Opening : Type 0 where
  pub image : Image
  pub kinds : List Describe
  pub works : List (ℕ × ℕ)
  pub hardware : Hardware
  pub facts : List Fact
  pub sessions : ℕ

-- What a value is stored under: its kind, the name that was asked for, and the stamp of the kind at the ask's count.
pub record Key : Type 0 where
  pub kind : ℕ
  pub name : List ℕ
  pub stamp : ℕ

-- A row of the store: a name, and the kind and the stamp of each value that is stored for it.
pub record Row : Type 0 where
  pub name : List ℕ
  pub keys : List (ℕ × ℕ)

-- A run that is out: who started it, the key of its value, and how many runs its work had before.
pub record Run : Type 0 where
  pub session : ℕ
  pub key : Key
  pub runs : ℕ

-- An open ask: its name, its count, the kinds that it has, and whether a run of it found no memory. The kinds are a
-- set: all that is asked of them is `has_kind`.
pub record Ask : Type 0 where
  pub name : List ℕ
  pub at : ℕ
  pub kinds : List ℕ
  pub memory : Bool

-- `edits`: the accepted edits. `rows`: the store, the row made earliest first. `home`: for each kind, how often each
-- of its works at home has run, the one that came home last at the end. `out`: the runs that are out, the earliest
-- first. `asks`: the open ask of each session, at its number.
pub record State : Type 0 where
  pub edits : List Edit
  pub rows : List Row
  pub home : List (ℕ × List ℕ)
  pub out : List Run
  pub asks : List (Option Ask)

abbrev pub start : Opening → State
start o =
    record {
      edits = Timing o.hardware ∷ map Add o.facts;
      rows = [];
      home = map (λ w. (w.0, replicate w.1 0)) o.works;
      out = [];
      asks = replicate (o.sessions + 1) None;
    }

-- The number of accepted edits.
abbrev pub count_of : State → ℕ
count_of st = length st.edits

-- The inputs and the stamp of a kind at an edit count.
abbrev pub inputs_at : Opening → State → ℕ → Setting
inputs_at o st at = after_edits o.image at st.edits

abbrev pub stamp_at : Opening → State → ℕ → ℕ → ℕ
stamp_at o st kind at = stamp_of o.kinds o.image kind at st.edits

abbrev pub same_name : List ℕ → List ℕ → Bool
same_name a b = pointwise nat_eq a b

abbrev pub same_key : Key → Key → Bool
same_key a b = a.kind == b.kind && same_name a.name b.name && a.stamp == b.stamp

-- The store.

abbrev pub has_key : ℕ → ℕ → List (ℕ × ℕ) → Bool
has_key kind stamp keys = list_any (λ k. k.0 == kind && k.1 == stamp) keys

abbrev pub in_store : Key → List Row → Bool
in_store key rows = list_any (λ r. same_name r.name key.name && has_key key.kind key.stamp r.keys) rows

abbrev pub has_row : List ℕ → List Row → Bool
has_row name rows = list_any (λ r. same_name r.name name) rows

abbrev pub with_key : Key → Row → Row
with_key key row = record row { keys = row.keys ++ (key.kind, key.stamp) ∷ [] }

-- The store has rows for at most 32 names: the row made earliest leaves for a new one.
abbrev pub with_room : {A : Type 0} → List A → List A
with_room rows = if nat_le 32 (length rows) then drop 1 rows else rows

abbrev pub stored : Key → List Row → List Row
stored key rows =
    if has_row key.name rows
    then change_first (λ r. same_name r.name key.name) (with_key key) rows
    else with_room rows ++ record { name = key.name; keys = (key.kind, key.stamp) ∷ [] } ∷ []

-- An edit takes out exactly the values of the kinds whose closure it touches. An emptied row keeps its place.
abbrev pub is_touched : Opening → State → Edit → ℕ → Bool
is_touched o st edit kind = touches_any (closure o.kinds kind) (inputs_at o st (count_of st)) edit

abbrev pub untouched_keys : Opening → State → Edit → Row → Row
untouched_keys o st edit row = record row { keys = filter (λ k. not (is_touched o st edit k.0)) row.keys }

-- The works at home.

abbrev pub home_of : ℕ → List (ℕ × List ℕ) → List ℕ
home_of kind home = option_map_or (λ h. h.1) (find (λ h. h.0 == kind) home) []

abbrev pub with_home : ℕ → List ℕ → List (ℕ × List ℕ) → List (ℕ × List ℕ)
with_home kind runs home = change_first (λ h. h.0 == kind) (λ h. (h.0, runs)) home

abbrev pub last_of : {A : Type 0} → List A → Option A
last_of items = slice_get items (length items - 1)

abbrev pub all_but_last : {A : Type 0} → List A → List A
all_but_last items = take (length items - 1) items

-- The runs that are out.

abbrev pub own_run : ℕ → List Run → Option Run
own_run session out = find (λ r. r.session == session) out

abbrev pub without_own : ℕ → List Run → List Run
without_own session out = without_first (λ r. r.session == session) out

abbrev pub is_out : Key → List Run → Bool
is_out key out = list_any (λ r. same_key r.key key) out

-- The asks. Sessions are numbered from 1.

abbrev pub ask_at : ℕ → List (Option Ask) → Option Ask
ask_at session asks = slice_index_or asks session None

abbrev pub with_ask : ℕ → Option Ask → List (Option Ask) → List (Option Ask)
with_ask session ask asks = slice_set asks session ask

abbrev pub is_session : Opening → ℕ → Bool
is_session o session = nat_le 1 session && nat_le session o.sessions

abbrev pub open_ask : Opening → State → ℕ → Option Ask
open_ask o st session = if is_session o session then ask_at session st.asks else None

abbrev pub is_free : Opening → State → ℕ → Bool
is_free o st session = is_session o session && is_none (ask_at session st.asks)

-- A kind is within an ask's reach where the ask has it or its key stands in the store.

abbrev pub key_of : Opening → State → Ask → ℕ → Key
key_of o st ask kind = record { kind = kind; name = ask.name; stamp = stamp_at o st kind ask.at }

abbrev pub is_stored : Opening → State → Ask → ℕ → Bool
is_stored o st ask kind = in_store (key_of o st ask kind) st.rows

abbrev pub within_reach : Opening → State → Ask → ℕ → Bool
within_reach o st ask kind = has_kind kind ask.kinds || is_stored o st ask kind
