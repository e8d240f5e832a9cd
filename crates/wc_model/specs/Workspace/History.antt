-- A legal history of a shared workspace, as the replay of a list of entries that knows no values, locks or waiting.
use Rattle.std.specs.Prelude.{ℕ, ◌+◌, if◌then◌else◌, Bool, true, false, not, ◌&&◌, ◌==◌, List, [], ◌∷◌, ◌++◌, take, drop, map, filter, length, Option, None, Some, ◌≡◌, IsSome, is_none}
use Rattle.std.specs.List.{before_first, list_all}
use Rattle.std.specs.Option.{option_and_then, option_map}
use Rattle.wc_model.specs.declared.elf_image.Image.{Image}
use Rattle.wc_model.specs.declared.entries.End.{End}
use Rattle.wc_model.specs.declared.entries.End.TheVariants.{Kept, Dropped, Memory}
use Rattle.wc_model.specs.declared.entries.Entry.{Entry}
use Rattle.wc_model.specs.declared.entries.Entry.TheVariants.{Edit as EditEntry, NoFact, Pin, Start, Finish, Answer, List as ListEntry}
use Rattle.wc_model.specs.declared.flow_facts.Fact.{Fact}
use Rattle.wc_model.specs.declared.inputs.Edit.{Edit}
use Rattle.wc_model.specs.declared.inputs.Edit.TheVariants.{Add, Drop, Hardware as Timing}
use Rattle.wc_model.specs.declared.values.Outcome.{Outcome}
use Rattle.wc_model.specs.declared.values.Outcome.TheVariants.{Memory as NoMemory}
use Rattle.wc_model.specs.Workspace.Closures.{has_kind, order_of}
use Rattle.wc_model.specs.Workspace.Edits.{Setting, numbered, fact_numbered, after_edits, edit_of}
use Rattle.wc_model.specs.Workspace.States.{Opening, Key, Row, Run, Ask, State, start, count_of, inputs_at, stamp_at, same_name, same_key, stored, untouched_keys, home_of, with_home, last_of, all_but_last, own_run, without_own, is_out, with_ask, open_ask, is_free, is_stored, within_reach}

-- The opening edits, by session 0. Edit 1 is the hardware, and the facts are numbered from 2 on.
abbrev pub opening_facts : List Fact → List (ℕ × Fact)
opening_facts facts = numbered 2 facts

abbrev pub opening_entry : ℕ × Fact → Entry
opening_entry f = EditEntry 0 f.0 (Add f.1)

abbrev pub opening_entries : Opening → List Entry
opening_entries o = EditEntry 0 1 (Timing o.hardware) ∷ map opening_entry (opening_facts o.facts)

-- The kind of the feature that an ask is answered by.
abbrev pub bound_kind : ℕ
bound_kind = 11

-- Where each entry is legal, and what it leaves.

-- An edit.

abbrev pub is_live : ℕ → Setting → Bool
is_live number s = not (is_none (fact_numbered number s.facts))

abbrev pub can_edit : Edit → Setting → Bool
can_edit (Drop number) s = is_live number s
can_edit _ s = true

abbrev pub may_edit : Opening → State → ℕ → ℕ → Edit → Bool
may_edit o st session count edit =
    is_free o st session
    && count == count_of st + 1
    && can_edit edit (inputs_at o st (count_of st))

abbrev pub after_edit : Opening → State → Edit → State
after_edit o st edit =
    record st {
      edits = st.edits ++ edit ∷ [];
      rows = map (untouched_keys o st edit) st.rows;
    }

-- A refused edit, and a list of the live facts.

abbrev pub may_refuse : Opening → State → ℕ → ℕ → ℕ → Bool
may_refuse o st session number at =
    is_free o st session
    && at == count_of st
    && not (is_live number (inputs_at o st (count_of st)))

abbrev pub may_list : Opening → State → ℕ → ℕ → Bool
may_list o st session at =
    is_free o st session
    && at == count_of st

-- A pin opens an ask.

abbrev pub may_pin : Opening → State → ℕ → ℕ → Bool
may_pin o st session at =
    is_free o st session
    && at == count_of st

abbrev pub new_ask : List ℕ → ℕ → Ask
new_ask name at = record { name = name; at = at; kinds = []; memory = false }

abbrev pub after_pin : State → ℕ → List ℕ → State
after_pin st session name = record st { asks = with_ask session (Some (new_ask name (count_of st))) st.asks }

-- A start: of the ask's own name and stamp, while no run of the ask is out and none of them found no memory. The kind
-- and the bound are out of reach, and each kind before it in the registry's order is within reach. No run of the key
-- is out.

abbrev pub before : ℕ → List ℕ → List ℕ
before kind kinds = before_first (λ k. k == kind) kinds

abbrev pub may_start : Opening → State → ℕ → Key → Ask → Bool
may_start o st session key ask =
    same_name ask.name key.name
    && is_none (own_run session st.out)
    && not ask.memory
    && key.stamp == stamp_at o st key.kind ask.at
    && not (within_reach o st ask key.kind)
    && not (within_reach o st ask bound_kind)
    && has_kind key.kind (order_of o.kinds)
    && list_all (within_reach o st ask) (before key.kind (order_of o.kinds))
    && not (is_out key st.out)

-- The ask takes each kind whose key is in the store. The last work in the kind's list goes out with the run.
abbrev pub taken : Opening → State → Ask → List ℕ
taken o st ask = filter (is_stored o st ask) (order_of o.kinds)

abbrev pub after_start : Opening → State → ℕ → Key → Ask → ℕ → State
after_start o st session key ask runs =
    record st {
      home = with_home key.kind (all_but_last (home_of key.kind st.home)) st.home;
      out = st.out ++ record { session = session; key = key; runs = runs } ∷ [];
      asks = with_ask session (Some (record ask { kinds = ask.kinds ++ taken o st ask })) st.asks;
    }

abbrev pub start_step : Opening → State → ℕ → Key → Ask → Option State
start_step o st session key ask =
    if may_start o st session key ask
    then option_map (after_start o st session key ask) (last_of (home_of key.kind st.home))
    else None

-- A finish of the ask's run that is out. A value is kept exactly where no edit since the ask's count touched its
-- closure.

abbrev pub right_end : End → Bool → Bool
right_end Kept current = current
right_end Dropped current = not current
right_end Memory current = true

abbrev pub may_finish : Opening → State → Key → End → Run → Bool
may_finish o st key end run =
    same_key run.key key
    && right_end end (key.stamp == stamp_at o st key.kind (count_of st))

abbrev pub rows_after : End → Key → List Row → List Row
rows_after Kept key rows = stored key rows
rows_after _ key rows = rows

abbrev pub ask_after : End → ℕ → Ask → Ask
ask_after Memory kind ask = record ask { memory = true }
ask_after _ kind ask = record ask { kinds = ask.kinds ++ kind ∷ [] }

-- The work goes to the end of the kind's list with one run more.
abbrev pub after_finish : State → ℕ → Key → End → Ask → Run → State
after_finish st session key end ask run =
    record st {
      rows = rows_after end key st.rows;
      home = with_home key.kind (home_of key.kind st.home ++ (run.runs + 1) ∷ []) st.home;
      out = without_own session st.out;
      asks = with_ask session (Some (ask_after end key.kind ask)) st.asks;
    }

abbrev pub finish_step : Opening → State → ℕ → Key → End → Ask → Run → Option State
finish_step o st session key end ask run =
    if may_finish o st key end run then Some (after_finish st session key end ask run) else None

-- An answer is want of memory exactly where a run of the ask found none. Else the bound is within reach.

abbrev pub is_memory : Outcome → Bool
is_memory NoMemory = true
is_memory _ = false

abbrev pub right_outcome : Opening → State → Ask → Outcome → Bool
right_outcome o st ask outcome =
    if ask.memory
    then is_memory outcome
    else not (is_memory outcome) && within_reach o st ask bound_kind

abbrev pub may_answer : Opening → State → ℕ → List ℕ → ℕ → Outcome → Ask → Bool
may_answer o st session name at outcome ask =
    same_name ask.name name
    && ask.at == at
    && is_none (own_run session st.out)
    && right_outcome o st ask outcome

abbrev pub after_answer : State → ℕ → State
after_answer st session = record st { asks = with_ask session None st.asks }

abbrev pub answer_step : Opening → State → ℕ → List ℕ → ℕ → Outcome → Ask → Option State
answer_step o st session name at outcome ask =
    if may_answer o st session name at outcome ask then Some (after_answer st session) else None

-- The replay.

abbrev pub allow : Bool → State → Option State
allow legal st = if legal then Some st else None

abbrev pub for_ask : Opening → State → ℕ → (Ask → Option State) → Option State
for_ask o st session next = option_and_then next (open_ask o st session)

abbrev pub for_run : State → ℕ → (Run → Option State) → Option State
for_run st session next = option_and_then next (own_run session st.out)

abbrev pub key_with : ℕ → List ℕ → ℕ → Key
key_with kind name stamp = record { kind = kind; name = name; stamp = stamp }

abbrev pub step : Opening → State → Entry → Option State
step o st (EditEntry session count edit) = allow (may_edit o st session count edit) (after_edit o st edit)
step o st (NoFact session number at) = allow (may_refuse o st session number at) st
step o st (Pin session name at) = allow (may_pin o st session at) (after_pin st session name)
step o st (Start session kind name stamp) = for_ask o st session (start_step o st session (key_with kind name stamp))
step o st (Finish session kind name stamp end) =
    for_ask o st session (λ ask. for_run st session (finish_step o st session (key_with kind name stamp) end ask))
step o st (Answer session name at outcome) = for_ask o st session (answer_step o st session name at outcome)
step o st (ListEntry session at) = allow (may_list o st session at) st

-- The state after some entries, or nothing where one of them isn't legal.
abbrev pub stepped : Opening → Option State → Entry → Option State
stepped o st e = option_and_then (λ s. step o s e) st

abbrev pub replay : Opening → Option State → List Entry → Option State
replay o st [] = st
replay o st (e ∷ es) = replay o (stepped o st e) es

-- The state after a history, whose first entries are the opening ones.
abbrev pub opened : Opening → ℕ
opened o = length o.facts + 1

abbrev pub state_after : Opening → List Entry → Option State
state_after o history = replay o (Some (start o)) (drop (opened o) history)

-- The outcomes. A chain says which outcomes a name may have on some inputs.
abbrev pub Chain : Type 1
Chain = Setting → List ℕ → Outcome → Type 0

abbrev pub IsOutcome : Chain → Setting → List ℕ → Outcome → Type 0
IsOutcome chain inputs name NoMemory = Unit {0}
IsOutcome chain inputs name outcome = chain inputs name outcome

abbrev pub IsRight : Chain → Image → List Edit → Entry → Type 0
IsRight chain image edits (Answer session name at outcome) = IsOutcome chain (after_edits image at edits) name outcome
IsRight chain image edits _ = Unit {0}

-- `edits` are those before the entries.
abbrev pub EachRight : Chain → Image → List Edit → List Entry → Type 0
EachRight chain image edits [] = Unit {0}
EachRight chain image edits (e ∷ es) = IsRight chain image edits e × EachRight chain image (edits ++ edit_of e) es

-- A legal history begins with the opening edits, goes on without a stop, and each of its answers is the chain's on the
-- inputs at its count.
pub record IsLegal (chain : Chain) (o : Opening) (history : List Entry) : Type 0 where
  pub begins : take (opened o) history ≡ opening_entries o
  pub goes_on : IsSome (state_after o history)
  pub answers : EachRight chain o.image [] history
