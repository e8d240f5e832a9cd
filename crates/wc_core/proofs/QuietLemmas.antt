-- A refused edit, a list and a pin: they leave the store and the works alone.
use Rattle.std.proofs.Common.{◌≡◌, ◌≢◌, ℕ, zero, suc, ◌+◌, ◌*◌, ◌<◌, ◌≤◌, ◌==◌, ◌⊎◌, Bool, true, false, inl, inr, ⊎_elim, List, [], ◌∷◌, ◌++◌, length, map, Option, None, Some, is_some, refl, sym, ap, subst, ◌∙◌, arith, if◌then◌else◌}
use Rattle.std.specs.Global.{Global}
use Rattle.std.specs.List.{All, slice_index_or}
use Rattle.std.specs.declared.sync.Arc.{Arc}
use Rattle.std.proofs.lemmas.Bool.{cases_Bool, eq-eqb, eqb-true, false≢true}
use Rattle.std.proofs.lemmas.List.{append-nil}
use Rattle.wc_base.proofs.TestLemmas.{if_true}
use Rattle.wc_model.specs.declared.entries.Entry.{Entry}
use Rattle.wc_model.specs.declared.entries.Entry.TheVariants.{NoFact, Pin, List as ListEntry}
use Rattle.wc_model.specs.Workspace.Closures.{has_kind, order_of}
use Rattle.wc_model.specs.Workspace.Edits.{Setting}
use Rattle.wc_model.specs.Workspace.History.{Chain, after_pin, is_live, new_ask}
use Rattle.wc_model.specs.Workspace.States.{Opening, State, Ask, ask_at, count_of, is_session, own_run, with_ask}
use Rattle.wc_model.proofs.Sharing.{LeavesOthers, asked_other, asked_same, length-with_ask}
use Rattle.wc_core.specs.Answers.{Advances, LeavesFree, inputs_now}
use Rattle.wc_core.specs.Features.{arc_at, value_at, value_of}
use Rattle.wc_core.specs.Fits.{Feature, FitsTicket}
use Rattle.wc_core.specs.Inner.Lines.{Line}
use Rattle.wc_core.specs.Inner.Moves.{Had, Lines}
use Rattle.wc_core.specs.Inner.Seats.{KnownSeat, all_names, seat_at, with_seat}
use Rattle.wc_core.specs.Inner.Stocks.{AreCopied, AreLines, AreParts, AreSeated, HasKey, IsCore, IsSeated, IsTidy, RunIs, SeatIs, Stock, keys_at, names_needed}
use Rattle.wc_core.specs.Views.{Known, KnownTicket}
use Rattle.wc_core.proofs.CoreLemmas.{ArePinned, IsAtRest, Moves, core_count, core_free, core_inputs, core_pinned, has_later, keeps, known, moved, seat_later, session_within, works_later}
use Rattle.wc_core.proofs.SeatLemmas.{lacks_all, length-seats, names_with, seat_other, seat_same}
use Rattle.wc_core.proofs.StepLemmas.{step_list, step_nofact, step_pin}

-- What is at hand after an entry of a session that is free again.
pub record Goes {V : Type 0} (chain : Chain) (feature : Feature V) (o : Opening) (k : Known) (entries : List Entry) (session : ℕ) (d : Stock V) : Type 0 where
  pub core : IsCore chain feature o entries d
  pub advances : Advances chain feature k (known o entries) session
  pub free : LeavesFree o entries session

leaves_all : (session : ℕ) (st : State) → LeavesOthers session st st
leaves_all session st = record { asks = λ s other. refl; runs = λ s other. refl; more = []; edits = sym (append-nil st.edits) }

-- The state stays, and the history grows.
stays : {V : Type 0} (feature : Feature V) (o : Opening) (st : State) (long room : ℕ) (d : Stock V) → AreParts feature o st long d → long + 1 + d.owed ≤ room → AreParts feature o st (long + 1) (record d { room = room })
stays feature o st long room d parts within =
    record {
      inputs = record { inputs = parts.inputs.inputs; count = parts.inputs.count; keys = parts.inputs.keys };
      lines = parts.lines;
      tidy = parts.tidy;
      works = works_later o st st d.home d.out long refl refl parts.works;
      seated = parts.seated;
      owes = parts.owes;
      within = within;
      stored = parts.stored;
      counted = omega (arith, parts.counted);
    }

module _ {V : Type 0} (chain : Chain) (feature : Feature V) (o : Opening) (h : List Entry) (d : Stock V) (k : Known) (view : known o h ≡ k) (core : IsCore chain feature o h d) (session room : ℕ) (leaves : LeavesFree k.opening k.history session) (entries : List Entry) where
  pub goes_nofact : (number : ℕ) → is_live number (inputs_now k) ≡ false → entries ≡ h ++ NoFact session number d.count ∷ [] → length h + 1 + d.owed ≤ room → Goes chain feature o k entries session (record d { room = room })
  goes_nofact number dead entries_are within =
      let rest = core_free chain feature o h d k view core session leaves in
      let gone = ap (is_live number) (sym core.parts.inputs.inputs ∙ core_inputs chain feature o h d k view core) ∙ dead in
      let m = moved chain feature o h d k view core entries (NoFact session number d.count) core.st (record d { room = room }) entries_are
      (step_nofact o core.st session number d.count rest.free core.parts.inputs.count gone) tt (sym (append-nil core.st.edits)) (leaves_all session core.st) (stays feature o core.st (length h) room d core.parts within) in
      record { core = m.core; advances = m.advances; free = record { st = core.st; state = m.state; free = rest.free } }

  pub goes_list : entries ≡ h ++ ListEntry session d.count ∷ [] → length h + 1 + d.owed ≤ room → Goes chain feature o k entries session (record d { room = room })
  goes_list entries_are within =
      let rest = core_free chain feature o h d k view core session leaves in
      let m = moved chain feature o h d k view core entries (ListEntry session d.count) core.st (record d { room = room }) entries_are
      (step_list o core.st session d.count rest.free core.parts.inputs.count) tt (sym (append-nil core.st.edits)) (leaves_all session core.st) (stays feature o core.st (length h) room d core.parts within) in
      record { core = m.core; advances = m.advances; free = record { st = core.st; state = m.state; free = rest.free } }

-- A pin.

copied_pin : {V : Type 0} (o : Opening) (session : ℕ) (st new : State) (lines : Lines V) → LeavesOthers session st new → ArePinned o st → ask_at session st.asks ≡ None → AreCopied o st lines → AreCopied o new lines
copied_pin o session st new lines leaves pinned nothing copied n k s y is stored =
    ⊎_elim (λ found. inl found) (λ (has : HasKey o st n k s y). inr (later has (y == session) refl)) (copied n k s y is stored) where
      later : HasKey o st n k s y → (same : Bool) → (y == session) ≡ same → HasKey o new n k s y
      later has true same = let both = sym nothing ∙ ap (λ x. ask_at x st.asks) (sym (eqb-true y session same)) ∙ has.asked in cc
      later has false same = has_later o session st new n k s y leaves pinned is (λ (at : y ≡ session). false≢true (sym same ∙ eq-eqb y session at)) has

pub record IsNewSeat (name : List ℕ) (keys : List (ℕ × ℕ)) (seat : KnownSeat) : Type 0 where
  pub keys_are : seat.keys ≡ keys
  pub names_are : All (λ n. n ≡ name) seat.names
  pub counted : length seat.names ≡ 23

abbrev pub new_ticket : {V : Type 0} → ℕ → List ℕ → ℕ → Setting → Had V → KnownTicket V
new_ticket session name at inputs had = record { session = session; name = name; at = at; inputs = inputs; had = had; memory = false }

pub record Pins {V : Type 0} (chain : Chain) (feature : Feature V) (o : Opening) (k : Known) (entries : List Entry) (session : ℕ) (d : Stock V) (t : KnownTicket V) : Type 0 where
  pub core : IsCore chain feature o entries d
  pub advances : Advances chain feature k (known o entries) session
  pub fits : FitsTicket feature o entries t

free_seat : (o : Opening) (st : State) (session : ℕ) (asked : Option Ask) (seat : KnownSeat) → asked ≡ None → SeatIs o st session asked seat → (own_run session st.out ≡ None) × (seat.names ≡ [])
free_seat o st session None seat is seated = seated
free_seat o st session (Some ask) seat is seated = cc

module _ {V : Type 0} (chain : Chain) (feature : Feature V) (o : Opening) (h : List Entry) (d : Stock V) (core : IsCore chain feature o h d) (session room spare : ℕ) (name : List ℕ) (seat : KnownSeat) (is_new : IsNewSeat name d.keys seat) (rest : IsAtRest o core.st session) where
  abbrev new : State
  new = after_pin core.st session name

  abbrev ask : Ask
  ask = new_ask name (count_of core.st)

  abbrev pinned_stock : Stock V
  pinned_stock = record d { seats = with_seat session seat d.seats; owed = d.owed + 23; spare = spare; room = room }

  leaves_pin : LeavesOthers session core.st new
  leaves_pin = record { asks = λ s other. asked_other s session (Some ask) core.st.asks other; runs = λ s other. refl; more = []; edits = sym (append-nil core.st.edits) }

  place_asks : session < length core.st.asks
  place_asks = omega (arith, (session_within o session rest.known_is).1, core.parts.seated.asks)

  place_seats : session < length d.seats
  place_seats = omega (arith, (session_within o session rest.known_is).1, core.parts.seated.seats)

  was : (own_run session core.st.out ≡ None) × ((seat_at session d.seats).names ≡ [])
  was = free_seat o core.st session (ask_at session core.st.asks) (seat_at session d.seats) rest.nothing (core.parts.seated.each session rest.known_is)

  new_seat : IsSeated o new session ask seat
  new_seat =
      record {
        keys = is_new.keys_are ∙ core.parts.inputs.keys;
        names = is_new.names_are;
        pinned = omega arith;
        run = subst (λ r. RunIs o new ask seat r) (sym was.0) (omega (arith, is_new.counted, lacks_all (order_of o.kinds), core.runs.few));
      }

  seats_pin : (s : ℕ) → is_session o s ≡ true → SeatIs o new s (ask_at s new.asks) (seat_at s (with_seat session seat d.seats))
  seats_pin s is = by (s == session) refl where
    by : (same : Bool) → (s == session) ≡ same → SeatIs o new s (ask_at s new.asks) (seat_at s (with_seat session seat d.seats))
    by true same =
        let at : s ≡ session = eqb-true s session same in
        let S : ℕ → Type 0 = λ x. SeatIs o new x (ask_at x new.asks) (seat_at x (with_seat session seat d.seats)) in
        let A : Option Ask → Type 0 = λ a. SeatIs o new session a (seat_at session (with_seat session seat d.seats)) in
        let B : KnownSeat → Type 0 = λ x. SeatIs o new session (Some ask) x in
        subst S (sym at) (subst A (sym (asked_same session (Some ask) core.st.asks place_asks)) (subst B (sym (seat_same session seat d.seats place_seats)) new_seat))
    by false apart =
        let other : (s ≢ session) = λ (at : s ≡ session). false≢true (sym apart ∙ eq-eqb s session at) in
        subst (λ x. SeatIs o new s (ask_at s new.asks) x) (sym (seat_other s session seat d.seats other)) (seat_later o session s core.st new (seat_at s d.seats) leaves_pin other (core.parts.seated.each s is))

  pub pinned_parts : ArePinned o core.st → length h + 1 + (d.owed + 23) ≤ room → d.owed + 23 ≤ spare → AreParts feature o new (length h + 1) pinned_stock
  pinned_parts pinned within stored =
      let parts = core.parts in
      record {
        inputs = record { inputs = parts.inputs.inputs; count = parts.inputs.count; keys = parts.inputs.keys };
        lines = record { rows = parts.lines.rows; apart = parts.lines.apart; shaped = parts.lines.shaped; copied = copied_pin o session core.st new d.lines leaves_pin pinned rest.nothing parts.lines.copied; right = parts.lines.right };
        tidy = record { current = parts.tidy.current; listed = parts.tidy.listed; single = parts.tidy.single; once = parts.tidy.once; fresh = parts.tidy.fresh; alone = parts.tidy.alone };
        works = works_later o core.st new d.home d.out (length h) refl refl parts.works;
        seated = record { asks = length-with_ask session (Some ask) core.st.asks ∙ parts.seated.asks; seats = length-seats session seat d.seats ∙ parts.seated.seats; each = seats_pin };
        owes = omega (arith, parts.owes, names_with session seat d.seats place_seats, ap length was.1, is_new.counted);
        within = within;
        stored = stored;
        counted = omega (arith, parts.counted);
      }

none_had : {V : Type 0} (had : Had V) (kind : ℕ) → arc_at kind had ≡ None → false ≡ is_some (arc_at kind had)
none_had had kind is = sym (ap is_some is)

pub goes_pin : {V : Type 0} (chain : Chain) (feature : Feature V) (o : Opening) (h : List Entry) (d : Stock V) (k : Known) (entries : List Entry) (session room spare : ℕ) (name kept : List ℕ) (pinned : Setting) (had : Had V) (seat : KnownSeat)
    → known o h ≡ k → IsCore chain feature o h d → LeavesFree k.opening k.history session
    → entries ≡ h ++ Pin session name d.count ∷ []
    → length h + 1 + (d.owed + 23) ≤ room → d.owed + 23 ≤ spare
    → IsNewSeat name d.keys seat → kept ≡ name → pinned ≡ d.inputs → ((kind : ℕ) → arc_at kind had ≡ None)
    → Pins chain feature o k entries session (record d { seats = with_seat session seat d.seats; owed = d.owed + 23; spare = spare; room = room }) (new_ticket session kept d.count pinned had)
goes_pin {V} chain feature o h d k entries session room spare name kept pinned had seat view core leaves entries_are within stored is_new kept_is pinned_is nothing =
    let rest = core_free chain feature o h d k view core session leaves in
    let st' : State = after_pin core.st session name in
    let d' : Stock V = record d { seats = with_seat session seat d.seats; owed = d.owed + 23; spare = spare; room = room } in
    let m = moved chain feature o h d k view core entries (Pin session name d.count) st' d' entries_are
    (step_pin o core.st session name d.count rest.free core.parts.inputs.count) tt (sym (append-nil core.st.edits)) (leaves_pin chain feature o h d core session room spare name seat is_new rest)
    (pinned_parts chain feature o h d core session room spare name seat is_new rest (core_pinned chain feature o h d k view core) within stored) in
    let N : List ℕ → Type 0 = λ n. Pins chain feature o k entries session d' (new_ticket session n d.count pinned had) in
    let I : Setting → Type 0 = λ i. Pins chain feature o k entries session d' (new_ticket session name d.count i had) in
    let A : ℕ → Type 0 = λ at. Pins chain feature o k entries session d' (new_ticket session name at d.inputs had) in
    subst N (sym kept_is) (subst I (sym pinned_is) (subst A (sym core.parts.inputs.count) (record {
      core = m.core;
      advances = m.advances;
      fits = record {
        st = st';
        state = m.state;
        is_open = record {
          kinds = [];
          same = λ kind. none_had had kind (nothing kind);
          ask = if_true (is_session o session) (ask_at session st'.asks) None rest.known_is ∙ asked_same session (Some (new_ask name (count_of core.st))) core.st.asks (place_asks chain feature o h d core session room spare name seat is_new rest);
          inputs = core.parts.inputs.inputs;
          features = λ kind a at. let both = sym (nothing kind) ∙ at in cc;
        };
        rests = (was chain feature o h d core session room spare name seat is_new rest).0;
      };
    })))

none_case : {A : Type 0} (had : List (Option A)) (kind : ℕ) → ((n : ℕ) (c : Option A) → n < length had → slice_index_or had n c ≡ None) → slice_index_or had kind None ≡ None
none_case [] kind all = refl
none_case (c ∷ cs) zero all = all 0 None (omega arith)
none_case (c ∷ cs) (suc n) all = none_case cs n (λ m x less. all (suc m) x (omega (arith, less)))

-- what holds nothing has nothing of any kind
pub none_at : {A : Type 0} (had : List (Option A)) → All (λ c. c ≡ None) had → (kind : ℕ) → slice_index_or had kind None ≡ None
none_at had all kind = none_case had kind all
