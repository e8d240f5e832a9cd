-- How the core's invariant goes on with each entry.
use Rattle.std.proofs.Common.{◌≡◌, ◌≢◌, ℕ, ◌+◌, ◌≤◌, ◌<◌, ◌&&◌, Bool, true, false, List, [], ◌∷◌, ◌++◌, length, map, Option, None, Some, IfSome, is_none, nat_le, refl, sym, ap, subst, ◌∙◌, arith, length-append, if◌then◌else◌}
use Rattle.std.specs.Global.{Global}
use Rattle.std.specs.List.{All}
use Rattle.std.specs.declared.sync.Arc.{Arc}
use Rattle.std.proofs.lemmas.Bool.{and_parts, leb-true}
use Rattle.std.proofs.lemmas.List.{append-nil}
use Rattle.std.proofs.lemmas.List.Elements.{All-weaker}
use Rattle.std.proofs.Math.Seq.{take-length}
use Rattle.wc_base.proofs.TestLemmas.{if_some}
use Rattle.wc_model.specs.declared.entries.Entry.{Entry}
use Rattle.wc_model.specs.Workspace.Closures.{order_of}
use Rattle.wc_model.specs.Workspace.Edits.{after_edits, edit_of, edits_of}
use Rattle.wc_model.specs.Workspace.Entries.{session_of}
use Rattle.wc_model.specs.Workspace.History.{Chain, IsLegal, IsRight, state_after, step}
use Rattle.wc_model.specs.Workspace.States.{Opening, State, Run, Ask, ask_at, count_of, home_of, is_free, is_session, own_run, stamp_at}
use Rattle.wc_model.proofs.Replays.{Kept, kept_is_legal, kept_snoc}
use Rattle.wc_model.proofs.Sharing.{LeavesOthers, inputs_later, open_other, stamp_later}
use Rattle.wc_model.proofs.StepLemmas.{some_same}
use Rattle.wc_core.specs.Answers.{Advances, KeepsOthers, LeavesFree, edit_count, inputs_now}
use Rattle.wc_core.specs.Fits.{Feature, FitsFlight, FitsLanded, FitsTicket, IsOpen}
use Rattle.wc_core.specs.Inner.Lines.{Line}
use Rattle.wc_core.specs.Inner.Seats.{KnownSeat, seat_at}
use Rattle.wc_core.specs.Inner.Stocks.{AreCopied, AreParts, AreSeated, AreWorks, HasKey, IsCore, IsOut, IsSeated, RunIs, SeatIs, Stock, keys_at, lacking, names_needed}
use Rattle.wc_core.specs.Views.{Known, KnownFlight, KnownLanded, KnownTicket, ask_with}

abbrev pub known : Opening → List Entry → Known
known o h = record { opening = o; history = h }

pub session_within : (o : Opening) (session : ℕ) → is_session o session ≡ true → (1 ≤ session) × (session ≤ o.sessions)
session_within o session is = let both = and_parts (nat_le 1 session) (nat_le session o.sessions) is in (leb-true 1 session both.0, leb-true session o.sessions both.1)

-- Each open ask was pinned at a count that was reached.
abbrev pub ArePinned : Opening → State → Type 0
ArePinned o st = (session : ℕ) (ask : Ask) → is_session o session ≡ true → ask_at session st.asks ≡ Some ask → ask.at ≤ length st.edits

pinned_case : (o : Opening) (st : State) (session : ℕ) (asked : Option Ask) (seat : KnownSeat) (ask : Ask) → SeatIs o st session asked seat → asked ≡ Some ask → ask.at ≤ length st.edits
pinned_case o st session None seat ask is same = cc
pinned_case o st session (Some a) seat ask is same = let at : a ≡ ask = some_same a ask same in subst (λ (x : Ask). x.at ≤ length st.edits) at is.pinned

pub are_pinned : (o : Opening) (st : State) (seats : List KnownSeat) → AreSeated o st seats → ArePinned o st
are_pinned o st seats seated session ask is asked = pinned_case o st session (ask_at session st.asks) (seat_at session seats) ask (seated.each session is) asked

-- What other sessions hold.
module _ {V : Type 0} (feature : Feature V) (o : Opening) (session : ℕ) (st new : State) (leaves : LeavesOthers session st new) (pinned : ArePinned o st) where
  open_later : (t : KnownTicket V) → t.session ≢ session → IsOpen feature o st t → IsOpen feature o new t
  open_later t other is =
      let asked = if_some (is_session o t.session) (ask_at t.session st.asks) (ask_with t is.kinds) is.ask in
      record {
        kinds = is.kinds;
        same = is.same;
        ask = open_other o session t.session st new leaves other ∙ is.ask;
        inputs = is.inputs ∙ inputs_later o session t.at st new leaves (pinned t.session (ask_with t is.kinds) asked.0 asked.1);
        features = is.features;
      }

  open_from : (x : State) (t : KnownTicket V) → x ≡ st → t.session ≢ session → IsOpen feature o x t → IsOpen feature o new t
  open_from x t same other is = let I : State → Type 0 = λ y. IsOpen feature o y t in open_later t other (subst I same is)

  run_from : (x : State) (s : ℕ) (run : Option Run) → x ≡ st → s ≢ session → own_run s x.out ≡ run → own_run s new.out ≡ run
  run_from x s run same other is = leaves.runs s other ∙ ap (λ (y : State). own_run s y.out) (sym same) ∙ is

  free_later : (s : ℕ) → s ≢ session → is_free o st s ≡ true → is_free o new s ≡ true
  free_later s other free = ap (λ a. is_session o s && is_none a) (leaves.asks s other) ∙ free

  pub keeps : (h h' : List Entry) → state_after o h ≡ Some st → state_after o h' ≡ Some new → KeepsOthers feature (known o h) (known o h') session
  keeps h h' state later =
      record {
        free = λ s other f.
            let F : State → Type 0 = λ x. is_free o x s ≡ true in
            record { st = new; state = later; free = free_later s other (subst F (some_same f.st st (sym f.state ∙ state)) f.free) };
        tickets = λ t other f.
            let same : f.st ≡ st = some_same f.st st (sym f.state ∙ state) in
            record { st = new; state = later; is_open = open_from f.st t same other f.is_open; rests = run_from f.st t.session None same other f.rests };
        flights = λ f other fits.
            let same : fits.st ≡ st = some_same fits.st st (sym fits.state ∙ state) in
            record { st = new; state = later; is_open = open_from fits.st f.ticket same other fits.is_open; flies = run_from fits.st f.ticket.session _ same other fits.flies; sessions = fits.sessions };
        landed = λ l other fits.
            let same : fits.st ≡ st = some_same fits.st st (sym fits.state ∙ state) in
            record {
              st = new;
              state = later;
              runs = fits.runs;
              ran = fits.ran;
              is_open = open_from fits.st l.ticket same other fits.is_open;
              flies = run_from fits.st l.ticket.session _ same other fits.flies;
              sessions = fits.sessions;
              gave = fits.gave;
            };
      }

-- Where nothing was added.
pub keeps_same : {V : Type 0} (feature : Feature V) (old new : Known) (session : ℕ) → new ≡ old → KeepsOthers feature old new session
keeps_same feature old new session same =
    let K : Known → Type 0 = λ k. KeepsOthers feature old k session in
    subst K (sym same) (record { free = λ s other f. f; tickets = λ t other f. f; flights = λ f other g. g; landed = λ l other f. f })

-- The stamps of an open ask stay.
pub keys_later : (o : Opening) (session at : ℕ) (st new : State) (kinds : List ℕ) → LeavesOthers session st new → at ≤ length st.edits → keys_at o st at kinds ≡ keys_at o new at kinds
keys_later o session at st new [] leaves within = refl
keys_later o session at st new (k ∷ ks) leaves within = ap (λ s. (k, s) ∷ keys_at o st at ks) (stamp_later o session k at st new leaves within) ∙ ap (λ keys. (k, stamp_at o new k at) ∷ keys) (keys_later o session at st new ks leaves within)

-- The seats of other sessions stay.
run_later : (o : Opening) (session : ℕ) (st new : State) (ask : Ask) (seat : KnownSeat) (run : Option Run) → LeavesOthers session st new → ask.at ≤ length st.edits → RunIs o st ask seat run → RunIs o new ask seat run
run_later o session st new ask seat None leaves within is = is
run_later o session st new ask seat (Some run) leaves within is =
    record { name_is = is.name_is; own = is.own ∙ stamp_later o session run.key.kind ask.at st new leaves within; listed = is.listed; lacks = is.lacks; quiet = is.quiet; room = is.room }

longer : (session : ℕ) (st new : State) → LeavesOthers session st new → length st.edits ≤ length new.edits
longer session st new leaves = let long = ap length leaves.edits ∙ length-append st.edits leaves.more in omega (arith, long)

seat_case : (o : Opening) (session s : ℕ) (st new : State) (asked : Option Ask) (seat : KnownSeat) → LeavesOthers session st new → s ≢ session → SeatIs o st s asked seat → SeatIs o new s asked seat
seat_case o session s st new None seat leaves other is = (leaves.runs s other ∙ is.0, is.1)
seat_case o session s st new (Some ask) seat leaves other is =
    record {
      keys = is.keys ∙ keys_later o session ask.at st new (order_of o.kinds) leaves is.pinned;
      names = is.names;
      pinned = omega (arith, is.pinned, longer session st new leaves);
      run = subst (λ r. RunIs o new ask seat r) (sym (leaves.runs s other)) (run_later o session st new ask seat (own_run s st.out) leaves is.pinned is.run);
    }

pub seat_later : (o : Opening) (session s : ℕ) (st new : State) (seat : KnownSeat) → LeavesOthers session st new → s ≢ session → SeatIs o st s (ask_at s st.asks) seat → SeatIs o new s (ask_at s new.asks) seat
seat_later o session s st new seat leaves other is = subst (λ a. SeatIs o new s a seat) (sym (leaves.asks s other)) (seat_case o session s st new (ask_at s st.asks) seat leaves other is)

-- What an open ask of another session has it has still.
pub has_later : (o : Opening) (session : ℕ) (st new : State) (name : List ℕ) (kind stamp y : ℕ) → LeavesOthers session st new → ArePinned o st → is_session o y ≡ true → y ≢ session → HasKey o st name kind stamp y → HasKey o new name kind stamp y
has_later o session st new name kind stamp y leaves pinned is other has =
    record {
      ask = has.ask;
      asked = leaves.asks y other ∙ has.asked;
      name_is = has.name_is;
      has = has.has;
      own = sym (stamp_later o session kind has.ask.at st new leaves (pinned y has.ask is has.asked)) ∙ has.own;
    }

-- The works stay as the history grows.
pub works_later : (o : Opening) (st new : State) (home : List (ℕ × ℕ)) (out : List Run) (long : ℕ) → new.home ≡ st.home → new.out ≡ st.out → AreWorks o st home out long → AreWorks o new home out (long + 1)
works_later o st new home out long same_home same_out is =
    record {
      listed = ap (λ h. map (λ w. w.0) h) same_home ∙ is.listed;
      home_is = λ kind. ap (home_of kind) same_home ∙ is.home_is kind;
      out_is = same_out ∙ is.out_is;
      few_home = All-weaker (λ (w : ℕ × ℕ). w.1 ≤ long) (λ (w : ℕ × ℕ). w.1 ≤ long + 1) (λ w le. omega (arith, le)) home is.few_home;
      few_out = All-weaker (λ (r : Run). r.runs < long) (λ (r : Run). r.runs < long + 1) (λ r le. omega (arith, le)) out is.few_out;
    }

-- A session that is free.
pub record IsAtRest (o : Opening) (st : State) (session : ℕ) : Type 0 where
  pub free : is_free o st session ≡ true
  pub known_is : is_session o session ≡ true
  pub nothing : ask_at session st.asks ≡ None

none_is : (ask : Option Ask) → is_none ask ≡ true → ask ≡ None
none_is None is = refl
none_is (Some ask) is = cc

-- An entry.
pub record Moves {V : Type 0} (chain : Chain) (feature : Feature V) (o : Opening) (k : Known) (entries : List Entry) (session : ℕ) (new : State) (d : Stock V) : Type 0 where
  pub core : IsCore chain feature o entries d
  pub state : state_after o entries ≡ Some new
  pub advances : Advances chain feature k (known o entries) session

module _ {V : Type 0} (chain : Chain) (feature : Feature V) (o : Opening) (h : List Entry) (d : Stock V) (k : Known) (view : known o h ≡ k) (core : IsCore chain feature o h d) where
  pub core_legal : IsLegal chain k.opening k.history
  core_legal = let L : Known → Type 0 = λ v. IsLegal chain v.opening v.history in subst L view (kept_is_legal chain o h core.st core.kept)

  pub core_pinned : ArePinned o core.st
  core_pinned = are_pinned o core.st d.seats core.parts.seated

  pub moved : (entries : List Entry) (e : Entry) (new : State) (d' : Stock V)
      → entries ≡ h ++ e ∷ [] → step o core.st e ≡ Some new → IsRight chain o.image (edits_of h) e → new.edits ≡ core.st.edits ++ edit_of e → LeavesOthers (session_of e) core.st new
      → AreParts feature o new (length h + 1) d' → Moves chain feature o k entries (session_of e) new d'
  moved entries e new d' entries_are next right edits leaves parts =
      let kept = kept_snoc chain o h core.st new e core.kept next right edits in
      let long : length (h ++ e ∷ []) ≡ length h + 1 = length-append h (e ∷ []) in
      let P : ℕ → Type 0 = λ n. AreParts feature o new n d' in
      let K : Known → Type 0 = λ x. Moves chain feature o x (h ++ e ∷ []) (session_of e) new d' in
      let E : List Entry → Type 0 = λ l. Moves chain feature o k l (session_of e) new d' in
      subst E (sym entries_are) (subst K view (record {
        core = record { st = new; kept = kept; runs = core.runs; parts = subst P (sym long) parts };
        state = kept.state;
        advances = record {
          opening = refl;
          legal = kept_is_legal chain o (h ++ e ∷ []) new kept;
          others = keeps feature o (session_of e) core.st new leaves core_pinned h (h ++ e ∷ []) core.kept.state kept.state;
        };
      }))

  -- the current inputs and count
  pub core_inputs : d.inputs ≡ inputs_now k
  core_inputs = core.parts.inputs.inputs ∙ ap (λ es. after_edits o.image (length es) es) core.kept.edits ∙ ap inputs_now view

  pub core_count : d.count ≡ edit_count k
  core_count = core.parts.inputs.count ∙ ap length core.kept.edits ∙ ap edit_count view

  pub core_free : (session : ℕ) → LeavesFree k.opening k.history session → IsAtRest o core.st session
  core_free session leaves =
      let L : Known → Type 0 = λ v. LeavesFree v.opening v.history session in
      let own = subst L (sym view) leaves in
      let F : State → Type 0 = λ x. is_free o x session ≡ true in
      let free = subst F (some_same _ core.st (sym own.state ∙ core.kept.state)) own.free in
      let both = and_parts (is_session o session) (is_none (ask_at session core.st.asks)) free in
      record { free = free; known_is = both.0; nothing = none_is (ask_at session core.st.asks) both.1 }
