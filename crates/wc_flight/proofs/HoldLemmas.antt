-- One hold: the pass meets the history, the core adds an entry, and the entry is published.
use Rattle.std.proofs.Common.{◌≡◌, ℕ, ◌+◌, ◌<◌, ◌≤◌, ◌||◌, Bool, true, false, List, [], ◌∷◌, ◌++◌, length, Option, None, Some, is_none, refl, sym, ap, ap₂, subst, ◌∙◌, arith, append_assoc, length-append, eq-eqb, if◌then◌else◌}
use Rattle.std.proofs.lemmas.List.{append-nil}
use Rattle.std.proofs.lemmas.List.Elements.{All-nil, filter-append}
use Rattle.atomic_table.specs.Seated.{TableId}
use Rattle.wc_model.specs.declared.entries.Asked.{Asked}
use Rattle.wc_model.specs.declared.entries.End.{End}
use Rattle.wc_model.specs.declared.entries.Entry.{Entry}
use Rattle.wc_model.specs.declared.entries.Entry.TheVariants.{Edit as EditEntry, NoFact, Pin, Start, Finish, Answer, List as ListEntry}
use Rattle.wc_model.specs.declared.entries.Listing.{Listing}
use Rattle.wc_model.specs.declared.inputs.Edit.{Edit}
use Rattle.wc_model.specs.Workspace.Closures.{order_of}
use Rattle.wc_model.specs.Workspace.Edits.{Setting, after, after_edits, edit_of, edits_of}
use Rattle.wc_model.specs.Workspace.Entries.{entries_of, session_of}
use Rattle.wc_model.specs.Workspace.History.{Chain, IsLegal, bound_kind}
use Rattle.wc_model.specs.Workspace.States.{Opening, State, Ask, within_reach}
use Rattle.wc_model.proofs.Replays.{edits_of-append, edits_of-snoc}
use Rattle.wc_core.specs.declared.answers.Edited.{Edited}
use Rattle.wc_core.specs.declared.answers.Edited.TheVariants.{Done, NoFact as NotLive}
use Rattle.wc_core.specs.Answers as core
use Rattle.wc_core.specs.Answers.{LeavesFree}
use Rattle.wc_core.specs.Fits.{Feature, FitsFlight, FitsLanded, FitsTicket}
use Rattle.wc_core.specs.Turns.{OutcomeIs, answers, first_missing, next_turn, starts, turn_for}
use Rattle.wc_core.specs.Views.{Known, KnownFlight, KnownLanded, KnownTicket, ask_with}
use Rattle.wc_pass.specs.Known.{IsPrefix, Known as KnownPen, KnownPass}
use Rattle.wc_flight.specs.Calls.{EditIs, Gains, IsReady, IsRunOf, Lists, edits_seen, found_none}
use Rattle.wc_flight.specs.Inner.Holds.{Departs, Finishes, IsHeld, IsLocked, IsNew, IsUnderway, KeepsOwn, Lands, Waits}
use Rattle.wc_flight.proofs.OthersLemmas.{free_later, landed_later, ticket_later}

prefix_then : (a b c : List Entry) → IsPrefix a b → IsPrefix b c → IsPrefix a c
prefix_then a b c p q = (p.0 ++ q.0, q.1 ∙ ap (λ (z : List Entry). z ++ q.0) p.1 ∙ append_assoc a p.0 q.0)

pub gains_then : (a b c : KnownPass) (xs ys : List Entry) → Gains a b xs → Gains b c ys → Gains a c (xs ++ ys)
gains_then a b c xs ys first second =
    record {
      desk_stays = second.desk_stays ∙ first.desk_stays;
      session_stays = second.session_stays ∙ first.session_stays;
      before = prefix_then a.seen b.seen c.seen first.before second.before;
      entries =
          subst (λ s. entries_of s c.seen ≡ entries_of s b.seen ++ ys) first.session_stays second.entries
          ∙ ap (λ l. l ++ ys) first.entries
          ∙ append_assoc (entries_of a.session a.seen) xs ys;
    }

own_entry : (e : Entry) (s : ℕ) → session_of e ≡ s → entries_of s (e ∷ []) ≡ e ∷ []
own_entry e s by = ap (λ b. if b then e ∷ [] else []) (eq-eqb (session_of e) s by)

-- the pass sees one entry more, of its own session
pub gains_entry : (old new : KnownPass) (history : List Entry) (e : Entry) → history ≡ old.seen ++ e ∷ [] → session_of e ≡ old.session → new ≡ record old { seen = history } → Gains old new (e ∷ [])
gains_entry old new history e added by new_is =
    let G : KnownPass → Type 0 = λ p. Gains old p (e ∷ []) in
    subst G (sym new_is) (record {
      desk_stays = refl;
      session_stays = refl;
      before = (e ∷ [], added);
      entries = ap (entries_of old.session) added ∙ filter-append _ old.seen (e ∷ []) ∙ ap (λ l. entries_of old.session old.seen ++ l) (own_entry e old.session by);
    })

-- What a pass has seen is no more than the history that it begins.
pub seen_within : (old : KnownPass) (history : List Entry) → IsPrefix old.seen history → edits_seen old ≤ length (edits_of history)
seen_within old history before =
    let long : length (edits_of history) ≡ edits_seen old + length (edits_of before.0) =
    ap (λ es. length (edits_of es)) before.1 ∙ ap length (edits_of-append old.seen before.0) ∙ length-append (edits_of old.seen) (edits_of before.0) in
    omega (arith, long)

-- A ticket of which a run starts has met no want of memory.
calm_case : {V : Type 0} (o : Opening) (st : State) (t : KnownTicket V) (kinds : List ℕ) (kind : ℕ) (found : Bool) → t.memory ≡ found → next_turn o st (ask_with t kinds) ≡ starts kind → t.memory ≡ false
calm_case o st t kinds kind false is turn = is
calm_case o st t kinds kind true is turn =
    let ask : Ask = ask_with t kinds in
    let answer : next_turn o st ask ≡ answers =
    ap (λ b. if b || within_reach o st ask bound_kind then answers else turn_for o st ask (first_missing o st ask (order_of o.kinds))) is in
    absurd (let both = sym answer ∙ turn in cc)

starts_calm : {V : Type 0} (feature : Feature V) (before : Known) (t : KnownTicket V) (kind : ℕ) → FitsTicket feature before.opening before.history t → core.IsNext before t.session (starts kind) → t.memory ≡ false
starts_calm feature before t kind fits turn =
    calm_case before.opening fits.st t fits.is_open.kinds kind t.memory refl (turn fits.st (ask_with t fits.is_open.kinds) fits.state fits.is_open.ask)

-- A run that gave nothing found no memory.
none_end : {V : Type 0} (gave : Option V) (current : Bool) (end : End) (session kind : ℕ) (name : List ℕ) (stamp : ℕ) → end ≡ core.end_of gave current → is_none gave ≡ found_none (Finish session kind name stamp end)
none_end None current end session kind name stamp is = sym (ap (λ e. found_none (Finish session kind name stamp e)) is)
none_end (Some v) true end session kind name stamp is = sym (ap (λ e. found_none (Finish session kind name stamp e)) is)
none_end (Some v) false end session kind name stamp is = sym (ap (λ e. found_none (Finish session kind name stamp e)) is)

-- `old` met the history of a core as `mid`, the core went on, and the pass then saw what it added.
pub record HasMet (old mid : KnownPass) (before : Known) : Type 0 where
  pub gains : Gains old mid []
  pub seen : mid.seen ≡ before.history

pub record HasSeen (mid new : KnownPass) (history : List Entry) : Type 0 where
  pub new_is : new ≡ record mid { seen = history }

module _ (old mid new : KnownPass) (before grown : Known) (met : HasMet old mid before) (saw : HasSeen mid new grown.history) where
  pub one_entry : (e : ℕ → Entry) → ((s : ℕ) → session_of (e s) ≡ s) → (session : ℕ) → session ≡ mid.session → core.adds before grown (e session) → Gains old new (e old.session ∷ [])
  one_entry e by session own added =
      let gains = gains_entry mid new grown.history (e session) (added ∙ ap (λ l. l ++ e session ∷ []) (sym met.seen)) (by session ∙ own) saw.new_is in
      let s_is : session ≡ old.session = own ∙ met.gains.session_stays in
      subst (λ s. Gains old new (e s ∷ [])) s_is (gains_then old mid new [] (e session ∷ []) met.gains gains)

  pub no_older : edits_seen old ≤ core.edit_count before
  no_older = subst (λ h. edits_seen old ≤ length (edits_of h)) met.seen (seen_within old mid.seen met.gains.before)

  pub edit_told : (session : ℕ) (edit : Edit) (edited : Edited) → session ≡ mid.session → core.EditIs before grown session edit edited → EditIs old new edit edited
  edit_told session edit (Done count) own is =
      record { gains = one_entry (λ s. EditEntry s count edit) (λ s. refl) session own is.entry; fresh = let le = no_older in let next = is.counted in omega (arith, le, next) }
  edit_told session edit (NotLive at) own is =
      record {
        number = is.number;
        drops = is.drops;
        gains = one_entry (λ s. NoFact s is.number at) (λ s. refl) session own is.entry;
        fresh = let le = no_older in let here = is.here in omega (arith, le, here);
      }

  -- an entry that is no edit
  same_edits : (e : Entry) → edit_of e ≡ [] → core.adds before grown e → edits_of before.history ≡ edits_of new.seen
  same_edits e none added =
      sym (ap (λ (p : KnownPass). edits_of p.seen) saw.new_is ∙ ap edits_of added ∙ edits_of-snoc before.history e ∙ ap (λ l. edits_of before.history ++ l) none ∙ append-nil (edits_of before.history))

  pub list_told : (o : Opening) (session : ℕ) (listing : Listing) → before.opening ≡ o → session ≡ mid.session → core.IsListed before grown session listing → Lists o old new listing
  list_told o session listing opening own is =
      let at : core.inputs_now before ≡ after o.image listing.at new.seen =
      ap (λ (b : Opening). after_edits b.image (core.edit_count before) (edits_of before.history)) opening
      ∙ ap (λ n. after_edits o.image n (edits_of before.history)) (sym is.here)
      ∙ ap (after_edits o.image listing.at) (same_edits (ListEntry session listing.at) refl is.entry) in
      record {
        gains = one_entry (λ s. ListEntry s listing.at) (λ s. refl) session own is.entry;
        fresh = let le = no_older in let here = is.here in omega (arith, le, here);
        here = is.here ∙ ap length (same_edits (ListEntry session listing.at) refl is.entry);
        facts = is.facts ∙ ap (λ (s : Setting). s.facts) at;
        hardware = is.hardware ∙ ap (λ (s : Setting). s.hardware) at;
      }

  pub own_session : (session : ℕ) → session ≡ mid.session → session ≡ new.session
  own_session session own = own ∙ ap (λ (p : KnownPass). p.session) (sym saw.new_is)

  own_met : (session : ℕ) → session ≡ old.session → session ≡ mid.session
  own_met session own = own ∙ sym met.gains.session_stays

  own_desk : (own : TableId) → old.desk ≡ own → new.desk ≡ own
  own_desk own is = ap (λ (p : KnownPass). p.desk) saw.new_is ∙ met.gains.desk_stays ∙ is

  seen_is : grown.history ≡ new.seen
  seen_is = ap (λ (p : KnownPass). p.seen) (sym saw.new_is)

  module _ {V : Type 0} (chain : Chain) (feature : Feature V) (own : TableId) (o : Opening) (desk_is : old.desk ≡ own) (opening : grown.opening ≡ o) where
    pub ready_seen : (session : ℕ) → session ≡ mid.session → LeavesFree grown.opening grown.history session → IsReady own o new
    ready_seen session is leaves =
        let L : Opening → Type 0 = λ x. LeavesFree x grown.history session in
        let H : List Entry → Type 0 = λ h. LeavesFree o h session in
        record { desk_is = own_desk own desk_is; free = subst (LeavesFree o new.seen) (own_session session is) (subst H seen_is (subst L opening leaves)) }

    ticket_seen : (t : KnownTicket V) → FitsTicket feature grown.opening grown.history t → FitsTicket feature o new.seen t
    ticket_seen t fits =
        let L : Opening → Type 0 = λ x. FitsTicket feature x grown.history t in
        let H : List Entry → Type 0 = λ h. FitsTicket feature o h t in
        subst H seen_is (subst L opening fits)

    flight_seen : (f : KnownFlight V) → FitsFlight feature grown.opening grown.history f → FitsFlight feature o new.seen f
    flight_seen f fits =
        let L : Opening → Type 0 = λ x. FitsFlight feature x grown.history f in
        let H : List Entry → Type 0 = λ h. FitsFlight feature o h f in
        subst H seen_is (subst L opening fits)

    pub pin_told : (session : ℕ) (name : List ℕ) (t : KnownTicket V) → session ≡ mid.session → core.IsPinned feature before grown session name t → IsUnderway feature own o old new name t
    pin_told session name t is pinned =
        record {
          held = record { desk_is = own_desk own desk_is; session_is = pinned.session_is ∙ own_session session is };
          name_is = pinned.name_is;
          runs = [];
          own_runs = All-nil (IsRunOf old.session name);
          memory = pinned.quiet;
          gains = one_entry (λ s. Pin s name t.at) (λ s. refl) session is pinned.entry;
          fresh = let le = no_older in let here = pinned.here in omega (arith, le, here);
          fits = ticket_seen t pinned.fits;
        }

    pub done_told : (t : KnownTicket V) (asked : Asked) → before.opening ≡ o → t.session ≡ old.session → core.IsDone chain before grown t asked → Finishes chain own o old new t asked
    done_told t asked opened is done =
        let at : core.adds before grown (Answer t.session t.name asked.at asked.outcome) = done.entry ∙ ap (λ n. before.history ++ Answer t.session t.name n asked.outcome ∷ []) (sym done.here) in
        let inputs : after before.opening.image t.at before.history ≡ after o.image asked.at new.seen =
        ap (λ (b : Opening). after_edits b.image t.at (edits_of before.history)) opened
        ∙ ap (λ n. after_edits o.image n (edits_of before.history)) (sym done.here)
        ∙ ap (after_edits o.image asked.at) (same_edits (Answer t.session t.name asked.at asked.outcome) refl at) in
        record {
          here = done.here;
          outcome = subst (λ s. OutcomeIs chain t.memory s t.name asked.outcome) inputs done.outcome;
          gains = one_entry (λ s. Answer s t.name asked.at asked.outcome) (λ s. refl) t.session (own_met t.session is) at;
          ready = ready_seen t.session (own_met t.session is) done.free;
        }

    pub run_told : (t : KnownTicket V) (f : KnownFlight V) → t.session ≡ old.session → FitsTicket feature before.opening before.history t → core.IsStarted feature before grown t f → Departs feature o old new t f
    run_told t f is fits started =
        record {
          same = started.same;
          calm = starts_calm feature before t f.kind fits started.turn;
          gains = one_entry (λ s. Start s f.kind t.name f.stamp) (λ s. refl) t.session (own_met t.session is) started.entry;
          fits = flight_seen f started.fits;
        }

    pub give_told : (l : KnownLanded V) (t : KnownTicket V) → l.ticket.session ≡ old.session → FitsLanded feature before.opening before.history l → core.IsGiven feature before grown l t → Lands feature o old new l t
    give_told l t is fits given =
        record {
          same = given.same;
          end = given.end;
          memory = given.memory ∙ none_end l.gave _ given.end old.session l.kind l.ticket.name l.stamp (given.ends fits.st fits.state);
          gains = one_entry (λ s. Finish s l.kind l.ticket.name l.stamp given.end) (λ s. refl) l.ticket.session (own_met l.ticket.session is) given.entry;
          fits = ticket_seen t given.fits;
        }

-- What is behind the lock after an entry was published.
pub locked_after : {V : Type 0} (chain : Chain) (feature : Feature V) (own : TableId) (o : Opening) (before grown : Known) (pen : KnownPen) (session : ℕ)
    → IsLocked chain own o before pen → core.Advances chain feature before grown session → IsLocked chain own o grown (record pen { seen = grown.history })
locked_after chain feature own o before grown pen session locked goes =
    let opening : grown.opening ≡ o = goes.opening ∙ locked.opening in
    record {
      opening = opening;
      desk_is = locked.desk_is;
      seen = refl;
      legal = let L : Opening → Type 0 = λ x. IsLegal chain x grown.history in subst L opening goes.legal;
    }

-- The entry that is to be published.
pub new_entry : (seen : List Entry) (before grown : Known) (e : Entry) (session : ℕ) → seen ≡ before.history → core.adds before grown e → session_of e ≡ session → IsNew seen grown.history session
new_entry seen before grown e session seen_is added by = record { entry = e; added = added ∙ ap (λ l. l ++ e ∷ []) (sym seen_is); by = by }

pub new_edit : (seen : List Entry) (before grown : Known) (session own : ℕ) (edit : Edit) (edited : Edited) → seen ≡ before.history → session ≡ own → core.EditIs before grown session edit edited → IsNew seen grown.history own
new_edit seen before grown session own edit (Done count) seen_is same is = new_entry seen before grown (EditEntry session count edit) own seen_is is.entry same
new_edit seen before grown session own edit (NotLive at) seen_is same is = new_entry seen before grown (NoFact session is.number at) own seen_is is.entry same

-- Meeting the history keeps what the pass and its session know.
pub met_keeps : {V : Type 0} (chain : Chain) (feature : Feature V) (own : TableId) (o : Opening) (old mid : KnownPass) → Gains old mid [] → IsLegal chain o mid.seen → KeepsOwn feature own o old mid
met_keeps chain feature own o old mid gains legal =
    let same : entries_of old.session mid.seen ≡ entries_of old.session old.seen = gains.entries ∙ append-nil (entries_of old.session old.seen) in
    record {
      ready = λ is.
          record {
            desk_is = gains.desk_stays ∙ is.desk_is;
            free = subst (LeavesFree o mid.seen) (sym gains.session_stays) (free_later chain o old.session old.seen mid.seen gains.before same legal is.free);
          };
      tickets = λ t own_is fits. ticket_later chain feature o old.session old.seen mid.seen gains.before same legal t own_is fits;
      landed = λ l own_is fits. landed_later chain feature o old.session old.seen mid.seen gains.before same legal l own_is fits;
    }

pub met_gains : (old mid : KnownPass) (history : List Entry) → IsPrefix old.seen history → entries_of old.session history ≡ entries_of old.session old.seen → mid ≡ record old { seen = history } → Gains old mid []
met_gains old mid history before own mid_is =
    let G : KnownPass → Type 0 = λ p. Gains old p [] in
    subst G (sym mid_is) (record { desk_stays = refl; session_stays = refl; before = before; entries = own ∙ sym (append-nil (entries_of old.session old.seen)) })

-- What fits what the pass has seen fits the core.
module _ {V : Type 0} (feature : Feature V) (o : Opening) (mid : KnownPass) (before : Known) (seen : mid.seen ≡ before.history) (opening : before.opening ≡ o) where
  pub ticket_met : (t : KnownTicket V) → FitsTicket feature o mid.seen t → FitsTicket feature before.opening before.history t
  ticket_met t fits =
      let L : Opening → Type 0 = λ x. FitsTicket feature x before.history t in
      let H : List Entry → Type 0 = λ h. FitsTicket feature o h t in
      subst L (sym opening) (subst H seen fits)

  pub landed_met : (l : KnownLanded V) → FitsLanded feature o mid.seen l → FitsLanded feature before.opening before.history l
  landed_met l fits =
      let L : Opening → Type 0 = λ x. FitsLanded feature x before.history l in
      let H : List Entry → Type 0 = λ h. FitsLanded feature o h l in
      subst L (sym opening) (subst H seen fits)
