-- Each run of an ask lowers the number of kinds that it lacks, or ends in want of memory.
use Rattle.std.proofs.Common.{◌≡◌, ℕ, zero, suc, ◌+◌, ◌<◌, ◌≤◌, ◌⊎◌, inl, inr, ⊎_elim, ◌||◌, ◌==◌, Bool, true, false, not, if◌then◌else◌, List, [], ◌∷◌, ◌++◌, drop, length, Option, Some, is_some, sym, ap, ap₂, subst, ◌∙◌, arith}
use Rattle.std.specs.List.{filter}
use Rattle.std.proofs.Math.Path.{fun_ext}
use Rattle.std.proofs.lemmas.List.{drop-append-le}
use Rattle.std.proofs.lemmas.List.Folds.{list_any-append}
use Rattle.wc_base.proofs.TestLemmas.{if_some}
use Rattle.wc_model.specs.declared.entries.End.{End}
use Rattle.wc_model.specs.declared.entries.End.TheVariants.{Kept, Dropped, Memory}
use Rattle.wc_model.specs.declared.entries.Entry.{Entry}
use Rattle.wc_model.specs.declared.entries.Entry.TheVariants.{Start, Finish}
use Rattle.wc_model.specs.Workspace.Closures.{has_kind, order_of}
use Rattle.wc_model.specs.Workspace.History.{Chain, IsLegal, ask_after, opened, replay, state_after, step, stepped, taken}
use Rattle.wc_model.specs.Workspace.States.{Opening, State, Ask, ask_at, is_session, open_ask, start, with_ask}
use Rattle.wc_model.proofs.Replays.{opened_within, replay-append}
use Rattle.wc_model.proofs.StepLemmas.{finished, some_same, started}
use Rattle.wc_core.specs.Answers.{Advances, IsStarted, IsGiven}
use Rattle.wc_core.specs.Features.{arc_at}
use Rattle.wc_core.specs.Fits.{Feature, FitsTicket}
use Rattle.wc_core.specs.Views.{Known, KnownTicket, KnownFlight, KnownLanded, ask_with}
use Rattle.wc_core.proofs.FinishLemmas.{has_last}
use Rattle.wc_core.proofs.SeatLemmas.{count_lacks, lacks, lacks_one}
use Rattle.wc_core.proofs.TurnLemmas.{can_start, turn_starts}

-- how many kinds a ticket has no value of, and one more; or nothing after want of memory
abbrev pub lacking : {V : Type 0} → KnownTicket V → List ℕ → ℕ
lacking t order = length (filter (λ k. not (is_some (arc_at k t.had))) order)

abbrev pub to_come : {V : Type 0} → Opening → KnownTicket V → ℕ
to_come o t = if t.memory then 0 else lacking t (order_of o.kinds) + 1

-- the entries of a legal history are steps of the replay
next_state : (chain : Chain) (o : Opening) (h : List Entry) (st new : State) (e : Entry) → IsLegal chain o h → state_after o h ≡ Some st → state_after o (h ++ e ∷ []) ≡ Some new → step o st e ≡ Some new
next_state chain o h st new e legal state later =
    sym (ap (λ s. stepped o s e) state)
    ∙ sym (replay-append o (Some (start o)) (drop (opened o) h) (e ∷ []))
    ∙ sym (ap (λ l. replay o (Some (start o)) l) (drop-append-le (opened o) h (e ∷ []) (opened_within o h legal.begins)))
    ∙ later

-- the ask of a session is the one that was put there
held : (session : ℕ) (x y : Ask) (asks : List (Option Ask)) → ask_at session (with_ask session (Some x) asks) ≡ Some y → x ≡ y
held session x y [] is = cc
held zero x y (a ∷ asks) is = some_same x y is
held (suc session) x y (a ∷ asks) is = held session x y asks is

holds : (o : Opening) (session : ℕ) (x y : Ask) (asks : List (Option Ask)) (new : State) → new.asks ≡ with_ask session (Some x) asks → open_ask o new session ≡ Some y → x ≡ y
holds o session x y asks new are is = held session x y asks (ap (ask_at session) (sym are) ∙ (if_some (is_session o session) (ask_at session new.asks) y is).1)

-- what an ask has after a run
ran : (o : Opening) (st mid new : State) (session kind k : ℕ) (name n : List ℕ) (stamp s : ℕ) (end : End) (ask between after : Ask)
    → open_ask o st session ≡ Some ask → step o st (Start session kind name stamp) ≡ Some mid → open_ask o mid session ≡ Some between
    → step o mid (Finish session k n s end) ≡ Some new → open_ask o new session ≡ Some after
    → ask_after end k (record ask { kinds = ask.kinds ++ taken o st ask }) ≡ after
ran o st mid new session kind k name n stamp s end ask between after asked goes open_between comes open_after =
    let out = started o st mid session kind name stamp goes in
    let back = finished o mid new session k n s end comes in
    let with_taken : Ask → Ask = λ a. record a { kinds = a.kinds ++ taken o st a } in
    let own : out.ask ≡ ask = some_same out.ask ask (sym out.asked ∙ asked) in
    let first : with_taken out.ask ≡ between = holds o session (with_taken out.ask) between st.asks mid (ap (λ (x : State). x.asks) (sym out.new_is)) open_between in
    let here : back.ask ≡ between = some_same back.ask between (sym back.asked ∙ open_between) in
    let last : ask_after end k back.ask ≡ after = holds o session (ask_after end k back.ask) after mid.asks new (ap (λ (x : State). x.asks) (sym back.new_is)) open_after in
    ap (ask_after end k) (ap with_taken (sym own) ∙ first ∙ sym here) ∙ last

-- It has the kind of the run then, and all that it had; or it has want of memory.

has_more : (kinds more : List ℕ) (kind k : ℕ) → has_kind k kinds ≡ true → has_kind k ((kinds ++ more) ++ kind ∷ []) ≡ true
has_more kinds more kind k is =
    list_any-append (λ j. j == k) (kinds ++ more) (kind ∷ [])
    ∙ ap (λ b. b || has_kind k (kind ∷ [])) (list_any-append (λ j. j == k) kinds more ∙ ap (λ b. b || has_kind k more) is)

fewer : (kinds more order new : List ℕ) (kind : ℕ) → (kinds ++ more) ++ kind ∷ [] ≡ new → has_kind kind order ≡ true → has_kind kind kinds ≡ false → count_lacks new order + 1 ≤ count_lacks kinds order
fewer kinds more order new kind is listed lacked =
    lacks_one kinds new order kind (λ k has. subst (λ l. has_kind k l ≡ true) is (has_more kinds more kind k has)) listed lacked (subst (λ l. has_kind kind l ≡ true) is (has_last (kinds ++ more) kind))

after_run : (end : End) (kind : ℕ) (order more : List ℕ) (ask new : Ask) → ask_after end kind (record ask { kinds = ask.kinds ++ more }) ≡ new → has_kind kind order ≡ true → has_kind kind ask.kinds ≡ false
    → (new.memory ≡ true) ⊎ (count_lacks new.kinds order + 1 ≤ count_lacks ask.kinds order)
after_run Memory kind order more ask new is listed lacked = inl (ap (λ (a : Ask). a.memory) (sym is))
after_run Kept kind order more ask new is listed lacked = inr (fewer ask.kinds more order new.kinds kind (ap (λ (a : Ask). a.kinds) is) listed lacked)
after_run Dropped kind order more ask new is listed lacked = inr (fewer ask.kinds more order new.kinds kind (ap (λ (a : Ask). a.kinds) is) listed lacked)

-- a ticket has values of the kinds of its ask
lacks_same : {V : Type 0} (t : KnownTicket V) (kinds order : List ℕ) → ((kind : ℕ) → has_kind kind kinds ≡ is_some (arc_at kind t.had)) → lacking t order ≡ count_lacks kinds order
lacks_same t kinds order same = let tests : ◌≡◌ {A = ℕ → Bool} (λ k. not (is_some (arc_at k t.had))) (lacks kinds) = fun_ext (λ k. ap not (sym (same k))) in ap (λ p. length (filter p order)) tests

less_case : (was now : Bool) (m n : ℕ) → was ≡ false → (now ≡ true) ⊎ (n + 1 ≤ m) → (if now then 0 else n + 1) < (if was then 0 else m + 1)
less_case true now m n quiet fewer = cc
less_case false true m n quiet fewer = omega arith
less_case false false m n quiet (inl is) = cc
less_case false false m n quiet (inr less) = omega (arith, less)

-- A run lowers what is to come.
module _ {V : Type 0} (chain : Chain) (feature : Feature V) (now mid new : Known) (t : KnownTicket V) (f : KnownFlight V) (l : KnownLanded V) (back : KnownTicket V)
    (fits : FitsTicket feature now.opening now.history t) (legal : IsLegal chain now.opening now.history) (started : IsStarted feature now mid t f) (first : Advances chain feature now mid t.session)
    (same : l.ticket ≡ f.ticket) (kind_same : l.kind ≡ f.kind) (given : IsGiven feature mid new l back) (second : Advances chain feature mid new l.ticket.session) where
  abbrev o : Opening
  o = now.opening

  abbrev order : List ℕ
  order = order_of o.kinds

  abbrev ask : Ask
  ask = ask_with t fits.is_open.kinds

  abbrev after : Ask
  after = ask_with back given.fits.is_open.kinds

  own : l.ticket.session ≡ t.session
  own = ap (λ (x : KnownTicket V). x.session) same ∙ started.same.session

  goes : step o fits.st (Start t.session f.kind t.name f.stamp) ≡ Some started.fits.st
  goes =
      next_state chain o now.history fits.st started.fits.st (Start t.session f.kind t.name f.stamp) legal fits.state
      (ap₂ state_after (sym first.opening) (sym started.entry) ∙ started.fits.state)

  between : open_ask o started.fits.st t.session ≡ Some (ask_with f.ticket started.fits.is_open.kinds)
  between = ap₂ (λ x s. open_ask x started.fits.st s) (sym first.opening) (sym started.same.session) ∙ started.fits.is_open.ask

  comes : step o started.fits.st (Finish t.session l.kind l.ticket.name l.stamp given.end) ≡ Some given.fits.st
  comes =
      ap (λ s. step o started.fits.st (Finish s l.kind l.ticket.name l.stamp given.end)) (sym own)
      ∙ next_state chain o mid.history started.fits.st given.fits.st (Finish l.ticket.session l.kind l.ticket.name l.stamp given.end)
      (subst (λ x. IsLegal chain x mid.history) first.opening first.legal)
      (ap (λ x. state_after x mid.history) (sym first.opening) ∙ started.fits.state)
      (ap₂ state_after (sym (second.opening ∙ first.opening)) (sym given.entry) ∙ given.fits.state)

  last : open_ask o given.fits.st t.session ≡ Some after
  last = ap₂ (λ x s. open_ask x given.fits.st s) (sym (second.opening ∙ first.opening)) (sym (given.same.session ∙ own)) ∙ given.fits.is_open.ask

  pub falls : to_come o back < to_come o t
  falls =
      let turn = turn_starts o fits.st ask f.kind (started.turn fits.st ask fits.state fits.is_open.ask) in
      let can = can_start o fits.st t.session ask f.kind fits.rests turn in
      let is = ran o fits.st started.fits.st given.fits.st t.session f.kind l.kind t.name l.ticket.name f.stamp l.stamp given.end ask (ask_with f.ticket started.fits.is_open.kinds) after fits.is_open.ask goes between comes last in
      let had = after_run given.end l.kind order (taken o fits.st ask) ask after is (ap (λ k. has_kind k order) kind_same ∙ can.listed) (ap (λ k. has_kind k fits.is_open.kinds) kind_same ∙ can.lacks) in
      let was = lacks_same t fits.is_open.kinds order fits.is_open.same in
      let is_now = lacks_same back given.fits.is_open.kinds order given.fits.is_open.same in
      less_case t.memory back.memory (lacking t order) (lacking back order) turn.quiet
      (⊎_elim (λ (memory : back.memory ≡ true). inl memory) (λ (less : count_lacks given.fits.is_open.kinds order + 1 ≤ count_lacks fits.is_open.kinds order). inr (omega (arith, less, was, is_now))) had)
