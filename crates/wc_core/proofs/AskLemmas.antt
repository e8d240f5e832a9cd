-- A ticket that fits, at the core's own state.
use Rattle.std.proofs.Common.{◌≡◌, ◌≢◌, ℕ, ◌+◌, ◌<◌, ◌≤◌, ◌&&◌, ◌||◌, ◌==◌, Bool, true, false, not, cond, List, [], ◌∷◌, ◌++◌, length, map, Option, None, Some, is_some, refl, sym, ap, ap₂, subst, ◌∙◌, arith, if◌then◌else◌, ⊎_elim, inl, inr, ◌⊎◌}
use Rattle.std.specs.Global.{Global}
use Rattle.std.specs.List.{All, filter, list_any}
use Rattle.std.specs.declared.sync.Arc.{Arc}
use Rattle.std.proofs.lemmas.Bool.{eq-eqb, eqb-true, false≢true}
use Rattle.wc_base.proofs.TestLemmas.{if_some}
use Rattle.wc_model.specs.declared.entries.Entry.{Entry}
use Rattle.wc_model.specs.Workspace.Closures.{closure, has_kind, order_of}
use Rattle.wc_model.specs.Workspace.Edits.{AgreeOnAll, Setting, after_edits, all_edited, bare}
use Rattle.wc_model.specs.Workspace.History.{Chain, key_with}
use Rattle.wc_model.specs.Workspace.States.{Opening, State, Run, Ask, ask_at, count_of, in_store, inputs_at, is_session, is_stored, open_ask, own_run, stamp_at, within_reach}
use Rattle.wc_model.proofs.Current.{now_from_then, then_from_now}
use Rattle.wc_model.proofs.StepLemmas.{some_same}
use Rattle.wc_core.specs.Features.{arc_at}
use Rattle.wc_core.specs.Fits.{Feature, FitsTicket, IsOpen}
use Rattle.wc_core.specs.Inner.Lines.{row_of}
use Rattle.wc_core.specs.Inner.Moves.{Lines}
use Rattle.wc_core.specs.Inner.Seats.{KnownSeat, seat_at}
use Rattle.wc_core.specs.Inner.Stocks.{IsCore, IsRightFor, IsSeated, RunIs, SeatIs, Stock, keys_at, names_needed}
use Rattle.wc_core.specs.Views.{Known, KnownTicket, ask_with}
use Rattle.wc_core.proofs.CoreLemmas.{known, session_within}

-- An open ask of a ticket, with its seat.
pub record IsAsked {V : Type 0} (feature : Feature V) (o : Opening) (st : State) (d : Stock V) (t : KnownTicket V) : Type 0 where
  pub is_open : IsOpen feature o st t
  pub known_is : is_session o t.session ≡ true
  pub asked : ask_at t.session st.asks ≡ Some (ask_with t is_open.kinds)
  pub place : t.session < length st.asks
  pub place_seats : t.session < length d.seats
  pub seated : IsSeated o st t.session (ask_with t is_open.kinds) (seat_at t.session d.seats)

seat_of : (o : Opening) (st : State) (session : ℕ) (asked : Option Ask) (ask : Ask) (seat : KnownSeat) → asked ≡ Some ask → SeatIs o st session asked seat → IsSeated o st session ask seat
seat_of o st session None ask seat is seated = cc
seat_of o st session (Some a) ask seat is seated = let at : a ≡ ask = some_same a ask is in subst (λ x. IsSeated o st session x seat) at seated

module _ {V : Type 0} (chain : Chain) (feature : Feature V) (o : Opening) (h : List Entry) (d : Stock V) (k : Known) (view : known o h ≡ k) (core : IsCore chain feature o h d) (t : KnownTicket V) where
  pub asked_from : (st : State) → st ≡ core.st → IsOpen feature o st t → IsAsked feature o core.st d t
  asked_from st same is =
      let I : State → Type 0 = λ x. IsOpen feature o x t in
      let own = subst I same is in
      let both = if_some (is_session o t.session) (ask_at t.session core.st.asks) (ask_with t own.kinds) own.ask in
      record {
        is_open = own;
        known_is = both.0;
        asked = both.1;
        place = omega (arith, (session_within o t.session both.0).1, core.parts.seated.asks);
        place_seats = omega (arith, (session_within o t.session both.0).1, core.parts.seated.seats);
        seated = seat_of o core.st t.session (ask_at t.session core.st.asks) (ask_with t own.kinds) (seat_at t.session d.seats) both.1 (core.parts.seated.each t.session both.0);
      }

  pub resting : FitsTicket feature k.opening k.history t → IsAsked feature o core.st d t × (own_run t.session core.st.out ≡ None)
  resting fits =
      let F : Known → Type 0 = λ v. FitsTicket feature v.opening v.history t in
      let own = subst F (sym view) fits in
      let same : own.st ≡ core.st = some_same own.st core.st (sym own.state ∙ core.kept.state) in
      (asked_from own.st same own.is_open, ap (λ (s : State). own_run t.session s.out) (sym same) ∙ own.rests)

-- the names that a resting ask has
pub names_of : (o : Opening) (st : State) (session : ℕ) (ask : Ask) (seat : KnownSeat) → own_run session st.out ≡ None → IsSeated o st session ask seat → names_needed o ask ≤ length seat.names
names_of o st session ask seat rests seated = let R : Option Run → Type 0 = λ r. RunIs o st ask seat r in subst R rests seated.run
