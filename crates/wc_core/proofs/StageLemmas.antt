-- What the sessions of a core hold goes on fitting, whatever one of them does.
use Rattle.std.proofs.Common.{◌≡◌, ◌≢◌, ℕ, ◌+◌, ◌<◌, ◌≤◌, false, List, length, set, slice_index_or, Option, None, Some, is_some, refl, sym, ap, subst, ⊎_elim, ◌∙◌, arith}
use Rattle.std.proofs.lemmas.Bool.Decides.{eqb_tells}
use Rattle.std.specs.List.{All}
use Rattle.std.proofs.lemmas.List.{get_or-set_other, get_or-set_same, get_or_default, length-set}
use Rattle.wc_model.specs.Workspace.States.{Opening}
use Rattle.wc_core.specs.Answers.{KeepsOthers, LeavesFree}
use Rattle.wc_core.specs.Fits.{Feature, FitsFlight, FitsTicket}
use Rattle.wc_core.specs.Inner.Stages.{AreHeld, IsHeld, held_at}
use Rattle.wc_core.specs.Views.{Known, KnownFlight, KnownTicket}
use Rattle.wc_core.proofs.CoreLemmas.{keeps_same}
use Rattle.wc_core.proofs.QuietLemmas.{none_at}

-- The place of one session is filled anew.
pub record IsPut {A : Type 0} (session : ℕ) (x : Option A) (old new : List (Option A)) : Type 0 where
  pub long : length new ≡ length old
  pub own : held_at session new ≡ x
  pub others : (s : ℕ) → s ≢ session → held_at s new ≡ held_at s old

pub stays : {A : Type 0} (session : ℕ) (x : Option A) (xs : List (Option A)) → held_at session xs ≡ x → IsPut session x xs xs
stays session x xs is = record { long = refl; own = is; others = λ s apart. refl }

pub puts : {A : Type 0} (session : ℕ) (x y : Option A) (xs ys : List (Option A)) → session < length xs → IsPut session x xs ys → IsPut session y xs (set ys session y)
puts session x y xs ys within is =
    record {
      long = length-set ys session y ∙ is.long;
      own = get_or-set_same ys session y None (omega (arith, within, is.long));
      others = λ s apart. get_or-set_other ys session s y None apart ∙ is.others s apart;
    }

-- what is read from a place
pub at_place : {A : Type 0} (xs : List (Option A)) (p : ℕ) (x y : Option A) → p < length xs → x ≡ slice_index_or xs p x → x ≡ y → held_at p xs ≡ y
at_place xs p x y within at is = sym (at ∙ get_or_default xs p x None within) ∙ is

pub is_none_of : {A : Type 0} (x : Option A) → is_some x ≡ false → x ≡ None
is_none_of None is = refl
is_none_of (Some a) is = cc

module _ {V : Type 0} (feature : Feature V) (old new : Known) (session : ℕ) (keeps : KeepsOthers feature old new session) where
  kept_at : (s : ℕ) (ask : Option (KnownTicket V)) (run : Option (KnownFlight V)) → s ≢ session → IsHeld feature old s ask run → IsHeld feature new s ask run
  kept_at s None None apart is = keeps.free s apart is
  kept_at s (Some t) None apart is = (keeps.tickets t (λ same. apart (sym is.1 ∙ same)) is.0, is.1)
  kept_at s None (Some f) apart is = (keeps.flights f (λ same. apart (sym is.1 ∙ same)) is.0, is.1)
  kept_at s (Some t) (Some f) apart is = is

  pub goes_on : (asks new_asks : List (Option (KnownTicket V))) (runs new_runs : List (Option (KnownFlight V))) (ask : Option (KnownTicket V)) (run : Option (KnownFlight V))
      → new.opening ≡ old.opening → IsPut session ask asks new_asks → IsPut session run runs new_runs → IsHeld feature new session ask run → AreHeld feature old asks runs → AreHeld feature new new_asks new_runs
  goes_on asks new_asks runs new_runs ask run opening put_ask put_run own held =
      let sessions : new.opening.sessions ≡ old.opening.sessions = ap (λ (o : Opening). o.sessions) opening in
      let H : ℕ → Type 0 = λ s. IsHeld feature new s (held_at s new_asks) (held_at s new_runs) in
      let A : Option (KnownTicket V) → Type 0 = λ a. IsHeld feature new session a run in
      let R : Option (KnownFlight V) → Type 0 = λ r. IsHeld feature new session (held_at session new_asks) r in
      let mine : H session = subst R (sym put_run.own) (subst A (sym put_ask.own) own) in
      record {
        asks_long = put_ask.long ∙ held.asks_long ∙ ap (λ n. n + 1) (sym sessions);
        runs_long = put_run.long ∙ held.runs_long ∙ ap (λ n. n + 1) (sym sessions);
        each = λ s least most. ⊎_elim (λ is. subst H (sym is.1) mine) (λ is. theirs s is.1 (kept_at s (held_at s asks) (held_at s runs) is.1 (held.each s least (omega (arith, most, sessions))))) (eqb_tells s session);
      } where
        theirs : (s : ℕ) → s ≢ session → IsHeld feature new s (held_at s asks) (held_at s runs) → IsHeld feature new s (held_at s new_asks) (held_at s new_runs)
        theirs s apart is =
            let A : Option (KnownTicket V) → Type 0 = λ a. IsHeld feature new s a (held_at s runs) in
            let R : Option (KnownFlight V) → Type 0 = λ r. IsHeld feature new s (held_at s new_asks) r in
            subst R (sym (put_run.others s apart)) (subst A (sym (put_ask.others s apart)) is)

-- No session holds anything.
pub begins : {V : Type 0} (feature : Feature V) (k : Known) (asks : List (Option (KnownTicket V))) (runs : List (Option (KnownFlight V))) → All (λ a. a ≡ None) asks → length asks ≡ k.opening.sessions + 1
    → All (λ r. r ≡ None) runs → length runs ≡ k.opening.sessions + 1 → ((session : ℕ) → 1 ≤ session → session ≤ k.opening.sessions → LeavesFree k.opening k.history session) → AreHeld feature k asks runs
begins {V} feature k asks runs none asks_long quiet runs_long free =
    record {
      asks_long = asks_long;
      runs_long = runs_long;
      each = λ s least most.
          let A : Option (KnownTicket V) → Type 0 = λ a. IsHeld feature k s a None in
          let R : Option (KnownFlight V) → Type 0 = λ r. IsHeld feature k s (held_at s asks) r in
          subst R (sym (none_at runs quiet s)) (subst A (sym (none_at asks none s)) (free s least most));
    }

-- What the calls of one session leave.
module _ {V : Type 0} (feature : Feature V) (old : Known) (asks : List (Option (KnownTicket V))) (runs : List (Option (KnownFlight V))) (held : AreHeld feature old asks runs) (p : ℕ) (least : 1 ≤ p) (most : p ≤ old.opening.sessions) where
  pub within_asks : p < length asks
  within_asks = omega (arith, most, held.asks_long)

  pub within_runs : p < length runs
  within_runs = omega (arith, most, held.runs_long)

  mine : IsHeld feature old p (held_at p asks) (held_at p runs)
  mine = held.each p least most

  ticket_case : (t : KnownTicket V) (run : Option (KnownFlight V)) → IsHeld feature old p (Some t) run → FitsTicket feature old.opening old.history t × (t.session ≡ p) × (run ≡ None)
  ticket_case t None is = (is.0, is.1, refl)
  ticket_case t (Some f) is = absurd is

  pub has_ticket : (t : KnownTicket V) → held_at p asks ≡ Some t → FitsTicket feature old.opening old.history t × (t.session ≡ p) × (held_at p runs ≡ None)
  has_ticket t is = let H : Option (KnownTicket V) → Type 0 = λ a. IsHeld feature old p a (held_at p runs) in ticket_case t (held_at p runs) (subst H is mine)

  flight_case : (f : KnownFlight V) (ask : Option (KnownTicket V)) → IsHeld feature old p ask (Some f) → FitsFlight feature old.opening old.history f × (f.ticket.session ≡ p) × (ask ≡ None)
  flight_case f None is = (is.0, is.1, refl)
  flight_case f (Some t) is = absurd is

  pub has_flight : (f : KnownFlight V) → held_at p runs ≡ Some f → FitsFlight feature old.opening old.history f × (f.ticket.session ≡ p) × (held_at p asks ≡ None)
  has_flight f is = let H : Option (KnownFlight V) → Type 0 = λ r. IsHeld feature old p (held_at p asks) r in flight_case f (held_at p asks) (subst H is mine)

  pub has_nothing : held_at p asks ≡ None → held_at p runs ≡ None → LeavesFree old.opening old.history p
  has_nothing none quiet =
      let A : Option (KnownTicket V) → Type 0 = λ a. IsHeld feature old p a (held_at p runs) in
      let R : Option (KnownFlight V) → Type 0 = λ r. IsHeld feature old p None r in
      subst R quiet (subst A none mine)

  module _ (new : Known) where
    pub pinned : (t : KnownTicket V) → held_at p asks ≡ None → held_at p runs ≡ None → new.opening ≡ old.opening → KeepsOthers feature old new p → FitsTicket feature new.opening new.history t → t.session ≡ p
        → AreHeld feature new (set asks p (Some t)) runs
    pinned t none quiet opening keeps fits own =
        goes_on feature old new p keeps asks (set asks p (Some t)) runs runs (Some t) None opening (puts p None (Some t) asks asks within_asks (stays p None asks none)) (stays p None runs quiet) (fits, own) held

    pub answered : (t : KnownTicket V) → held_at p asks ≡ Some t → new.opening ≡ old.opening → KeepsOthers feature old new t.session → LeavesFree new.opening new.history t.session → AreHeld feature new (set asks p None) runs
    answered t is opening keeps free =
        let had = has_ticket t is in
        let K : ℕ → Type 0 = λ s. KeepsOthers feature old new s in
        let F : ℕ → Type 0 = λ s. LeavesFree new.opening new.history s in
        goes_on feature old new p (subst K had.1 keeps) asks (set asks p None) runs runs None None opening (puts p (Some t) None asks asks within_asks (stays p (Some t) asks is)) (stays p None runs had.2) (subst F had.1 free) held

    pub started : (t : KnownTicket V) (f : KnownFlight V) → held_at p asks ≡ Some t → new.opening ≡ old.opening → KeepsOthers feature old new t.session → FitsFlight feature new.opening new.history f → f.ticket.session ≡ t.session
        → AreHeld feature new (set asks p None) (set runs p (Some f))
    started t f is opening keeps fits same =
        let had = has_ticket t is in
        let K : ℕ → Type 0 = λ s. KeepsOthers feature old new s in
        goes_on feature old new p (subst K had.1 keeps) asks (set asks p None) runs (set runs p (Some f)) None (Some f) opening
        (puts p (Some t) None asks asks within_asks (stays p (Some t) asks is)) (puts p None (Some f) runs runs within_runs (stays p None runs had.2)) (fits, same ∙ had.1) held

    pub waited : (t back : KnownTicket V) → held_at p asks ≡ Some t → back ≡ t → new ≡ old → AreHeld feature new (set (set asks p None) p (Some back)) runs
    waited t back is same unchanged =
        let had = has_ticket t is in
        let B : KnownTicket V → Type 0 = λ x. FitsTicket feature old.opening old.history x × (x.session ≡ p) in
        let K : Known → Type 0 = λ k. FitsTicket feature k.opening k.history back × (back.session ≡ p) in
        let taken = puts p (Some t) None asks asks within_asks (stays p (Some t) asks is) in
        goes_on feature old new p (keeps_same feature old new p unchanged) asks (set (set asks p None) p (Some back)) runs runs (Some back) None (ap (λ (k : Known). k.opening) unchanged)
        (puts p None (Some back) asks (set asks p None) within_asks taken) (stays p None runs had.2) (subst K (sym unchanged) (subst B (sym same) (had.0, had.1))) held

    pub landed : (t : KnownTicket V) (f : KnownFlight V) → held_at p runs ≡ Some f → new.opening ≡ old.opening → KeepsOthers feature old new f.ticket.session → FitsTicket feature new.opening new.history t → t.session ≡ f.ticket.session
        → AreHeld feature new (set asks p (Some t)) (set runs p None)
    landed t f is opening keeps fits same =
        let had = has_flight f is in
        let K : ℕ → Type 0 = λ s. KeepsOthers feature old new s in
        goes_on feature old new p (subst K had.1 keeps) asks (set asks p (Some t)) runs (set runs p None) (Some t) None opening
        (puts p None (Some t) asks asks within_asks (stays p None asks had.2)) (puts p (Some f) None runs runs within_runs (stays p (Some f) runs is)) (fits, same ∙ had.1) held
