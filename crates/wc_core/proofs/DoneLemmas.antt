-- What an answer owes, from a ticket that fits.
use Rattle.std.proofs.Common.{◌≡◌, ℕ, ◌+◌, ◌≤◌, List, [], ◌∷◌, ◌++◌, length, None, refl, sym, ap, subst, ◌∙◌, arith}
use Rattle.wc_model.specs.declared.entries.Entry.{Entry}
use Rattle.wc_model.specs.declared.entries.Entry.TheVariants.{Answer}
use Rattle.wc_model.specs.declared.values.Outcome.{Outcome}
use Rattle.wc_model.specs.Workspace.History.{Chain}
use Rattle.wc_model.specs.Workspace.States.{Opening, own_run}
use Rattle.wc_core.specs.declared.answers.Step.TheVariants.{Answers as AnswersStep}
use Rattle.wc_core.specs.Answers.{Advances, IsDone}
use Rattle.wc_core.specs.Fits.{Feature, FitsTicket}
use Rattle.wc_core.specs.Inner.Moves.{put}
use Rattle.wc_core.specs.Inner.Seats.{KnownSeat, no_seat, seat_at, with_seat}
use Rattle.wc_core.specs.Inner.Steps.{IsStep}
use Rattle.wc_core.specs.Inner.Stocks.{IsCore, Stock}
use Rattle.wc_core.specs.Views.{Known, KnownTicket, ask_with}
use Rattle.wc_core.proofs.AnswerLemmas.{Answers, answered}
use Rattle.wc_core.proofs.AskLemmas.{IsAsked, resting}
use Rattle.wc_core.proofs.CoreLemmas.{core_pinned, known}
use Rattle.wc_core.proofs.FeatureLemmas.{IsStable}
use Rattle.wc_core.proofs.NameLemmas.{IsTakenFrom, name_fewer, name_is, with_twice}
use Rattle.wc_core.proofs.ReadyLemmas.{IsReady, ready}

abbrev pub done_stock : {V : Type 0} → Stock V → KnownTicket V → List (ℕ × ℕ) → List KnownSeat → ℕ → ℕ → ℕ → Stock V
done_stock d t keys seats owed room spare = record d { lines = (put t.name t.session keys t.had d.lines).1; seats = seats; owed = owed; spare = spare; room = room }

pub record IsDoneAt {V : Type 0} (chain : Chain) (feature : Feature V) (o : Opening) (k : Known) (entries : List Entry) (d : Stock V) (t : KnownTicket V) (outcome : Outcome) : Type 0 where
  pub core : IsCore chain feature o entries d
  pub advances : Advances chain feature k (known o entries) t.session
  pub done : IsDone chain k (known o entries) t (record { at = t.at; outcome = outcome })

module _ {V : Type 0} (chain : Chain) (feature : Feature V) (o : Opening) (h : List Entry) (d : Stock V) (k : Known) (view : known o h ≡ k) (core : IsCore chain feature o h d) (t : KnownTicket V) (fits : FitsTicket feature k.opening k.history t) where
  abbrev asked : IsAsked feature o core.st d t
  asked = (resting chain feature o h d k view core t fits).0

  rests : own_run t.session core.st.out ≡ None
  rests = (resting chain feature o h d k view core t fits).1

  pub can : IsReady o h d t (ask_with t asked.is_open.kinds)
  can = ready chain feature o h d core t asked rests

  module _ (name : List ℕ) (left : List KnownSeat) (taken : IsTakenFrom t.session d.seats left name) where
    pub fewer : length (seat_at t.session left).names + 1 ≡ length (seat_at t.session d.seats).names
    fewer = name_fewer t.session d.seats left name asked.place_seats taken

    pub owes : length (seat_at t.session left).names + 1 ≤ d.owed
    owes = omega (arith, fewer, can.owes)

    named : name ≡ t.name
    named = name_is t.session d.seats left name asked.place_seats taken t.name asked.seated.names

    seats_are : with_seat t.session no_seat left ≡ with_seat t.session no_seat d.seats
    seats_are = ap (with_seat t.session no_seat) taken.2 ∙ with_twice t.session no_seat taken.0 d.seats

    pub done_at : IsStable feature o → (outcome : Outcome) → IsStep chain k t (AnswersStep outcome) → (entries : List Entry) (keys : List (ℕ × ℕ)) (seats : List KnownSeat) (owed room spare : ℕ)
        → entries ≡ h ++ Answer t.session name t.at outcome ∷ [] → keys ≡ (seat_at t.session d.seats).keys → seats ≡ with_seat t.session no_seat left
        → owed + (length (seat_at t.session left).names + 1) ≡ d.owed → d.room ≤ room → owed ≤ spare → IsDoneAt chain feature o k entries (done_stock d t keys seats owed room spare) t outcome
    done_at stable outcome step entries keys seats owed room spare entries_are keys_are seats_new less within stored =
        let S : Known → Type 0 = λ v. IsStep chain v t (AnswersStep outcome) in
        let own = subst S (sym view) step in
        let entry = entries_are ∙ ap (λ (n : List ℕ). h ++ Answer t.session n t.at outcome ∷ []) named in
        let all = answered chain feature o h d core t owed room spare asked rests stable (core_pinned chain feature o h d k view core) k view entries outcome
        (own.0 core.st (ask_with t asked.is_open.kinds) core.kept.state asked.is_open.ask) own.1 entry (omega (arith, less, fewer)) within stored in
        let K : List (ℕ × ℕ) → Type 0 = λ ks. Answers chain feature o k entries (done_stock d t ks (with_seat t.session no_seat d.seats) owed room spare) t.session in
        let T : List KnownSeat → Type 0 = λ ss. Answers chain feature o k entries (done_stock d t keys ss owed room spare) t.session in
        let now = subst T (sym (seats_new ∙ seats_are)) (subst K (sym (keys_are ∙ asked.seated.keys)) all) in
        record {
          core = now.core;
          advances = now.advances;
          done = record { turn = step.0; here = refl; outcome = step.1; entry = entry ∙ ap (λ (v : Known). v.history ++ Answer t.session t.name t.at outcome ∷ []) view; free = now.free };
        }
