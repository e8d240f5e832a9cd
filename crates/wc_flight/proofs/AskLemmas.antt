-- An ask hold by hold: its pin, its runs and its answer.
use Rattle.std.proofs.Common.{◌≡◌, ◌≤◌, ◌||◌, ℕ, List, [], ◌∷◌, ◌++◌, sym, ap, subst, ◌∙◌}
use Rattle.std.specs.List.{All, list_any}
use Rattle.std.proofs.lemmas.List.{append-nil}
use Rattle.std.proofs.lemmas.List.Elements.{All-push}
use Rattle.std.proofs.lemmas.List.Folds.{list_any-append}
use Rattle.atomic_table.specs.Seated.{TableId}
use Rattle.wc_model.specs.declared.entries.Asked.{Asked}
use Rattle.wc_model.specs.declared.entries.Entry.{Entry}
use Rattle.wc_model.specs.declared.entries.Entry.TheVariants.{Pin, Start, Finish, Answer}
use Rattle.wc_model.specs.Workspace.Edits.{after}
use Rattle.wc_model.specs.Workspace.History.{Chain}
use Rattle.wc_model.specs.Workspace.States.{Opening}
use Rattle.wc_core.specs.Fits.{Feature}
use Rattle.wc_core.specs.Turns.{OutcomeIs}
use Rattle.wc_core.specs.Views.{KnownFlight, KnownLanded, KnownTicket}
use Rattle.wc_pass.specs.Known.{KnownPass}
use Rattle.wc_flight.specs.Calls.{Answers, Gains, IsRunOf, edits_seen, found_none}
use Rattle.wc_flight.specs.Inner.Holds.{Departs, Finishes, IsUnderway, Lands, Waits}
use Rattle.wc_core.proofs.TestLemmas.{or_false}
use Rattle.wc_flight.proofs.HoldLemmas.{gains_then}

module _ {V : Type 0} (chain : Chain) (feature : Feature V) (own : TableId) (o : Opening) (first old : KnownPass) (name : List ℕ) (t : KnownTicket V) (under : IsUnderway feature own o first old name t) where
  -- the pass is still that of the call's session
  by_first : old.session ≡ first.session
  by_first = under.gains.session_stays

  pub answered : (new : KnownPass) (asked : Asked) → Finishes chain own o old new t asked → Answers chain o first new name asked
  answered new asked is =
      let last : (s : ℕ) (n : List ℕ) → Entry = λ s n. Answer s n asked.at asked.outcome in
      let gains : Gains old new (last first.session name ∷ []) =
      subst (λ s. Gains old new (last s name ∷ [])) by_first (subst (λ n. Gains old new (last old.session n ∷ [])) under.name_is is.gains) in
      let begun : Gains first old (Pin first.session name asked.at ∷ under.runs) = subst (λ n. Gains first old (Pin first.session name n ∷ under.runs)) (sym is.here) under.gains in
      record {
        runs = under.runs;
        own = under.own_runs;
        outcome = subst (λ m. OutcomeIs chain m (after o.image asked.at new.seen) name asked.outcome) under.memory (subst (λ n. OutcomeIs chain t.memory (after o.image asked.at new.seen) n asked.outcome) under.name_is is.outcome);
        gains = gains_then first old new (Pin first.session name asked.at ∷ under.runs) (last first.session name ∷ []) begun gains;
        fresh = subst (λ n. edits_seen first ≤ n) (sym is.here) under.fresh;
      }

  pub waited : (new : KnownPass) (back : KnownTicket V) → Waits feature o old new t back → IsUnderway feature own o first new name back
  waited new back is =
      let begun : Gains first new (Pin first.session name t.at ∷ under.runs) =
      subst (λ l. Gains first new l) (append-nil (Pin first.session name t.at ∷ under.runs)) (gains_then first old new (Pin first.session name t.at ∷ under.runs) [] under.gains is.gains) in
      record {
        held = record { desk_is = is.gains.desk_stays ∙ under.held.desk_is; session_is = ap (λ (x : KnownTicket V). x.session) is.back_is ∙ under.held.session_is ∙ sym is.gains.session_stays };
        name_is = ap (λ (x : KnownTicket V). x.name) is.back_is ∙ under.name_is;
        runs = under.runs;
        own_runs = under.own_runs;
        memory = ap (λ (x : KnownTicket V). x.memory) is.back_is ∙ under.memory;
        gains = subst (λ (x : KnownTicket V). Gains first new (Pin first.session name x.at ∷ under.runs)) (sym is.back_is) begun;
        fresh = subst (λ (x : KnownTicket V). edits_seen first ≤ x.at) (sym is.back_is) under.fresh;
        fits = is.fits;
      }

  -- a run goes out and comes back
  pub ran : (mid new : KnownPass) (f : KnownFlight V) (l : KnownLanded V) (back : KnownTicket V) → Departs feature o old mid t f → l.ticket ≡ f.ticket → Lands feature o mid new l back → IsUnderway feature own o first new name back
  ran mid new f l back out same home =
      let start : Entry = Start old.session f.kind t.name f.stamp in
      let finish : Entry = Finish mid.session l.kind l.ticket.name l.stamp home.end in
      let mine : mid.session ≡ first.session = out.gains.session_stays ∙ by_first in
      let at : back.at ≡ t.at = home.same.at ∙ ap (λ (x : KnownTicket V). x.at) same ∙ out.same.at in
      let called : l.ticket.name ≡ name = ap (λ (x : KnownTicket V). x.name) same ∙ out.same.name ∙ under.name_is in
      let begun : List Entry = Pin first.session name t.at ∷ under.runs in
      let two : Gains first new ((begun ++ start ∷ []) ++ finish ∷ []) = gains_then first mid new (begun ++ start ∷ []) (finish ∷ []) (gains_then first old mid begun (start ∷ []) under.gains out.gains) home.gains in
      record {
        held = record {
          desk_is = home.gains.desk_stays ∙ out.gains.desk_stays ∙ under.held.desk_is;
          session_is = home.same.session ∙ ap (λ (x : KnownTicket V). x.session) same ∙ out.same.session ∙ under.held.session_is ∙ sym out.gains.session_stays ∙ sym home.gains.session_stays;
        };
        name_is = home.same.name ∙ called;
        runs = (under.runs ++ start ∷ []) ++ finish ∷ [];
        own_runs =
            All-push (IsRunOf first.session name) (under.runs ++ start ∷ []) finish
            (All-push (IsRunOf first.session name) under.runs start under.own_runs (by_first, under.name_is))
            (mine, called);
        memory =
            home.memory
            ∙ sym (
            list_any-append found_none (under.runs ++ start ∷ []) (finish ∷ [])
            ∙ ap (λ b. b || list_any found_none (finish ∷ [])) (list_any-append found_none under.runs (start ∷ []) ∙ ap (λ b. b || list_any found_none (start ∷ [])) (sym under.memory ∙ out.calm))
            ∙ or_false (found_none finish)
            );
        gains = subst (λ n. Gains first new (Pin first.session name n ∷ (under.runs ++ start ∷ []) ++ finish ∷ [])) (sym at) two;
        fresh = subst (λ n. edits_seen first ≤ n) (sym at) under.fresh;
        fits = home.fits;
      }
