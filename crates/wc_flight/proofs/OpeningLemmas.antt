-- The passes of a new workspace.
use Rattle.std.proofs.Common.{◌≡◌, ℕ, zero, suc, ◌+◌, ◌≤◌, List, [], ◌∷◌, ◌++◌, map, refl, sym, ap, subst, ◌∙◌, arith}
use Rattle.std.specs.List.{All, range_with_len}
use Rattle.std.proofs.lemmas.List.{map-append}
use Rattle.std.proofs.lemmas.List.Elements.{All-cons, All-nil, All-push}
use Rattle.atomic_table.specs.Seated.{TableId}
use Rattle.wc_model.specs.declared.entries.Entry.{Entry}
use Rattle.wc_model.specs.Workspace.Entries.{session_of}
use Rattle.wc_model.specs.declared.flow_facts.Fact.{Fact}
use Rattle.wc_model.specs.Workspace.History.{Chain, opening_entries, opening_entry, opening_facts}
use Rattle.wc_model.specs.Workspace.States.{Opening}
use Rattle.wc_core.specs.Answers.{LeavesFree}
use Rattle.wc_core.specs.Openings.{IsOpened}
use Rattle.wc_core.specs.Views.{Known}
use Rattle.wc_pass.specs.Known.{Known as KnownPen, KnownPass, new_passes}
use Rattle.wc_flight.specs.Calls.{IsReady}
use Rattle.wc_flight.specs.Openings.{AreFirst, ArePrepared, shown}

-- the pass of a session that has seen a history
abbrev pub pass_with : TableId → List Entry → ℕ → KnownPass
pass_with own history session = record { desk = own; seen = history; session = session }

-- what holds of the pass of each session holds of all
pub each_new : (P : KnownPass → Type 0) (own : TableId) (history : List Entry) (n : ℕ) → ((s : ℕ) → 1 ≤ s → s ≤ n → P (pass_with own history s)) → All P (map (shown history) (new_passes own n))
each_new P own history zero each = All-nil P
each_new P own history (suc n) each =
    subst (λ l. All P l) (sym (map-append (shown history) (new_passes own n) (pass_with own [] (suc n) ∷ [])))
    (All-push P (map (shown history) (new_passes own n)) (pass_with own history (suc n))
    (each_new P own history n (λ s one within. each s one (omega (arith, within)))) (each (suc n) (omega arith) (omega arith)))

range_more : (a n : ℕ) → range_with_len a (suc n) ≡ range_with_len a n ++ (a + n) ∷ []
range_more a zero = let same : a ≡ a + 0 = omega arith in ap (λ x. x ∷ []) same
range_more a (suc n) =
    let same : a + 1 + n ≡ a + suc n = omega arith in
    ap (λ l. a ∷ l) (range_more (a + 1) n ∙ ap (λ x. range_with_len (a + 1) n ++ x ∷ []) same)

numbered_new : (own : TableId) (history : List Entry) (n : ℕ) → map (λ (p : KnownPass). p.session) (map (shown history) (new_passes own n)) ≡ range_with_len 1 n
numbered_new own history zero = refl
numbered_new own history (suc n) =
    let next : suc n ≡ 1 + n = omega arith in
    ap (λ l. map (λ (p : KnownPass). p.session) l) (map-append (shown history) (new_passes own n) (pass_with own [] (suc n) ∷ []))
    ∙ map-append (λ (p : KnownPass). p.session) (map (shown history) (new_passes own n)) (pass_with own history (suc n) ∷ [])
    ∙ ap (λ l. l ++ (suc n) ∷ []) (numbered_new own history n)
    ∙ ap (λ x. range_with_len 1 n ++ x ∷ []) next
    ∙ sym (range_more 1 n)

pub prepared : (chain : Chain) (own : TableId) (core : Known) (o : Opening) (pen : KnownPen) (passes : List KnownPass) (sessions : ℕ) → IsOpened chain o core → o.sessions ≡ sessions
    → pen ≡ record { desk = own; seen = core.history } → passes ≡ map (shown core.history) (new_passes own sessions) → ArePrepared chain own core pen passes
prepared chain own core o pen passes sessions opened counted pen_is passes_are =
    let L : Opening → Type 0 = λ x. ArePrepared chain own (record { opening = x; history = core.history }) pen passes in
    let A : List KnownPass → Type 0 = λ ps. AreFirst own o ps in
    let n_is : map (shown core.history) (new_passes own o.sessions) ≡ passes = ap (λ n. map (shown core.history) (new_passes own n)) counted ∙ sym passes_are in
    let first : AreFirst own o passes =
    subst A n_is (record {
      all = record {
        numbered = numbered_new own core.history o.sessions;
        ready = each_new (IsReady own o) own core.history o.sessions (λ s one within. record { desk_is = refl; free = opened.free s one within });
      };
      seen = each_new (λ p. p.seen ≡ opening_entries o) own core.history o.sessions (λ s one within. opened.history);
    }) in
    subst L (sym opened.opening) (record {
      locked = record { opening = refl; desk_is = ap (λ (p : KnownPen). p.desk) pen_is; seen = ap (λ (p : KnownPen). p.seen) pen_is; legal = opened.legal };
      first = first;
    })

-- The opening entries are by no session.
none_by : (facts : List (ℕ × Fact)) → All (λ e. session_of e ≡ 0) (map opening_entry facts)
none_by [] = All-nil (λ e. session_of e ≡ 0)
none_by (f ∷ fs) = All-cons (λ e. session_of e ≡ 0) (opening_entry f) (map opening_entry fs) refl (none_by fs)

by_none : (o : Opening) → All (λ e. session_of e ≡ 0) (opening_entries o)
by_none o = All-cons (λ e. session_of e ≡ 0) _ (map opening_entry (opening_facts o.facts)) refl (none_by (opening_facts o.facts))

pub opened_by_none : (chain : Chain) (o : Opening) (core : Known) (history : List Entry) → history ≡ core.history → IsOpened chain o core → All (λ e. session_of e ≡ 0) history
opened_by_none chain o core history is opened = subst (λ h. All (λ e. session_of e ≡ 0) h) (sym (is ∙ opened.history)) (by_none o)
