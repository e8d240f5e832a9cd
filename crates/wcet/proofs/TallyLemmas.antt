-- The runs of the one work are the starts of a history in which no run is out.
use Rattle.std.proofs.Common.{◌≡◌, ℕ, zero, suc, ◌+◌, ◌-◌, ◌<◌, ◌==◌, Bool, true, false, not, ◌&&◌, ◌||◌, List, [], ◌∷◌, ◌++◌, map, take, drop, length, Option, None, Some, refl, sym, ap, subst, ◌∙◌, arith, if◌then◌else◌, eqb-true, take-append-drop}
use Rattle.std.specs.Prelude.{All}
use Rattle.std.specs.List.{list_all}
use Rattle.std.proofs.lemmas.List.{take_more}
use Rattle.std.proofs.lemmas.Option.{slice_get_within, get_or_from_slice_get}
use Rattle.std.proofs.Math.Seq.{take-length}
use Rattle.wc_model.specs.declared.elf_image.Image.{Image}
use Rattle.wc_model.specs.declared.entries.End.{End}
use Rattle.wc_model.specs.declared.entries.Entry.{Entry}
use Rattle.wc_model.specs.declared.entries.Entry.TheVariants as entry
use Rattle.wc_model.specs.declared.flow_facts.Fact.{Fact}
use Rattle.wc_model.specs.declared.machine.Hardware.{Hardware}
use Rattle.wc_model.specs.declared.values.Outcome.{Outcome}
use Rattle.wc_model.specs.Workspace.Closures.{has_kind, order_of}
use Rattle.wc_model.specs.Workspace.Edits.{numbered}
use Rattle.wc_model.specs.Workspace.History.{bound_kind, before, key_with, may_edit, may_refuse, may_pin, may_list, after_edit, after_pin, right_end, allow, step, replay, opened, opening_entries, opening_entry}
use Rattle.wc_model.specs.Workspace.States.{Opening, Key, State, Run, start, home_of, with_home, last_of, all_but_last, own_run, without_own, same_key, stamp_at, count_of, within_reach, is_out}
use Rattle.wc_model.proofs.StepLemmas.{some_same, allowed, started, finished, answered, IsStart}
use Rattle.wc_core.specs.Answers.{RunsNothing, AreRuns}
use Rattle.wc_session.specs.Each.{Each}
use Rattle.wcet.specs.BoundAlone.{bound_alone, plain_opening}
use Rattle.wc_report.specs.ReportText.{IsOfKinds}
use Rattle.wcet.specs.Starts.{starts_of, all_starts, bound_runs}

-- what is known of each entry, and which are starts
abbrev IsBoundEntry : Entry → Type 0
IsBoundEntry (entry.Start session kind name stamp) = kind ≡ bound_kind
IsBoundEntry (entry.Finish session kind name stamp end) = kind ≡ bound_kind
IsBoundEntry (entry.Edit _ _ _) = Unit {0}
IsBoundEntry (entry.NoFact _ _ _) = Unit {0}
IsBoundEntry (entry.Pin _ _ _) = Unit {0}
IsBoundEntry (entry.Answer _ _ _ _) = Unit {0}
IsBoundEntry (entry.List _ _) = Unit {0}

abbrev total : List ℕ → ℕ
total [] = 0
total (n ∷ ns) = n + total ns

total_snoc : (ns : List ℕ) (n : ℕ) → total (ns ++ n ∷ []) ≡ total ns + n
total_snoc [] n = omega arith
total_snoc (m ∷ ns) n = let more = total_snoc ns n in omega (arith, more)

-- the work that goes out is the last one
last_total : (ns : List ℕ) (n : ℕ) → last_of ns ≡ Some n → total ns ≡ total (all_but_last ns) + n
last_total ns n last =
    let within : length ns - 1 < length ns = slice_get_within ns (length ns - 1) n last in
    let parts : ns ≡ all_but_last ns ++ n ∷ [] = sym (take-length ns) ∙ ap (λ (k : ℕ). take k ns) (let more : length ns ≡ length ns - 1 + 1 = omega arith in more) ∙ take_more ns (length ns - 1) n within ∙ ap (λ (k : ℕ). all_but_last ns ++ k ∷ []) (get_or_from_slice_get ns (length ns - 1) n n last) in
    ap total parts ∙ total_snoc (all_but_last ns) n

abbrev flying : List Run → ℕ
flying [] = 0
flying (r ∷ rs) = (r.runs + 1) + flying rs

abbrev IsOfBound : Run → Type 0
IsOfBound r = r.key.kind ≡ bound_kind

record Tally (st : State) (starts : ℕ) : Type 0 where
  pub runs : List ℕ
  pub home_is : st.home ≡ (bound_kind, runs) ∷ []
  pub alone : Each IsOfBound st.out
  pub count : total runs + flying st.out ≡ starts

flying_snoc : (rs : List Run) (r : Run) → flying (rs ++ r ∷ []) ≡ flying rs + (r.runs + 1)
flying_snoc [] r = omega arith
flying_snoc (x ∷ rs) r = let more = flying_snoc rs r in omega (arith, more)

each_snoc : (rs : List Run) (r : Run) → Each IsOfBound rs → IsOfBound r → Each IsOfBound (rs ++ r ∷ [])
each_snoc [] r each is = (is, tt)
each_snoc (x ∷ rs) r each is = (each.0, each_snoc rs r each.1 is)

record IsTakenOut (out : List Run) (session : ℕ) (run : Run) : Type 0 where
  pub kind : run.key.kind ≡ bound_kind
  pub rest : Each IsOfBound (without_own session out)
  pub count : flying out ≡ (run.runs + 1) + flying (without_own session out)

taken_case : (r : Run) (rs : List Run) (session : ℕ) (run : Run) → (Each IsOfBound rs → own_run session rs ≡ Some run → IsTakenOut rs session run)
    → Each IsOfBound (r ∷ rs) → (own : Bool) → (r.session == session) ≡ own → own_run session (r ∷ rs) ≡ Some run → IsTakenOut (r ∷ rs) session run
taken_case r rs session run later each true own is =
    let first : r ≡ run = some_same r run (sym (ap (λ (b : Bool). if b then Some r else own_run session rs) own) ∙ is) in
    let left : without_own session (r ∷ rs) ≡ rs = ap (λ (b : Bool). if b then rs else r ∷ without_own session rs) own in
    record {
      kind = subst (λ (x : Run). IsOfBound x) first each.0;
      rest = subst (λ (xs : List Run). Each IsOfBound xs) (sym left) each.1;
      count = omega (arith, ap flying left, ap (λ (x : Run). x.runs) first);
    }
taken_case r rs session run later each false own is =
    let more = later each.1 (sym (ap (λ (b : Bool). if b then Some r else own_run session rs) own) ∙ is) in
    let left : without_own session (r ∷ rs) ≡ r ∷ without_own session rs = ap (λ (b : Bool). if b then rs else r ∷ without_own session rs) own in
    record {
      kind = more.kind;
      rest = subst (λ (xs : List Run). Each IsOfBound xs) (sym left) (each.0, more.rest);
      count = omega (arith, ap flying left, more.count);
    }

taken_out : (out : List Run) (session : ℕ) (run : Run) → Each IsOfBound out → own_run session out ≡ Some run → IsTakenOut out session run
taken_out [] session run each is = absurd (cc)
taken_out (r ∷ rs) session run each is = taken_case r rs session run (taken_out rs session run) each (r.session == session) refl is

-- tests of starts and of finishes
kind_known : (a b rest last : Bool) → (a && b && rest && last) ≡ true → b ≡ true
kind_known a true rest last is = refl
kind_known false false rest last is = absurd (cc)
kind_known true false rest last is = absurd (cc)

first_of : (a b : Bool) → (a && b) ≡ true → a ≡ true
first_of true b is = refl
first_of false b is = absurd (cc)

or_none : (b : Bool) → (b || false) ≡ true → b ≡ true
or_none true is = refl
or_none false is = is

only_kind : (o : Opening) (kind : ℕ) → o.kinds ≡ bound_alone ∷ [] → has_kind kind (order_of o.kinds) ≡ true → kind ≡ bound_kind
only_kind o kind alone has =
    let here : has_kind kind (bound_kind ∷ []) ≡ true = sym (ap (λ ds. has_kind kind (order_of ds)) alone) ∙ has in
    sym (eqb-true bound_kind kind (or_none (bound_kind == kind) here))

home_runs : (home : List (ℕ × List ℕ)) (runs : List ℕ) (kind : ℕ) → kind ≡ bound_kind → home ≡ (bound_kind, runs) ∷ [] → home_of kind home ≡ runs
home_runs home runs kind is one = ap (λ (k : ℕ). home_of k home) is ∙ ap (home_of bound_kind) one

home_with : (home : List (ℕ × List ℕ)) (runs now : List ℕ) (kind : ℕ) → kind ≡ bound_kind → home ≡ (bound_kind, runs) ∷ [] → with_home kind now home ≡ (bound_kind, now) ∷ []
home_with home runs now kind is one = ap (λ (k : ℕ). with_home k now home) is ∙ ap (with_home bound_kind now) one

module _ (o : Opening) (alone : o.kinds ≡ bound_alone ∷ []) (st : State) (n : ℕ) (t : Tally st n) where
  -- the work that goes out is counted with the run that it makes
  goes_out : (st' : State) (session : ℕ) (key : Key) → key.kind ≡ bound_kind → IsStart o st st' session key → Tally st' (n + 1)
  goes_out st' session key is start =
      let out : Run = record { session = session; key = key; runs = start.runs } in
      let rest : List ℕ = all_but_last (home_of key.kind st.home) in
      let home : home_of key.kind st.home ≡ t.runs = home_runs st.home t.runs key.kind is t.home_is in
      let all : total t.runs ≡ total rest + start.runs = ap total (sym home) ∙ last_total (home_of key.kind st.home) start.runs start.last in
      subst (λ (s : State). Tally s (n + 1)) start.new_is (record {
        runs = rest;
        home_is = home_with st.home t.runs rest key.kind is t.home_is;
        alone = each_snoc st.out out t.alone is;
        count = omega (arith, all, t.count, flying_snoc st.out out);
      })

  starts_bound : (st' : State) (session kind : ℕ) (name : List ℕ) (stamp : ℕ) → step o st (entry.Start session kind name stamp) ≡ Some st' → Tally st' (n + 1) × (kind ≡ bound_kind)
  starts_bound st' session kind name stamp goes =
      let start = started o st st' session kind name stamp goes in
      let is = only_kind o kind alone (kind_known _ (has_kind kind (order_of o.kinds)) (list_all (within_reach o st start.ask) (before kind (order_of o.kinds))) (not (is_out (key_with kind name stamp) st.out)) start.may) in
      (goes_out st' session (key_with kind name stamp) is start, is)

  finishes_bound : (st' : State) (session kind : ℕ) (name : List ℕ) (stamp : ℕ) (end : End) → step o st (entry.Finish session kind name stamp end) ≡ Some st' → Tally st' n × (kind ≡ bound_kind)
  finishes_bound st' session kind name stamp end goes =
      let done = finished o st st' session kind name stamp end goes in
      let run : Run = done.run in
      let out = taken_out st.out session run t.alone done.own in
      let key : same_key run.key (key_with kind name stamp) ≡ true = first_of (same_key run.key (key_with kind name stamp)) (right_end end (stamp == stamp_at o st kind (count_of st))) done.may in
      let is : kind ≡ bound_kind = sym (eqb-true run.key.kind kind (first_of (run.key.kind == kind) _ (first_of _ (run.key.stamp == stamp) key))) ∙ out.kind in
      let home : home_of kind st.home ≡ t.runs = home_runs st.home t.runs kind is t.home_is in
      let back : List ℕ = home_of kind st.home ++ (run.runs + 1) ∷ [] in (
        subst (λ (s : State). Tally s n) done.new_is (record {
          runs = back;
          home_is = home_with st.home t.runs back kind is t.home_is;
          alone = out.rest;
          count = omega (arith, total_snoc (home_of kind st.home) (run.runs + 1), ap total home, t.count, out.count);
        }),
        is,
      )

  answers_bound : (st' : State) (session : ℕ) (name : List ℕ) (at : ℕ) (outcome : Outcome) → step o st (entry.Answer session name at outcome) ≡ Some st' → Tally st' n
  answers_bound st' session name at outcome goes =
      let done = answered o st st' session name at outcome goes in
      subst (λ (s : State). Tally s n) done.new_is (record { runs = t.runs; home_is = t.home_is; alone = t.alone; count = t.count })

  stays : (legal : Bool) (next st' : State) → next.home ≡ st.home → next.out ≡ st.out → allow legal next ≡ Some st' → Tally st' n
  stays legal next st' home out goes =
      subst (λ (s : State). Tally s n) (allowed legal next st' goes).1 (record {
        runs = t.runs;
        home_is = home ∙ t.home_is;
        alone = subst (Each IsOfBound) (sym out) t.alone;
        count = omega (arith, t.count, ap flying out);
      })

abbrev starts_in : Entry → ℕ
starts_in (entry.Start _ _ _ _) = 1
starts_in (entry.Finish _ _ _ _ _) = 0
starts_in (entry.Edit _ _ _) = 0
starts_in (entry.NoFact _ _ _) = 0
starts_in (entry.Pin _ _ _) = 0
starts_in (entry.Answer _ _ _ _) = 0
starts_in (entry.List _ _) = 0

abbrev all_in : List Entry → ℕ
all_in [] = 0
all_in (e ∷ es) = starts_in e + all_in es

module _ (o : Opening) (alone : o.kinds ≡ bound_alone ∷ []) where
  plus_none : (st : State) (n : ℕ) → Tally st n → Tally st (n + 0)
  plus_none st n t = let same : n ≡ n + 0 = omega arith in subst (λ (m : ℕ). Tally st m) same t

  stepped_tally : (st st' : State) (n : ℕ) (t : Tally st n) (e : Entry) → step o st e ≡ Some st' → Tally st' (n + starts_in e) × IsBoundEntry e
  stepped_tally st st' n t (entry.Edit session count edit) goes = (plus_none st' n (stays o alone st n t (may_edit o st session count edit) (after_edit o st edit) st' refl refl goes), tt)
  stepped_tally st st' n t (entry.NoFact session number at) goes = (plus_none st' n (stays o alone st n t (may_refuse o st session number at) st st' refl refl goes), tt)
  stepped_tally st st' n t (entry.Pin session name at) goes = (plus_none st' n (stays o alone st n t (may_pin o st session at) (after_pin st session name) st' refl refl goes), tt)
  stepped_tally st st' n t (entry.List session at) goes = (plus_none st' n (stays o alone st n t (may_list o st session at) st st' refl refl goes), tt)
  stepped_tally st st' n t (entry.Start session kind name stamp) goes = starts_bound o alone st n t st' session kind name stamp goes
  stepped_tally st st' n t (entry.Finish session kind name stamp end) goes =
      let done = finishes_bound o alone st n t st' session kind name stamp end goes in
      (plus_none st' n done.0, done.1)
  stepped_tally st st' n t (entry.Answer session name at outcome) goes = (plus_none st' n (answers_bound o alone st n t st' session name at outcome goes), tt)

  nothing_on : (es : List Entry) → replay o None es ≡ None
  nothing_on [] = refl
  nothing_on (e ∷ es) = nothing_on es

  tallied_case : (e : Entry) (es : List Entry) (st last : State) (n : ℕ) → Tally st n
      → ((st' : State) (m : ℕ) → Tally st' m → replay o (Some st') es ≡ Some last → Tally last (m + all_in es) × Each IsBoundEntry es)
      → (next : Option State) → step o st e ≡ next → replay o next es ≡ Some last → Tally last (n + (starts_in e + all_in es)) × Each IsBoundEntry (e ∷ es)
  tallied_case e es st last n t more None stops on = let none = sym (nothing_on es) ∙ on in absurd (cc)
  tallied_case e es st last n t more (Some st') is on =
      let one = stepped_tally st st' n t e is in
      let rest = more st' (n + starts_in e) one.0 on in
      let same : (n + starts_in e) + all_in es ≡ n + (starts_in e + all_in es) = omega arith in
      (subst (λ (m : ℕ). Tally last m) same rest.0, (one.1, rest.1))

  tallied : (es : List Entry) (st last : State) (n : ℕ) → Tally st n → replay o (Some st) es ≡ Some last → Tally last (n + all_in es) × Each IsBoundEntry es
  tallied [] st last n t goes = (plus_none last n (subst (λ (s : State). Tally s n) (some_same st last goes) t), tt)
  tallied (e ∷ es) st last n t goes = tallied_case e es st last n t (λ st' m. tallied es st' last m) (step o st e) refl goes

-- what the entries of one kind say of starts
bound_starts : (es : List Entry) → Each IsBoundEntry es → starts_of bound_kind es ≡ all_in es
bound_starts [] each = refl
bound_starts (entry.Start session kind name stamp ∷ es) each =
    ap (λ (k : ℕ). if k == bound_kind then starts_of bound_kind es + 1 else starts_of bound_kind es) each.0 ∙ (let more = bound_starts es each.1 in omega (arith, more))
bound_starts (entry.Finish _ _ _ _ _ ∷ es) each = let more = bound_starts es each.1 in omega (arith, more)
bound_starts (entry.Edit _ _ _ ∷ es) each = let more = bound_starts es each.1 in omega (arith, more)
bound_starts (entry.NoFact _ _ _ ∷ es) each = let more = bound_starts es each.1 in omega (arith, more)
bound_starts (entry.Pin _ _ _ ∷ es) each = let more = bound_starts es each.1 in omega (arith, more)
bound_starts (entry.Answer _ _ _ _ ∷ es) each = let more = bound_starts es each.1 in omega (arith, more)
bound_starts (entry.List _ _ ∷ es) each = let more = bound_starts es each.1 in omega (arith, more)

other_starts : (kind : ℕ) (es : List Entry) → (bound_kind == kind) ≡ false → Each IsBoundEntry es → starts_of kind es ≡ 0
other_starts kind [] other each = refl
other_starts kind (entry.Start session k name stamp ∷ es) other each =
    ap (λ (j : ℕ). if j == kind then starts_of kind es + 1 else starts_of kind es) each.0 ∙ ap (λ (b : Bool). if b then starts_of kind es + 1 else starts_of kind es) other ∙ other_starts kind es other each.1
other_starts kind (entry.Finish _ _ _ _ _ ∷ es) other each = other_starts kind es other each.1
other_starts kind (entry.Edit _ _ _ ∷ es) other each = other_starts kind es other each.1
other_starts kind (entry.NoFact _ _ _ ∷ es) other each = other_starts kind es other each.1
other_starts kind (entry.Pin _ _ _ ∷ es) other each = other_starts kind es other each.1
other_starts kind (entry.Answer _ _ _ _ ∷ es) other each = other_starts kind es other each.1
other_starts kind (entry.List _ _ ∷ es) other each = other_starts kind es other each.1

is_of_kinds : (e : Entry) → IsBoundEntry e → IsOfKinds e
is_of_kinds (entry.Start session kind name stamp) is = (omega (arith, is), omega (arith, is))
is_of_kinds (entry.Finish session kind name stamp end) is = (omega (arith, is), omega (arith, is))
is_of_kinds (entry.Edit _ _ _) is = tt
is_of_kinds (entry.NoFact _ _ _) is = tt
is_of_kinds (entry.Pin _ _ _) is = tt
is_of_kinds (entry.Answer _ _ _ _) is = tt
is_of_kinds (entry.List _ _) is = tt

all_of_kinds : (es : List Entry) → Each IsBoundEntry es → All IsOfKinds es
all_of_kinds [] each k d within = absurd (omega arith)
all_of_kinds (e ∷ es) each zero d within = is_of_kinds e each.0
all_of_kinds (e ∷ es) each (suc k) d within = all_of_kinds es each.1 k d (omega arith)

-- the opening edits start nothing
opened_each : (number : ℕ) (facts : List Fact) (es : List Entry) → Each IsBoundEntry es → Each IsBoundEntry (map opening_entry (numbered number facts) ++ es)
opened_each number [] es each = each
opened_each number (f ∷ fs) es each = (tt, opened_each (number + 1) fs es each)

opened_in : (number : ℕ) (facts : List Fact) (es : List Entry) → all_in (map opening_entry (numbered number facts) ++ es) ≡ all_in es
opened_in number [] es = refl
opened_in number (f ∷ fs) es = let more = opened_in (number + 1) fs es in omega (arith, more)

-- the opening entries and then those that are replayed
split : (o : Opening) (history : List Entry) → take (opened o) history ≡ opening_entries o → history ≡ opening_entries o ++ drop (opened o) history
split o history begins = sym (take-append-drop (opened o) history) ∙ ap (λ (xs : List Entry). xs ++ drop (opened o) history) begins

module _ (image : Image) (hardware : Hardware) (facts : List Fact) (history : List Entry) (begins : take (length facts + 1) history ≡ opening_entries (plain_opening image hardware facts)) (rests : RunsNothing (plain_opening image hardware facts) history) where
  abbrev o : Opening
  o = plain_opening image hardware facts

  fresh : Tally (start o) 0
  fresh = record { runs = 0 ∷ []; home_is = refl; alone = tt; count = omega arith }

  all : Tally rests.st (0 + all_in (drop (opened o) history)) × Each IsBoundEntry (drop (opened o) history)
  all = tallied o refl (drop (opened o) history) (start o) rests.st 0 fresh rests.state

  each : Each IsBoundEntry history
  each = subst (Each IsBoundEntry) (sym (split o history begins)) (tt, opened_each 2 facts (drop (opened o) history) all.1)

  pub kinds_known : All IsOfKinds history
  kinds_known = all_of_kinds history each

  pub starts_known : (runs : ℕ) → AreRuns o history ((bound_kind, runs) ∷ []) → bound_runs runs ≡ all_starts history
  starts_known runs are =
      let one : runs ∷ [] ≡ all.0.runs = are rests.st rests.state bound_kind ∙ home_runs rests.st.home all.0.runs bound_kind refl all.0.home_is in
      let started : runs ≡ all_in history =
      omega (arith, ap total one, all.0.count, ap flying rests.none, ap all_in (split o history begins), opened_in 2 facts (drop (opened o) history)) in
      let last : starts_of 11 history ≡ runs = bound_starts history each ∙ sym started in
      let none = λ (kind : ℕ) (other : (bound_kind == kind) ≡ false). other_starts kind history other each in
      sym (eleven (none 1 refl) (none 2 refl) (none 3 refl) (none 4 refl) (none 5 refl) (none 6 refl) (none 7 refl) (none 8 refl) (none 9 refl) (none 10 refl) last)
    where
      eleven : {a b c d e f g h i j k r : ℕ} → a ≡ 0 → b ≡ 0 → c ≡ 0 → d ≡ 0 → e ≡ 0 → f ≡ 0 → g ≡ 0 → h ≡ 0 → i ≡ 0 → j ≡ 0 → k ≡ r
          → a ∷ b ∷ c ∷ d ∷ e ∷ f ∷ g ∷ h ∷ i ∷ j ∷ k ∷ [] ≡ 0 ∷ 0 ∷ 0 ∷ 0 ∷ 0 ∷ 0 ∷ 0 ∷ 0 ∷ 0 ∷ 0 ∷ r ∷ []
      eleven a b c d e f g h i j k = cc
