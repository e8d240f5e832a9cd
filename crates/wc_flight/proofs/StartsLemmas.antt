-- The works of a kind, at home and out, run as often as the kind is started, and none is lost.
use Rattle.std.proofs.Common.{◌≡◌, ◌≢◌, ℕ, zero, suc, ◌+◌, ◌*◌, ◌-◌, ◌≤◌, ◌==◌, Bool, true, false, ◌||◌, ◌&&◌, cond, List, [], ◌∷◌, ◌++◌, drop, take, filter, find, length, map, replicate, reverse, Option, None, Some, slice_get, refl, sym, ap, subst, ◌∙◌, arith, eq-eqb, eqb-true, if◌then◌else◌}
use Rattle.std.specs.List.{sum, sum_by}
use Rattle.std.specs.Option.{option_map_or}
use Rattle.std.proofs.lemmas.Bool.{and_parts, eqb-false}
use Rattle.std.proofs.lemmas.List.{length-reverse, take-append-drop}
use Rattle.std.proofs.lemmas.List.Elements.{filter-append}
use Rattle.std.proofs.lemmas.List.Folds.{sum_by-replicate}
use Rattle.std.proofs.lemmas.List.Sums.{sum_by-cons, sum_by_push}
use Rattle.wc_model.specs.declared.entries.End.{End}
use Rattle.wc_model.specs.declared.entries.Entry.{Entry}
use Rattle.wc_model.specs.declared.entries.Entry.TheVariants.{Edit as EditEntry, NoFact, Pin, Start, Finish, Answer, List as ListEntry}
use Rattle.wc_model.specs.declared.flow_facts.Fact.{Fact}
use Rattle.wc_model.specs.Workspace.Closures.{has_kind}
use Rattle.wc_model.specs.Workspace.History.{Chain, IsLegal, step, replay, state_after, opened, opening_entries, opening_entry, opening_facts, after_edit, after_pin, after_answer, key_with, may_edit, may_refuse, may_pin, may_list, right_end}
use Rattle.wc_model.specs.Workspace.States.{Opening, Key, State, Run, start, all_but_last, count_of, home_of, last_of, own_run, same_key, same_name, stamp_at, with_home, without_own}
use Rattle.wc_model.proofs.StepLemmas.{IsFinish, IsStart, allowed, answered, finished, some_same, started}
use Rattle.wc_core.specs.Answers.{AreRuns, RunsNothing}
use Rattle.wc_core.specs.Inner.Works.{runs_with}
use Rattle.wc_core.proofs.WorkLemmas.{home_names, home_other, home_same, reverse_cons}
use Rattle.wc_flight.specs.Closing.{is_start, starts_of, works_for}
use Rattle.wc_flight.proofs.OthersLemmas.{went_on}

-- Lists of runs that are out.

abbrev weigh : (Run → ℕ) → List Run → ℕ
weigh f [] = 0
weigh f (r ∷ rs) = f r + weigh f rs

weigh_push : (f : Run → ℕ) (rs : List Run) (r : Run) → weigh f (rs ++ r ∷ []) ≡ weigh f rs + f r
weigh_push f [] r = omega arith
weigh_push f (x ∷ rs) r = let later = weigh_push f rs r in omega (arith, later)

without_case : (f : Run → ℕ) (x r : Run) (rs rest : List Run) (here : Bool) → (own : Option Run) → cond here (Some x) own ≡ Some r → (own ≡ Some r → weigh f rest + f r ≡ weigh f rs)
    → weigh f (if here then rs else x ∷ rest) + f r ≡ f x + weigh f rs
without_case f x r rs rest true own is later = let same : f x ≡ f r = ap f (some_same x r is) in omega (arith, same)
without_case f x r rs rest false own is later = let rest_is = later is in omega (arith, rest_is)

weigh_without : (f : Run → ℕ) (s : ℕ) (rs : List Run) (r : Run) → own_run s rs ≡ Some r → weigh f (without_own s rs) + f r ≡ weigh f rs
weigh_without f s [] r is = cc
weigh_without f s (x ∷ rs) r is = without_case f x r rs (without_own s rs) (x.session == s) (own_run s rs) is (weigh_without f s rs r)

-- Each run that is out is of a kind that has works.
abbrev AreOf : List ℕ → List Run → Type 0
AreOf kinds [] = Unit {0}
AreOf kinds (r ∷ rs) = (has_kind r.key.kind kinds ≡ true) × AreOf kinds rs

of_push : (kinds : List ℕ) (rs : List Run) (r : Run) → AreOf kinds rs → has_kind r.key.kind kinds ≡ true → AreOf kinds (rs ++ r ∷ [])
of_push kinds [] r all is = (is, tt)
of_push kinds (x ∷ rs) r all is = (all.0, of_push kinds rs r all.1 is)

of_case : (kinds : List ℕ) (x : Run) (rs rest : List Run) (here : Bool) → AreOf kinds (x ∷ rs) → AreOf kinds rest → AreOf kinds (if here then rs else x ∷ rest)
of_case kinds x rs rest true all later = all.1
of_case kinds x rs rest false all later = (all.0, later)

of_without : (kinds : List ℕ) (s : ℕ) (rs : List Run) → AreOf kinds rs → AreOf kinds (without_own s rs)
of_without kinds s [] all = tt
of_without kinds s (x ∷ rs) all = of_case kinds x rs (without_own s rs) (x.session == s) all (of_without kinds s rs all.1)

own_case : (kinds : List ℕ) (x r : Run) (rs : List Run) (here : Bool) (own : Option Run) → cond here (Some x) own ≡ Some r → AreOf kinds (x ∷ rs) → (own ≡ Some r → has_kind r.key.kind kinds ≡ true) → has_kind r.key.kind kinds ≡ true
own_case kinds x r rs true own is all later = let same : x.key.kind ≡ r.key.kind = ap (λ (y : Run). y.key.kind) (some_same x r is) in subst (λ k. has_kind k kinds ≡ true) same all.0
own_case kinds x r rs false own is all later = later is

of_own : (kinds : List ℕ) (s : ℕ) (rs : List Run) (r : Run) → AreOf kinds rs → own_run s rs ≡ Some r → has_kind r.key.kind kinds ≡ true
of_own kinds s [] r all is = cc
of_own kinds s (x ∷ rs) r all is = own_case kinds x r rs (x.session == s) (own_run s rs) is all (of_own kinds s rs r all.1)

-- The works at home.

abbrev kinds_of : State → List ℕ
kinds_of st = map (λ h. h.0) st.home

ends_at : (k : ℕ) (xs : List ℕ) (n : ℕ) → slice_get xs k ≡ Some n → length xs ≤ k + 1 → xs ≡ take k xs ++ n ∷ []
ends_at k [] n is within = cc
ends_at zero (x ∷ []) n is within = ap (λ y. y ∷ []) (some_same x n is)
ends_at zero (x ∷ y ∷ ys) n is within = absurd (omega arith)
ends_at (suc k) (x ∷ xs) n is within = ap (λ ys. x ∷ ys) (ends_at k xs n is (omega arith))

parts_of : (xs : List ℕ) (n : ℕ) → last_of xs ≡ Some n → xs ≡ all_but_last xs ++ n ∷ []
parts_of xs n is = ends_at (length xs - 1) xs n is (omega arith)

there_case : (k : ℕ) (h : ℕ × List ℕ) (hs : List (ℕ × List ℕ)) (here : Bool) (n : ℕ) → last_of (option_map_or (λ (g : ℕ × List ℕ). g.1) (cond here (Some h) (find (λ g. g.0 == k) hs)) []) ≡ Some n
    → (last_of (home_of k hs) ≡ Some n → has_kind k (map (λ (g : ℕ × List ℕ). g.0) hs) ≡ true) → (here || has_kind k (map (λ (g : ℕ × List ℕ). g.0) hs)) ≡ true
there_case k h hs true n is later = refl
there_case k h hs false n is later = later is

there : (k : ℕ) (home : List (ℕ × List ℕ)) (n : ℕ) → last_of (home_of k home) ≡ Some n → has_kind k (map (λ (g : ℕ × List ℕ). g.0) home) ≡ true
there k [] n is = cc
there k (h ∷ hs) n is = there_case k h hs (h.0 == k) n is (there k hs n)

-- The kind of a run that is taken back.
own_kind : (o : Opening) (st new : State) (session : ℕ) (key : Key) (end : End) → (is : IsFinish o st new session key end) → is.run.key.kind ≡ key.kind
own_kind o st new session key end is =
    let run : Run = is.run in
    let may = and_parts (same_key run.key key) (right_end end (key.stamp == stamp_at o st key.kind (count_of st))) is.may in
    let two = and_parts (run.key.kind == key.kind && same_name run.key.name key.name) (run.key.stamp == key.stamp) may.0 in
    eqb-true run.key.kind key.kind (and_parts (run.key.kind == key.kind) (same_name run.key.name key.name) two.0).0

same_of : (st new : State) → new.home ≡ st.home → new.out ≡ st.out → AreOf (kinds_of st) st.out → AreOf (kinds_of new) new.out
same_of st new home out all = subst (λ h. AreOf (map (λ (x : ℕ × List ℕ). x.0) h) new.out) (sym home) (subst (AreOf (kinds_of st)) (sym out) all)

of_step : (o : Opening) (st new : State) (e : Entry) → step o st e ≡ Some new → AreOf (kinds_of st) st.out → AreOf (kinds_of new) new.out
of_step o st new (EditEntry session count edit) goes all =
    let is = (allowed (may_edit o st session count edit) (after_edit o st edit) new goes).1 in same_of st new (ap (λ (x : State). x.home) (sym is)) (ap (λ (x : State). x.out) (sym is)) all
of_step o st new (NoFact session number at) goes all =
    let is = (allowed (may_refuse o st session number at) st new goes).1 in same_of st new (ap (λ (x : State). x.home) (sym is)) (ap (λ (x : State). x.out) (sym is)) all
of_step o st new (ListEntry session at) goes all =
    let is = (allowed (may_list o st session at) st new goes).1 in same_of st new (ap (λ (x : State). x.home) (sym is)) (ap (λ (x : State). x.out) (sym is)) all
of_step o st new (Pin session name at) goes all =
    let is = (allowed (may_pin o st session at) (after_pin st session name) new goes).1 in same_of st new (ap (λ (x : State). x.home) (sym is)) (ap (λ (x : State). x.out) (sym is)) all
of_step o st new (Start session kind name stamp) goes all =
    let is = started o st new session kind name stamp goes in
    let A : State → Type 0 = λ x. AreOf (kinds_of x) x.out in
    let listed = there kind st.home is.runs is.last in
    subst A is.new_is (subst (λ ks. AreOf ks (st.out ++ record { session = session; key = key_with kind name stamp; runs = is.runs } ∷ [])) (sym (home_names kind (all_but_last (home_of kind st.home)) st.home))
    (of_push (kinds_of st) st.out _ all listed))
of_step o st new (Finish session kind name stamp end) goes all =
    let is = finished o st new session kind name stamp end goes in
    let A : State → Type 0 = λ x. AreOf (kinds_of x) x.out in
    subst A is.new_is (subst (λ ks. AreOf ks (without_own session st.out)) (sym (home_names kind (home_of kind st.home ++ (is.run.runs + 1) ∷ []) st.home)) (of_without (kinds_of st) session st.out all))
of_step o st new (Answer session name at outcome) goes all =
    let is = (answered o st new session name at outcome goes).new_is in same_of st new (ap (λ (x : State). x.home) (sym is)) (ap (λ (x : State). x.out) (sym is)) all

-- What the works of a kind weigh, at home by `v` of their runs and out by `w`, and how much each start of it adds.
module _ (v w : ℕ → ℕ) (d kind : ℕ) (out_is : (n : ℕ) → w n ≡ v n + d) (back_is : (n : ℕ) → v (n + 1) ≡ w n) where
  abbrev out_weight : Run → ℕ
  out_weight r = cond (r.key.kind == kind) (w r.runs) 0

  abbrev total : State → ℕ
  total st = sum_by v (home_of kind st.home) + weigh out_weight st.out

  abbrev gained : List Entry → ℕ
  gained [] = 0
  gained (e ∷ es) = cond (is_start kind e) d 0 + gained es

  same_total : (st new : State) → new.home ≡ st.home → new.out ≡ st.out → total new ≡ total st + 0
  same_total st new home out =
      let h : sum_by v (home_of kind new.home) ≡ sum_by v (home_of kind st.home) = ap (λ x. sum_by v (home_of kind x)) home in
      let o : weigh out_weight new.out ≡ weigh out_weight st.out = ap (weigh out_weight) out in
      omega (arith, h, o)

  start_case : (o : Opening) (st new : State) (session : ℕ) (key : Key) → IsStart o st new session key → (same : Bool) → (key.kind == kind) ≡ same → total new ≡ total st + cond same d 0
  start_case o st new session key is true same =
      let at : key.kind ≡ kind = eqb-true key.kind kind same in
      let run : Run = record { session = session; key = key; runs = is.runs } in
      let H : List ℕ → List (ℕ × List ℕ) = λ runs. with_home key.kind runs st.home in
      let old : List ℕ = home_of key.kind st.home in
      let home : home_of kind new.home ≡ all_but_last old =
      ap (λ (x : State). home_of kind x.home) (sym is.new_is) ∙ ap (λ k. home_of k (H (all_but_last old))) (sym at) ∙ home_same key.kind (all_but_last old) st.home (there key.kind st.home is.runs is.last) in
      let before : sum_by v (home_of kind st.home) ≡ sum_by v (all_but_last old) + v is.runs =
      ap (λ k. sum_by v (home_of k st.home)) (sym at) ∙ ap (sum_by v) (parts_of old is.runs is.last) ∙ sum_by_push v (all_but_last old) is.runs in
      let after : sum_by v (home_of kind new.home) ≡ sum_by v (all_but_last old) = ap (sum_by v) home in
      let weight : out_weight run ≡ w is.runs = ap (λ b. cond b (w is.runs) 0) same in
      let out : weigh out_weight new.out ≡ weigh out_weight st.out + out_weight run = ap (λ (x : State). weigh out_weight x.out) (sym is.new_is) ∙ weigh_push out_weight st.out run in
      let gain = out_is is.runs in
      omega (arith, before, after, weight, out, gain)
  start_case o st new session key is false same =
      let apart : key.kind ≢ kind = eqb-false key.kind kind same in
      let run : Run = record { session = session; key = key; runs = is.runs } in
      let home : sum_by v (home_of kind new.home) ≡ sum_by v (home_of kind st.home) =
      ap (sum_by v) (ap (λ (x : State). home_of kind x.home) (sym is.new_is) ∙ home_other key.kind kind (all_but_last (home_of key.kind st.home)) st.home apart) in
      let weight : out_weight run ≡ 0 = ap (λ b. cond b (w is.runs) 0) same in
      let out : weigh out_weight new.out ≡ weigh out_weight st.out + out_weight run = ap (λ (x : State). weigh out_weight x.out) (sym is.new_is) ∙ weigh_push out_weight st.out run in
      omega (arith, home, weight, out)

  finish_case : (o : Opening) (st new : State) (session : ℕ) (key : Key) (end : End) → AreOf (kinds_of st) st.out → (is : IsFinish o st new session key end) → is.run.key.kind ≡ key.kind
      → (same : Bool) → (key.kind == kind) ≡ same → total new ≡ total st + 0
  finish_case o st new session key end all is own true same =
      let at : key.kind ≡ kind = eqb-true key.kind kind same in
      let old : List ℕ = home_of key.kind st.home in
      let more : List ℕ = old ++ (is.run.runs + 1) ∷ [] in
      let listed : has_kind key.kind (kinds_of st) ≡ true = subst (λ k. has_kind k (kinds_of st) ≡ true) own (of_own (kinds_of st) session st.out is.run all is.own) in
      let home : home_of kind new.home ≡ more =
      ap (λ (x : State). home_of kind x.home) (sym is.new_is) ∙ ap (λ k. home_of k (with_home key.kind more st.home)) (sym at) ∙ home_same key.kind more st.home listed in
      let after : sum_by v (home_of kind new.home) ≡ sum_by v old + v (is.run.runs + 1) = ap (sum_by v) home ∙ sum_by_push v old (is.run.runs + 1) in
      let before : sum_by v (home_of kind st.home) ≡ sum_by v old = ap (λ k. sum_by v (home_of k st.home)) (sym at) in
      let weight : out_weight is.run ≡ w is.run.runs = ap (λ k. cond (k == kind) (w is.run.runs) 0) own ∙ ap (λ b. cond b (w is.run.runs) 0) same in
      let out : weigh out_weight new.out + out_weight is.run ≡ weigh out_weight st.out =
      ap (λ (x : State). weigh out_weight x.out + out_weight is.run) (sym is.new_is) ∙ weigh_without out_weight session st.out is.run is.own in
      let back = back_is is.run.runs in
      omega (arith, after, before, weight, out, back)
  finish_case o st new session key end all is own false same =
      let apart : key.kind ≢ kind = eqb-false key.kind kind same in
      let home : sum_by v (home_of kind new.home) ≡ sum_by v (home_of kind st.home) =
      ap (sum_by v) (ap (λ (x : State). home_of kind x.home) (sym is.new_is) ∙ home_other key.kind kind (home_of key.kind st.home ++ (is.run.runs + 1) ∷ []) st.home apart) in
      let weight : out_weight is.run ≡ 0 = ap (λ k. cond (k == kind) (w is.run.runs) 0) own ∙ ap (λ b. cond b (w is.run.runs) 0) same in
      let out : weigh out_weight new.out + out_weight is.run ≡ weigh out_weight st.out =
      ap (λ (x : State). weigh out_weight x.out + out_weight is.run) (sym is.new_is) ∙ weigh_without out_weight session st.out is.run is.own in
      omega (arith, home, weight, out)

  total_step : (o : Opening) (st new : State) (e : Entry) → AreOf (kinds_of st) st.out → step o st e ≡ Some new → total new ≡ total st + cond (is_start kind e) d 0
  total_step o st new (EditEntry session count edit) all goes =
      let is = (allowed (may_edit o st session count edit) (after_edit o st edit) new goes).1 in same_total st new (ap (λ (x : State). x.home) (sym is)) (ap (λ (x : State). x.out) (sym is))
  total_step o st new (NoFact session number at) all goes =
      let is = (allowed (may_refuse o st session number at) st new goes).1 in same_total st new (ap (λ (x : State). x.home) (sym is)) (ap (λ (x : State). x.out) (sym is))
  total_step o st new (ListEntry session at) all goes =
      let is = (allowed (may_list o st session at) st new goes).1 in same_total st new (ap (λ (x : State). x.home) (sym is)) (ap (λ (x : State). x.out) (sym is))
  total_step o st new (Pin session name at) all goes =
      let is = (allowed (may_pin o st session at) (after_pin st session name) new goes).1 in same_total st new (ap (λ (x : State). x.home) (sym is)) (ap (λ (x : State). x.out) (sym is))
  total_step o st new (Start session k name stamp) all goes = start_case o st new session (key_with k name stamp) (started o st new session k name stamp goes) (k == kind) refl
  total_step o st new (Finish session k name stamp end) all goes =
      let is = finished o st new session k name stamp end goes in
      finish_case o st new session (key_with k name stamp) end all is (own_kind o st new session (key_with k name stamp) end is) (k == kind) refl
  total_step o st new (Answer session name at outcome) all goes =
      let is = (answered o st new session name at outcome goes).new_is in same_total st new (ap (λ (x : State). x.home) (sym is)) (ap (λ (x : State). x.out) (sym is))

  total_along : (o : Opening) (es : List Entry) (st last : State) → AreOf (kinds_of st) st.out → replay o (Some st) es ≡ Some last → total last ≡ total st + gained es
  total_along o [] st last all goes = let same : total st ≡ total last = ap total (some_same st last goes) in omega (arith, same)
  total_along o (e ∷ es) st last all goes =
      let on = went_on o (step o st e) last es goes in
      let first = total_step o st on.0 e all on.1 in
      let later = total_along o es on.0 last (of_step o st on.0 e on.1 all) on.2 in
      omega (arith, first, later)

-- At the start all works are at home, and none has run.

abbrev new_home : List (ℕ × ℕ) → List (ℕ × List ℕ)
new_home works = map (λ (w : ℕ × ℕ). (w.0, replicate w.1 0)) works

home_case : (kind : ℕ) (w : ℕ × ℕ) (ws : List (ℕ × ℕ)) (here : Bool) → home_of kind (new_home ws) ≡ replicate (works_for kind ws) 0
    → option_map_or (λ (h : ℕ × List ℕ). h.1) (cond here (Some (w.0, replicate w.1 0)) (find (λ (h : ℕ × List ℕ). h.0 == kind) (new_home ws))) [] ≡ replicate (option_map_or (λ (x : ℕ × ℕ). x.1) (cond here (Some w) (find (λ (x : ℕ × ℕ). x.0 == kind) ws)) 0) 0
home_case kind w ws true later = refl
home_case kind w ws false later = later

home_at_start : (kind : ℕ) (works : List (ℕ × ℕ)) → home_of kind (new_home works) ≡ replicate (works_for kind works) 0
home_at_start kind [] = refl
home_at_start kind (w ∷ ws) = home_case kind w ws (w.0 == kind) (home_at_start kind ws)

-- The opening entries start nothing.
no_starts : (kind : ℕ) (facts : List (ℕ × Fact)) → filter (is_start kind) (map opening_entry facts) ≡ []
no_starts kind [] = refl
no_starts kind (f ∷ fs) = no_starts kind fs

starts_in : (kind : ℕ) (o : Opening) (history : List Entry) → take (opened o) history ≡ opening_entries o → starts_of kind history ≡ starts_of kind (drop (opened o) history)
starts_in kind o history begins =
    ap (λ es. length (filter (is_start kind) es)) (sym (take-append-drop (opened o) history))
    ∙ ap length (filter-append (is_start kind) (take (opened o) history) (drop (opened o) history))
    ∙ ap (λ es. length (filter (is_start kind) es ++ filter (is_start kind) (drop (opened o) history))) begins
    ∙ ap (λ es. length (es ++ filter (is_start kind) (drop (opened o) history))) (no_starts kind (opening_facts o.facts))

count_case : (e : Entry) (es : List Entry) (n : ℕ) (here : Bool) → n ≡ length es → cond here 1 0 + n ≡ length (if here then e ∷ es else es)
count_case e es n true is = omega (arith, is)
count_case e es n false is = omega (arith, is)

starts_gained : (v w : ℕ → ℕ) (kind : ℕ) (out_is : (n : ℕ) → w n ≡ v n + 1) (back_is : (n : ℕ) → v (n + 1) ≡ w n) (es : List Entry) → gained v w 1 kind out_is back_is es ≡ starts_of kind es
starts_gained v w kind out_is back_is [] = refl
starts_gained v w kind out_is back_is (e ∷ es) = count_case e (filter (is_start kind) es) (gained v w 1 kind out_is back_is es) (is_start kind e) (starts_gained v w kind out_is back_is es)

nothing_case : (n : ℕ) (here : Bool) → n ≡ 0 → cond here 0 0 + n ≡ 0
nothing_case n true is = omega (arith, is)
nothing_case n false is = omega (arith, is)

nothing_gained : (v w : ℕ → ℕ) (kind : ℕ) (out_is : (n : ℕ) → w n ≡ v n + 0) (back_is : (n : ℕ) → v (n + 1) ≡ w n) (es : List Entry) → gained v w 0 kind out_is back_is es ≡ 0
nothing_gained v w kind out_is back_is [] = refl
nothing_gained v w kind out_is back_is (e ∷ es) = nothing_case (gained v w 0 kind out_is back_is es) (is_start kind e) (nothing_gained v w kind out_is back_is es)

sum_reverse : (f : ℕ → ℕ) (xs : List ℕ) → sum_by f (reverse xs) ≡ sum_by f xs
sum_reverse f [] = refl
sum_reverse f (x ∷ xs) =
    let later = sum_reverse f xs in
    let turned : sum_by f (reverse (x ∷ xs)) ≡ sum_by f (reverse xs) + f x = ap (sum_by f) (reverse_cons x xs) ∙ sum_by_push f (reverse xs) x in
    let first = sum_by-cons f x xs in
    omega (arith, later, turned, first)

ones : (xs : List ℕ) → sum_by (λ n. 1) xs ≡ length xs
ones [] = refl
ones (x ∷ xs) = let later = ones xs in let first = sum_by-cons (λ (n : ℕ). 1) x xs in omega (arith, later, first)

-- In the end.
module _ (chain : Chain) (o : Opening) (history : List Entry) (legal : IsLegal chain o history) (rests : RunsNothing o history) (works : List (ℕ × ℕ)) (are : AreRuns o history works) (kind : ℕ) where
  home : reverse (runs_with kind works) ≡ home_of kind rests.st.home
  home = are rests.st rests.state kind

  weight_of : (v w : ℕ → ℕ) (d : ℕ) (out_is : (n : ℕ) → w n ≡ v n + d) (back_is : (n : ℕ) → v (n + 1) ≡ w n)
      → sum_by v (runs_with kind works) ≡ works_for kind o.works * v 0 + gained v w d kind out_is back_is (drop (opened o) history)
  weight_of v w d out_is back_is =
      let along = total_along v w d kind out_is back_is o (drop (opened o) history) (start o) rests.st tt rests.state in
      let none : weigh (out_weight v w d kind out_is back_is) rests.st.out ≡ 0 = ap (weigh (out_weight v w d kind out_is back_is)) rests.none in
      let back : sum_by v (runs_with kind works) ≡ sum_by v (home_of kind rests.st.home) = sym (sum_reverse v (runs_with kind works)) ∙ ap (sum_by v) home in
      let first : sum_by v (home_of kind (new_home o.works)) ≡ works_for kind o.works * v 0 = ap (sum_by v) (home_at_start kind o.works) ∙ sum_by-replicate v (works_for kind o.works) 0 in
      omega (arith, along, none, back, first)

  pub back_count : length (runs_with kind works) ≡ works_for kind o.works
  back_count =
      let all = weight_of (λ n. 1) (λ n. 1) 0 (λ n. refl) (λ n. refl) in
      let none = nothing_gained (λ n. 1) (λ n. 1) kind (λ n. refl) (λ n. refl) (drop (opened o) history) in
      let each = ones (runs_with kind works) in
      omega (arith, all, none, each)

  pub back_runs : sum (runs_with kind works) ≡ starts_of kind history
  back_runs =
      let all = weight_of (λ n. n) (λ n. n + 1) 1 (λ n. refl) (λ n. refl) in
      let starts = starts_gained (λ n. n) (λ n. n + 1) kind (λ n. refl) (λ n. refl) (drop (opened o) history) ∙ sym (starts_in kind o history legal.begins) in
      omega (arith, all, starts)
