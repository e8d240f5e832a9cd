-- Of each kind as many works are at home or out as there were at the start.
use Rattle.std.proofs.Common.{◌≡◌, ◌≢◌, ℕ, ◌+◌, ◌-◌, ◌<◌, ◌==◌, ◌&&◌, ◌||◌, Bool, true, false, cond, if◌then◌else◌, List, [], ◌∷◌, ◌++◌, map, drop, length, Some, refl, sym, ap, subst, ◌∙◌, arith, length-append}
use Rattle.std.specs.List.{find}
use Rattle.std.specs.Option.{option_map_or}
use Rattle.std.proofs.lemmas.Bool.{and_parts, eq-eqb, eqb-true, false≢true}
use Rattle.std.proofs.lemmas.List.{length-take}
use Rattle.std.proofs.lemmas.Option.{slice_get_within}
use Rattle.wc_model.specs.declared.entries.End.{End}
use Rattle.wc_model.specs.declared.entries.Entry.{Entry}
use Rattle.wc_model.specs.declared.entries.Entry.TheVariants.{Edit as EditEntry, NoFact, Pin, Start, Finish, Answer, List as ListEntry}
use Rattle.wc_model.specs.Workspace.Closures.{has_kind}
use Rattle.wc_model.specs.Workspace.History.{after_edit, after_pin, key_with, may_edit, may_list, may_pin, may_refuse, opened, right_end, state_after, step}
use Rattle.wc_model.specs.Workspace.States.{Opening, Key, State, Run, all_but_last, count_of, home_of, last_of, own_run, same_key, same_name, stamp_at, start, with_home, without_own}
use Rattle.wc_model.proofs.Replays.{throughout}
use Rattle.wc_model.proofs.StepLemmas.{IsFinish, IsStart, allowed, answered, finished, some_same, started}
use Rattle.wc_core.proofs.WorkLemmas.{home_names, home_other, home_same}

-- how many runs of a kind are out
abbrev pub flying : ℕ → List Run → ℕ
flying kind [] = 0
flying kind (r ∷ rs) = (if r.key.kind == kind then 1 else 0) + flying kind rs

abbrev counts_one : Bool → ℕ
counts_one b = if b then 1 else 0

abbrev listed : List (ℕ × List ℕ) → List ℕ
listed home = map (λ (h : ℕ × List ℕ). h.0) home

record AreAll (o : Opening) (st : State) : Type 0 where
  pub kinds : listed st.home ≡ listed (start o).home
  pub counted : (kind : ℕ) → length (home_of kind st.home) + flying kind st.out ≡ length (home_of kind (start o).home)

flying_snoc : (kind : ℕ) (rs : List Run) (r : Run) → flying kind (rs ++ r ∷ []) ≡ flying kind rs + (if r.key.kind == kind then 1 else 0)
flying_snoc kind [] r = omega arith
flying_snoc kind (x ∷ rs) r = let more = flying_snoc kind rs r in omega (arith, more)

flying_case : (kind session : ℕ) (run r : Run) (rs : List Run) (own : Bool) → (if own then Some r else own_run session rs) ≡ Some run
    → (own_run session rs ≡ Some run → flying kind rs ≡ (if run.key.kind == kind then 1 else 0) + flying kind (without_own session rs))
    → flying kind (r ∷ rs) ≡ (if run.key.kind == kind then 1 else 0) + flying kind (if own then rs else r ∷ without_own session rs)
flying_case kind session run r rs true is later = ap (λ (x : Run). (if x.key.kind == kind then 1 else 0) + flying kind rs) (some_same r run is)
flying_case kind session run r rs false is later = let more = later is in omega (arith, more)

-- the run of a session comes back
flying_without : (kind session : ℕ) (run : Run) (rs : List Run) → own_run session rs ≡ Some run → flying kind rs ≡ (if run.key.kind == kind then 1 else 0) + flying kind (without_own session rs)
flying_without kind session run [] is = cc
flying_without kind session run (r ∷ rs) is = flying_case kind session run r rs (r.session == session) is (λ own. flying_without kind session run rs own)

-- a kind that isn't listed has no work
gone_case : (kind : ℕ) (h : ℕ × List ℕ) (hs : List (ℕ × List ℕ)) (here : Bool) → (here || has_kind kind (listed hs)) ≡ false → (has_kind kind (listed hs) ≡ false → home_of kind hs ≡ [])
    → option_map_or (λ (g : ℕ × List ℕ). g.1) (cond here (Some h) (find (λ g. g.0 == kind) hs)) [] ≡ []
gone_case kind h hs true is later = cc
gone_case kind h hs false is later = later is

none_of : (kind : ℕ) (home : List (ℕ × List ℕ)) → has_kind kind (listed home) ≡ false → home_of kind home ≡ []
none_of kind [] is = refl
none_of kind (h ∷ hs) is = gone_case kind h hs (h.0 == kind) is (λ later. none_of kind hs later)

has_work : (kind : ℕ) (home : List (ℕ × List ℕ)) → 0 < length (home_of kind home) → has_kind kind (listed home) ≡ true
has_work kind home some = by (has_kind kind (listed home)) refl where
  by : (b : Bool) → has_kind kind (listed home) ≡ b → b ≡ true
  by true is = refl
  by false is = absurd (let none = ap length (none_of kind home is) in omega (arith, some, none))

-- the works at home after those of one kind changed
home_case : (kind j : ℕ) (runs : List ℕ) (home : List (ℕ × List ℕ)) (same : Bool) → (kind == j) ≡ same → has_kind kind (listed home) ≡ true → home_of j (with_home kind runs home) ≡ (if same then runs else home_of j home)
home_case kind j runs home true is has = ap (λ i. home_of i (with_home kind runs home)) (sym (eqb-true kind j is)) ∙ home_same kind runs home has
home_case kind j runs home false is has = home_other kind j runs home (λ same. false≢true (sym is ∙ eq-eqb kind j same))

module _ (o : Opening) (st new : State) (all : AreAll o st) where
  became : (next : State) → next ≡ new → AreAll o next → AreAll o new
  became next is a = subst (AreAll o) is a

  -- the works stay
  stays : (next : State) → next ≡ new → next.home ≡ st.home → next.out ≡ st.out → AreAll o new
  stays next is home out = became next is (record {
    kinds = ap listed home ∙ all.kinds;
    counted = λ kind. omega (arith, ap (λ h. length (home_of kind h)) home, ap (flying kind) out, all.counted kind);
  })

  goes_case : (key : Key) (runs j : ℕ) (same : Bool) → (key.kind == j) ≡ same → last_of (home_of key.kind st.home) ≡ Some runs
      → length (if same then all_but_last (home_of key.kind st.home) else home_of j st.home) + (flying j st.out + (if same then 1 else 0)) ≡ length (home_of j (start o).home)
  goes_case key runs j true is last =
      let within = slice_get_within (home_of key.kind st.home) (length (home_of key.kind st.home) - 1) runs last in
      let short = length-take (length (home_of key.kind st.home) - 1) (home_of key.kind st.home) in
      let here = ap (λ i. length (home_of i st.home)) (eqb-true key.kind j is) in
      omega (arith, within, short, here, all.counted j)
  goes_case key runs j false is last = omega (arith, all.counted j)

  -- a work goes out
  goes_out : (session : ℕ) (key : Key) → IsStart o st new session key → AreAll o new
  goes_out session key is =
      let has = has_work key.kind st.home (let within = slice_get_within (home_of key.kind st.home) (length (home_of key.kind st.home) - 1) is.runs is.last in omega (arith, within)) in
      let rest : List ℕ = all_but_last (home_of key.kind st.home) in
      let run : Run = record { session = session; key = key; runs = is.runs } in
      became _ is.new_is (record {
        kinds = home_names key.kind rest st.home ∙ all.kinds;
        counted = λ j. omega (arith, ap length (home_case key.kind j rest st.home (key.kind == j) refl has), flying_snoc j st.out run, goes_case key is.runs j (key.kind == j) refl is.last);
      })

  back_case : (key : Key) (run : Run) (j rest : ℕ) (same : Bool) → (key.kind == j) ≡ same → flying j st.out ≡ (if same then 1 else 0) + rest
      → length (if same then home_of key.kind st.home ++ (run.runs + 1) ∷ [] else home_of j st.home) + rest ≡ length (home_of j (start o).home)
  back_case key run j rest true is out =
      let here = ap (λ i. length (home_of i st.home)) (eqb-true key.kind j is) in
      omega (arith, length-append (home_of key.kind st.home) ((run.runs + 1) ∷ []), here, out, all.counted j)
  back_case key run j rest false is out = omega (arith, out, all.counted j)

  -- the kind of a run that is out is listed
  flies : (session : ℕ) (run : Run) → own_run session st.out ≡ Some run → has_kind run.key.kind (listed st.home) ≡ true
  flies session run own =
      let there = flying_without run.key.kind session run st.out own in
      let one = ap counts_one (eq-eqb run.key.kind run.key.kind refl) in
      let some : 0 < length (home_of run.key.kind (start o).home) = omega (arith, there, one, all.counted run.key.kind) in
      ap (has_kind run.key.kind) all.kinds ∙ has_work run.key.kind (start o).home some

  -- a work comes back
  comes_back : (session : ℕ) (key : Key) (end : End) → IsFinish o st new session key end → AreAll o new
  comes_back session key end is =
      let run : Run = is.run in
      let both = and_parts (same_key run.key key) (right_end end (key.stamp == stamp_at o st key.kind (count_of st))) is.may in
      let own = and_parts (run.key.kind == key.kind && same_name run.key.name key.name) (run.key.stamp == key.stamp) both.0 in
      let kind : run.key.kind ≡ key.kind = eqb-true run.key.kind key.kind (and_parts (run.key.kind == key.kind) (same_name run.key.name key.name) own.0).0 in
      let has : has_kind key.kind (listed st.home) ≡ true = ap (λ k. has_kind k (listed st.home)) (sym kind) ∙ flies session run is.own in
      let back : List ℕ = home_of key.kind st.home ++ (run.runs + 1) ∷ [] in
      became _ is.new_is (record {
        kinds = home_names key.kind back st.home ∙ all.kinds;
        counted = λ j.
            let out = flying_without j session run st.out is.own ∙ ap (λ k. (if k == j then 1 else 0) + flying j (without_own session st.out)) kind in
            omega (arith, ap length (home_case key.kind j back st.home (key.kind == j) refl has), back_case key run j (flying j (without_own session st.out)) (key.kind == j) refl out);
      })

all_step : (o : Opening) (st new : State) (e : Entry) → step o st e ≡ Some new → AreAll o st → AreAll o new
all_step o st new (EditEntry session count edit) goes all = stays o st new all _ (allowed (may_edit o st session count edit) (after_edit o st edit) new goes).1 refl refl
all_step o st new (NoFact session number at) goes all = stays o st new all _ (allowed (may_refuse o st session number at) st new goes).1 refl refl
all_step o st new (Pin session name at) goes all = stays o st new all _ (allowed (may_pin o st session at) (after_pin st session name) new goes).1 refl refl
all_step o st new (Start session kind name stamp) goes all = goes_out o st new all session (key_with kind name stamp) (started o st new session kind name stamp goes)
all_step o st new (Finish session kind name stamp end) goes all = comes_back o st new all session (key_with kind name stamp) end (finished o st new session kind name stamp end goes)
all_step o st new (Answer session name at outcome) goes all = stays o st new all _ (answered o st new session name at outcome goes).new_is refl refl
all_step o st new (ListEntry session at) goes all = stays o st new all _ (allowed (may_list o st session at) st new goes).1 refl refl

-- while no run is out, each kind has as many works at home as at the start
pub all_home : (o : Opening) (history : List Entry) (st : State) → state_after o history ≡ Some st → st.out ≡ [] → (kind : ℕ) → length (home_of kind st.home) ≡ length (home_of kind (start o).home)
all_home o history st state none kind =
    let all : AreAll o st = throughout o (AreAll o) (all_step o) (drop (opened o) history) (start o) st (record { kinds = refl; counted = λ k. omega arith }) state in
    omega (arith, all.counted kind, ap (flying kind) none)
