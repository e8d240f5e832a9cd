-- The works at home, and the runs that are out.
use Rattle.std.proofs.Common.{◌≡◌, ◌≢◌, ℕ, zero, suc, ◌+◌, ◌-◌, ◌<◌, ◌≤◌, ◌==◌, ◌||◌, Bool, true, false, cond, if◌then◌else◌, List, [], ◌∷◌, ◌++◌, take, length, map, reverse, Option, None, Some, refl, sym, ap, ap₂, subst, ◌∙◌, arith, length-append}
use Rattle.std.specs.List.{All, filter, find, list_any, slice_get}
use Rattle.std.specs.Option.{option_map_or}
use Rattle.std.proofs.lemmas.Bool.{eq-eqb, eqb-true, false≢true}
use Rattle.std.proofs.lemmas.List.{reverse-append, take-append-le}
use Rattle.std.proofs.Math.Seq.{take-length}
use Rattle.std.proofs.lemmas.List.Elements.{All-cons, All-head, All-tail}
use Rattle.std.proofs.lemmas.Option.{none-some, same_Some}
use Rattle.wc_core.proofs.FindLemmas.{found_all}
use Rattle.wc_model.specs.Workspace.Closures.{has_kind}
use Rattle.wc_model.specs.Workspace.Firsts.{change_first, without_first}
use Rattle.wc_model.specs.Workspace.States.{Run, all_but_last, home_of, last_of, own_run, with_home, without_own}
use Rattle.wc_model.proofs.Places.{get_push}
use Rattle.wc_model.proofs.Sharing.{run_other}
use Rattle.wc_core.specs.Inner.Stocks.{AreOnce}
use Rattle.wc_core.specs.Inner.Works.{IsTaken, is_of, runs_with}

one_case : (kind k n : ℕ) (ws : List (ℕ × ℕ)) (here : Bool) → (k == kind) ≡ here → runs_with kind ((k, n) ∷ ws) ≡ (if here then n ∷ runs_with kind ws else runs_with kind ws)
one_case kind k n ws true is = ap (λ b. map (λ (v : ℕ × ℕ). v.1) (cond b ((k, n) ∷ filter (is_of kind) ws) (filter (is_of kind) ws))) is
one_case kind k n ws false is = ap (λ b. map (λ (v : ℕ × ℕ). v.1) (cond b ((k, n) ∷ filter (is_of kind) ws) (filter (is_of kind) ws))) is

pub runs_one : (kind n : ℕ) (ws : List (ℕ × ℕ)) → runs_with kind ((kind, n) ∷ ws) ≡ n ∷ runs_with kind ws
runs_one kind n ws = one_case kind kind n ws true (eq-eqb kind kind refl)

pub runs_other : (kind k n : ℕ) (ws : List (ℕ × ℕ)) → (k == kind) ≡ false → runs_with kind ((k, n) ∷ ws) ≡ runs_with kind ws
runs_other kind k n ws apart = one_case kind k n ws false apart

-- the first work of a kind is taken out
first_case : (kind runs : ℕ) (w : ℕ × ℕ) (ws : List (ℕ × ℕ)) (here : Bool) → (w.0 == kind) ≡ here → cond here (Some w) (find (is_of kind) ws) ≡ Some (kind, runs)
    → (find (is_of kind) ws ≡ Some (kind, runs) → runs_with kind ws ≡ runs ∷ runs_with kind (without_first (is_of kind) ws)) → runs_with kind (w ∷ ws) ≡ runs ∷ runs_with kind (if here then ws else w ∷ without_first (is_of kind) ws)
first_case kind runs w ws true is found later = one_case kind w.0 w.1 ws true is ∙ ap (λ (v : ℕ × ℕ). v.1 ∷ runs_with kind ws) (same_Some w (kind, runs) found)
first_case kind runs w ws false is found later = one_case kind w.0 w.1 ws false is ∙ later found ∙ ap (λ l. runs ∷ l) (sym (one_case kind w.0 w.1 (without_first (is_of kind) ws) false is))

first_runs : (kind runs : ℕ) (ws : List (ℕ × ℕ)) → find (is_of kind) ws ≡ Some (kind, runs) → runs_with kind ws ≡ runs ∷ runs_with kind (without_first (is_of kind) ws)
first_runs kind runs [] found = absurd (none-some (kind, runs) found)
first_runs kind runs (w ∷ ws) found = first_case kind runs w ws (w.0 == kind) refl found (λ later. first_runs kind runs ws later)

others_case : (kind j : ℕ) (w : ℕ × ℕ) (ws : List (ℕ × ℕ)) (here mine : Bool) → (w.0 == kind) ≡ here → (w.0 == j) ≡ mine → kind ≢ j → runs_with j ws ≡ runs_with j (without_first (is_of kind) ws) → runs_with j (w ∷ ws) ≡ runs_with j (if here then ws else w ∷ without_first (is_of kind) ws)
others_case kind j w ws true true is own apart later = absurd (apart (sym (eqb-true w.0 kind is) ∙ eqb-true w.0 j own))
others_case kind j w ws true false is own apart later = one_case j w.0 w.1 ws false own
others_case kind j w ws false true is own apart later = one_case j w.0 w.1 ws true own ∙ ap (λ l. w.1 ∷ l) later ∙ sym (one_case j w.0 w.1 (without_first (is_of kind) ws) true own)
others_case kind j w ws false false is own apart later = one_case j w.0 w.1 ws false own ∙ later ∙ sym (one_case j w.0 w.1 (without_first (is_of kind) ws) false own)

other_runs : (kind j : ℕ) (ws : List (ℕ × ℕ)) → kind ≢ j → runs_with j ws ≡ runs_with j (without_first (is_of kind) ws)
other_runs kind j [] apart = refl
other_runs kind j (w ∷ ws) apart = others_case kind j w ws (w.0 == kind) (w.0 == j) refl refl apart (other_runs kind j ws apart)

all_first_case : (P : ℕ × ℕ → Type 0) (test : ℕ × ℕ → Bool) (w : ℕ × ℕ) (ws : List (ℕ × ℕ)) (here : Bool) → P w → All P ws → All P (without_first test ws) → All P (if here then ws else w ∷ without_first test ws)
all_first_case P test w ws true first rest later = rest
all_first_case P test w ws false first rest later = All-cons P w (without_first test ws) first later

all_first : (P : ℕ × ℕ → Type 0) (test : ℕ × ℕ → Bool) (ws : List (ℕ × ℕ)) → All P ws → All P (without_first test ws)
all_first P test [] all = all
all_first P test (w ∷ ws) all = all_first_case P test w ws (test w) (All-head P w ws all) (All-tail P w ws all) (all_first P test ws (All-tail P w ws all))

module _ (kind runs : ℕ) (old new : List (ℕ × ℕ)) (taken : IsTaken kind runs old new) where
  pub taken_runs : runs_with kind old ≡ runs ∷ runs_with kind new
  taken_runs = first_runs kind runs old taken.found ∙ ap (λ l. runs ∷ runs_with kind l) (sym taken.rest)

  pub taken_others : (j : ℕ) → kind ≢ j → runs_with j old ≡ runs_with j new
  taken_others j apart = other_runs kind j old apart ∙ ap (runs_with j) (sym taken.rest)

  pub taken_all : (P : ℕ × ℕ → Type 0) → All P old → All P new × P (kind, runs)
  taken_all P all = (subst (λ l. All P l) (sym taken.rest) (all_first P (is_of kind) old all), found_all P (is_of kind) old (kind, runs) all taken.found)

pub reverse_cons : {A : Type 0} (x : A) (xs : List A) → reverse (x ∷ xs) ≡ reverse xs ++ x ∷ []
reverse_cons x xs = reverse-append (x ∷ []) xs

-- the last of a list
length-last : {A : Type 0} (xs : List A) (y : A) → length (xs ++ y ∷ []) - 1 ≡ length xs
length-last xs y = let long = length-append xs (y ∷ []) in omega (arith, long)

pub last_snoc : {A : Type 0} (xs : List A) (y : A) → last_of (xs ++ y ∷ []) ≡ Some y
last_snoc xs y = ap (slice_get (xs ++ y ∷ [])) (length-last xs y) ∙ get_push xs y

pub front_snoc : {A : Type 0} (xs : List A) (y : A) → all_but_last (xs ++ y ∷ []) ≡ xs
front_snoc xs y = ap (λ n. take n (xs ++ y ∷ [])) (length-last xs y) ∙ take-append-le (length xs) xs (y ∷ []) (omega arith) ∙ take-length xs

-- the replay's lists of works at home
names_case : (kind : ℕ) (runs : List ℕ) (h : ℕ × List ℕ) (hs : List (ℕ × List ℕ)) (here : Bool) → map (λ (g : ℕ × List ℕ). g.0) (with_home kind runs hs) ≡ map (λ (g : ℕ × List ℕ). g.0) hs → map (λ (g : ℕ × List ℕ). g.0) (if here then (h.0, runs) ∷ hs else h ∷ with_home kind runs hs) ≡ h.0 ∷ map (λ (g : ℕ × List ℕ). g.0) hs
names_case kind runs h hs true later = refl
names_case kind runs h hs false later = ap (λ l. h.0 ∷ l) later

pub home_names : (kind : ℕ) (runs : List ℕ) (home : List (ℕ × List ℕ)) → map (λ (g : ℕ × List ℕ). g.0) (with_home kind runs home) ≡ map (λ (g : ℕ × List ℕ). g.0) home
home_names kind runs [] = refl
home_names kind runs (h ∷ hs) = names_case kind runs h hs (h.0 == kind) (home_names kind runs hs)

same_case : (kind : ℕ) (runs : List ℕ) (h : ℕ × List ℕ) (hs : List (ℕ × List ℕ)) (here : Bool) → (h.0 == kind) ≡ here → (here || has_kind kind (map (λ (g : ℕ × List ℕ). g.0) hs)) ≡ true → (has_kind kind (map (λ (g : ℕ × List ℕ). g.0) hs) ≡ true → home_of kind (with_home kind runs hs) ≡ runs)
    → home_of kind (if here then (h.0, runs) ∷ hs else h ∷ with_home kind runs hs) ≡ runs
same_case kind runs h hs true at is later = ap (λ b. option_map_or (λ (g : ℕ × List ℕ). g.1) (cond b (Some (h.0, runs)) (find (λ g. g.0 == kind) hs)) []) at
same_case kind runs h hs false at is later = ap (λ b. option_map_or (λ (g : ℕ × List ℕ). g.1) (cond b (Some h) (find (λ g. g.0 == kind) (with_home kind runs hs))) []) at ∙ later is

pub home_same : (kind : ℕ) (runs : List ℕ) (home : List (ℕ × List ℕ)) → has_kind kind (map (λ (g : ℕ × List ℕ). g.0) home) ≡ true → home_of kind (with_home kind runs home) ≡ runs
home_same kind runs [] is = cc
home_same kind runs (h ∷ hs) is = same_case kind runs h hs (h.0 == kind) refl is (λ later. home_same kind runs hs later)

other_case : (kind j : ℕ) (runs : List ℕ) (h : ℕ × List ℕ) (hs : List (ℕ × List ℕ)) (here : Bool) → (h.0 == kind) ≡ here → kind ≢ j → home_of j (with_home kind runs hs) ≡ home_of j hs
    → home_of j (if here then (h.0, runs) ∷ hs else h ∷ with_home kind runs hs) ≡ home_of j (h ∷ hs)
other_case kind j runs h hs false at apart later = by (h.0 == j) where
  by : (b : Bool) → option_map_or (λ (g : ℕ × List ℕ). g.1) (cond b (Some h) (find (λ g. g.0 == j) (with_home kind runs hs))) [] ≡ option_map_or (λ (g : ℕ × List ℕ). g.1) (cond b (Some h) (find (λ g. g.0 == j) hs)) []
  by true = refl
  by false = later
other_case kind j runs h hs true at apart later =
    let none : (h.0 == j) ≡ false = not_same (h.0 == j) refl in
    ap (λ b. option_map_or (λ (g : ℕ × List ℕ). g.1) (cond b (Some (h.0, runs)) (find (λ g. g.0 == j) hs)) []) none ∙ sym (ap (λ b. option_map_or (λ (g : ℕ × List ℕ). g.1) (cond b (Some h) (find (λ g. g.0 == j) hs)) []) none) where
      not_same : (b : Bool) → (h.0 == j) ≡ b → (h.0 == j) ≡ false
      not_same false is = is
      not_same true is = absurd (apart (sym (eqb-true h.0 kind at) ∙ eqb-true h.0 j is))

pub home_other : (kind j : ℕ) (runs : List ℕ) (home : List (ℕ × List ℕ)) → kind ≢ j → home_of j (with_home kind runs home) ≡ home_of j home
home_other kind j runs [] apart = refl
home_other kind j runs (h ∷ hs) apart = other_case kind j runs h hs (h.0 == kind) refl apart (home_other kind j runs hs apart)

-- the runs of the sessions
own_case : (s : ℕ) (r run : Run) (out : List Run) (here : Bool) → cond here (Some r) (find (λ x. x.session == s) out) ≡ None → (find (λ x. x.session == s) out ≡ None → find (λ x. x.session == s) (out ++ run ∷ []) ≡ Some run) → cond here (Some r) (find (λ x. x.session == s) (out ++ run ∷ [])) ≡ Some run
own_case s r run out true is later = cc
own_case s r run out false is later = later is

pub own_new : (out : List Run) (run : Run) → own_run run.session out ≡ None → own_run run.session (out ++ run ∷ []) ≡ Some run
own_new [] run is = ap (λ b. cond b (Some run) None) (eq-eqb run.session run.session refl)
own_new (r ∷ out) run is = own_case run.session r run out (r.session == run.session) is (λ later. own_new out run later)

-- Each session has one run out at most.
parts_of : (r run : Run) (out : List Run) (here : Bool) → (r.session == run.session) ≡ here → cond here (Some r) (own_run run.session out) ≡ None → (run.session ≢ r.session) × (own_run run.session out ≡ None)
parts_of r run out true is none = cc
parts_of r run out false is none = ((λ (same : run.session ≡ r.session). false≢true (sym is ∙ eq-eqb r.session run.session (sym same))), none)

pub once_new : (out : List Run) (run : Run) → AreOnce out → own_run run.session out ≡ None → AreOnce (out ++ run ∷ [])
once_new [] run once none = (refl, tt)
once_new (r ∷ out) run once none =
    let both = parts_of r run out (r.session == run.session) refl none in
    (run_other r.session out run both.0 ∙ once.0, once_new out run once.1 both.1)

rest_none : {A : Type 0} (here : Bool) (a : A) (o : Option A) → cond here (Some a) o ≡ None → o ≡ None
rest_none true a o is = cc
rest_none false a o is = is

keep_none : {A : Type 0} (here : Bool) (a : A) (o p : Option A) → cond here (Some a) o ≡ None → p ≡ None → cond here (Some a) p ≡ None
keep_none true a o p is none = cc
keep_none false a o p is none = none

without_case : (s x : ℕ) (r : Run) (rs : List Run) (here : Bool) → own_run s (r ∷ rs) ≡ None → own_run s (without_own x rs) ≡ None → own_run s (if here then rs else r ∷ without_own x rs) ≡ None
without_case s x r rs true none later = rest_none (r.session == s) r (own_run s rs) none
without_case s x r rs false none later = keep_none (r.session == s) r (own_run s rs) (own_run s (without_own x rs)) none later

without_none : (s x : ℕ) (out : List Run) → own_run s out ≡ None → own_run s (without_own x out) ≡ None
without_none s x [] none = refl
without_none s x (r ∷ rs) none = without_case s x r rs (r.session == x) none (without_none s x rs (rest_none (r.session == s) r (own_run s rs) none))

once_case : (x : ℕ) (r : Run) (rs : List Run) (here : Bool) → AreOnce (r ∷ rs) → AreOnce (without_own x rs) → AreOnce (if here then rs else r ∷ without_own x rs)
once_case x r rs true once later = once.1
once_case x r rs false once later = (without_none r.session x rs once.0, later)

pub once_without : (x : ℕ) (out : List Run) → AreOnce out → AreOnce (without_own x out)
once_without x [] once = tt
once_without x (r ∷ rs) once = once_case x r rs (r.session == x) once (once_without x rs once.1)

gone_case : (x : ℕ) (r : Run) (rs : List Run) (here : Bool) → (r.session == x) ≡ here → AreOnce (r ∷ rs) → own_run x (without_own x rs) ≡ None → own_run x (if here then rs else r ∷ without_own x rs) ≡ None
gone_case x r rs true is once later = ap (λ s. own_run s rs) (sym (eqb-true r.session x is)) ∙ once.0
gone_case x r rs false is once later = ap (λ b. cond b (Some r) (own_run x (without_own x rs))) is ∙ later

pub own_gone : (x : ℕ) (out : List Run) → AreOnce out → own_run x (without_own x out) ≡ None
own_gone x [] once = refl
own_gone x (r ∷ rs) once = gone_case x r rs (r.session == x) refl once (own_gone x rs once.1)

all_case : (P : Run → Type 0) (x : ℕ) (r : Run) (rs : List Run) (here : Bool) → P r → All P rs → All P (without_own x rs) → All P (if here then rs else r ∷ without_own x rs)
all_case P x r rs true first rest later = rest
all_case P x r rs false first rest later = All-cons P r (without_own x rs) first later

pub all_without : (P : Run → Type 0) (x : ℕ) (out : List Run) → All P out → All P (without_own x out)
all_without P x [] all = all
all_without P x (r ∷ rs) all = all_case P x r rs (r.session == x) (All-head P r rs all) (All-tail P r rs all) (all_without P x rs (All-tail P r rs all))

length_case : (x : ℕ) (r run : Run) (rs : List Run) (here : Bool) → cond here (Some r) (own_run x rs) ≡ Some run → (own_run x rs ≡ Some run → length (without_own x rs) + 1 ≡ length rs) → length (if here then rs else r ∷ without_own x rs) + 1 ≡ length rs + 1
length_case x r run rs true is later = refl
length_case x r run rs false is later = omega (arith, later is)

pub length-without : (x : ℕ) (run : Run) (out : List Run) → own_run x out ≡ Some run → length (without_own x out) + 1 ≡ length out
length-without x run [] is = cc
length-without x run (r ∷ rs) is = let more = length_case x r run rs (r.session == x) is (λ later. length-without x run rs later) in omega (arith, more)
