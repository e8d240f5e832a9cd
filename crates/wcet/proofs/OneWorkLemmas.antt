-- The one work that a workspace has at its end.
use Rattle.std.proofs.Common.{◌≡◌, ℕ, suc, ◌<◌, ◌==◌, Bool, true, false, cond, if◌then◌else◌, List, [], ◌∷◌, get_or, map, length, replicate, None, Some, refl, sym, ap, subst, ◌∙◌, arith, eqb-true}
use Rattle.std.specs.Option.{option_map_or}
use Rattle.std.proofs.lemmas.List.{length-reverse}
use Rattle.wc_model.specs.declared.entries.Entry.{Entry}
use Rattle.wc_model.specs.Workspace.States.{Opening, home_of}
use Rattle.wc_core.specs.Answers.{AreRuns, RunsNothing}
use Rattle.wc_core.specs.Inner.Works.{runs_with}
use Rattle.wc_core.proofs.WorkLemmas.{runs_one, runs_other}
use Rattle.wc_session.proofs.WorkLemmas.{all_home}

abbrev one_of : ℕ → ℕ
one_of kind = if 11 == kind then 1 else 0

first_case : (b : Bool) → length (option_map_or (λ (h : ℕ × List ℕ). h.1) (cond b (Some (11, 0 ∷ [])) None) []) ≡ (if b then 1 else 0)
first_case true = refl
first_case false = refl

counted : (o : Opening) (h : List Entry) (ws : List (ℕ × ℕ)) → o.works ≡ (11, 1) ∷ [] → RunsNothing o h → AreRuns o h ws → (kind : ℕ) → length (runs_with kind ws) ≡ one_of kind
counted o h ws one rests are kind =
    sym (length-reverse (runs_with kind ws))
    ∙ ap length (are rests.st rests.state kind)
    ∙ all_home o h rests.st rests.state rests.none kind
    ∙ ap (λ (works : List (ℕ × ℕ)). length (home_of kind (map (λ w. (w.0, replicate w.1 0)) works))) one
    ∙ first_case (11 == kind)

-- one work of the bound, and no other
is_bound : (kind n : ℕ) (b : Bool) → (11 == kind) ≡ b → suc n ≡ (if b then 1 else 0) → (11 ≡ kind) × (n ≡ 0)
is_bound kind n true is count = (eqb-true 11 kind is, omega (arith, count))
is_bound kind n false is count = absurd (omega (arith, count))

head_is : (w : ℕ × ℕ) (ws : List (ℕ × ℕ)) → ((kind : ℕ) → length (runs_with kind (w ∷ ws)) ≡ one_of kind) → (11 ≡ w.0) × (length (runs_with 11 ws) ≡ 0)
head_is w ws count =
    let own : suc (length (runs_with w.0 ws)) ≡ one_of w.0 = sym (ap length (runs_one w.0 w.1 ws)) ∙ count w.0 in
    let both = is_bound w.0 (length (runs_with w.0 ws)) (11 == w.0) refl own in
    (both.0, ap (λ k. length (runs_with k ws)) both.0 ∙ both.1)

none_behind : (n : ℕ) (v : ℕ × ℕ) (vs : List (ℕ × ℕ)) → ((kind : ℕ) → length (runs_with kind ((11, n) ∷ v ∷ vs)) ≡ one_of kind) → length (runs_with 11 (v ∷ vs)) ≡ 0 → (b : Bool) → (11 == v.0) ≡ b → ⊥
none_behind n v vs count none true is =
    let here = ap (λ k. length (runs_with k (v ∷ vs))) (eqb-true 11 v.0 is) ∙ ap length (runs_one v.0 v.1 vs) in
    omega (arith, none, here)
none_behind n v vs count none false is =
    let here = ap length (runs_other v.0 11 n (v ∷ vs) is ∙ runs_one v.0 v.1 vs) in
    let zero_is : one_of v.0 ≡ 0 = ap (λ b. cond b 1 0) is in
    omega (arith, here, count v.0, zero_is)

pub one_work : (ws : List (ℕ × ℕ)) → ((kind : ℕ) → length (runs_with kind ws) ≡ one_of kind) → (n : ℕ) × (ws ≡ (11, n) ∷ [])
one_work [] count = absurd (omega (arith, count 11))
one_work (w ∷ []) count = let head = head_is w [] count in (w.1, ap (λ k. (k, w.1) ∷ []) (sym head.0))
one_work (w ∷ v ∷ vs) count =
    let head = head_is w (v ∷ vs) count in
    let C : ℕ → Type 0 = λ k. (kind : ℕ) → length (runs_with kind ((k, w.1) ∷ v ∷ vs)) ≡ one_of kind in
    absurd (none_behind w.1 v vs (subst C (sym head.0) count) head.1 (11 == v.0) refl)

-- its runs
same_runs : (a b : ℕ × ℕ) → (a ∷ []) ≡ (b ∷ []) → a.1 ≡ b.1
same_runs a b is = cc

first_runs : {A : Type 0} (kind_of runs_of : A → ℕ) (works : List A) (d : A) (n : ℕ) → map {B = ℕ × ℕ} (λ w. (kind_of w, runs_of w)) works ≡ (11, n) ∷ [] → runs_of (get_or works 0 d) ≡ n
first_runs kind_of runs_of [] d n is = cc
first_runs kind_of runs_of (w ∷ []) d n is = same_runs (kind_of w, runs_of w) (11, n) is
first_runs kind_of runs_of (w ∷ x ∷ ws) d n is = cc

some_left : {A : Type 0} (kind_of runs_of : A → ℕ) (works : List A) (n : ℕ) → map {B = ℕ × ℕ} (λ w. (kind_of w, runs_of w)) works ≡ (11, n) ∷ [] → 0 < length works
some_left kind_of runs_of [] n is = cc
some_left kind_of runs_of (w ∷ ws) n is = omega arith

module _ {A : Type 0} (kind_of runs_of : A → ℕ) (works : List A) (o : Opening) (h : List Entry) (one : o.works ≡ (11, 1) ∷ []) (rests : RunsNothing o h) (are : AreRuns o h (map {B = ℕ × ℕ} (λ w. (kind_of w, runs_of w)) works)) where
  left : (n : ℕ) × (map {B = ℕ × ℕ} (λ w. (kind_of w, runs_of w)) works ≡ (11, n) ∷ [])
  left = one_work (map {B = ℕ × ℕ} (λ w. (kind_of w, runs_of w)) works) (counted o h (map {B = ℕ × ℕ} (λ w. (kind_of w, runs_of w)) works) one rests are)

  pub work_left : 0 < length works
  work_left = some_left kind_of runs_of works left.0 left.1

  pub runs_left : (d : A) (runs : ℕ) → runs ≡ runs_of (get_or works 0 d) → AreRuns o h ((11, runs) ∷ [])
  runs_left d runs is =
      let same : left.0 ≡ runs = sym (is ∙ first_runs kind_of runs_of works d left.0 left.1) in
      subst (AreRuns o h) (left.1 ∙ ap (λ n. (11, n) ∷ []) same) are
