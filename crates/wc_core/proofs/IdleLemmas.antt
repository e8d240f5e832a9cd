-- The works at home before the first run.
use Rattle.std.proofs.Common.{◌≡◌, ℕ, zero, suc, ◌≤◌, ◌==◌, ◌||◌, Bool, true, false, cond, List, [], ◌∷◌, ◌++◌, length, map, replicate, reverse, Some, refl, ap, ap₂, ◌∙◌, arith}
use Rattle.std.specs.List.{All, filter, find}
use Rattle.std.specs.Option.{option_map_or}
use Rattle.std.proofs.lemmas.Bool.{eqb-true}
use Rattle.std.proofs.lemmas.List.Elements.{All-cons, All-head, All-nil, All-tail}
use Rattle.wc_model.specs.Workspace.Closures.{has_kind}
use Rattle.wc_model.specs.Workspace.States.{home_of}
use Rattle.wc_core.specs.Inner.Works.{is_of, runs_with}
use Rattle.wc_core.specs.Openings.{works_in}
use Rattle.wc_core.proofs.WorkLemmas.{reverse_cons}

abbrev pub zeros : ℕ → List ℕ
zeros n = replicate n 0

zeros_snoc : (n : ℕ) → zeros n ++ 0 ∷ [] ≡ 0 ∷ zeros n
zeros_snoc zero = refl
zeros_snoc (suc n) = ap (λ (l : List ℕ). 0 ∷ l) (zeros_snoc n)

pub reverse_zeros : (n : ℕ) → reverse (zeros n) ≡ zeros n
reverse_zeros zero = refl
reverse_zeros (suc n) = reverse_cons 0 (zeros n) ∙ ap (λ (l : List ℕ). l ++ 0 ∷ []) (reverse_zeros n) ∙ zeros_snoc n

-- how many of some works are of a kind
abbrev pub number_of : ℕ → List ℕ → ℕ
number_of kind works = length (filter (λ w. w == kind) works)

module _ (works : List ℕ) where
  abbrev pub first_home : List ℕ → List (ℕ × List ℕ)
  first_home order = map (λ w. (w.0, zeros w.1)) (works_in works order)

  pub home_listed : (order : List ℕ) → map (λ h. h.0) (first_home order) ≡ order
  home_listed [] = refl
  home_listed (k ∷ ks) = ap (λ l. k ∷ l) (home_listed ks)

  there_case : (kind k : ℕ) (ks : List ℕ) (here : Bool) → (k == kind) ≡ here → (here || has_kind kind ks) ≡ true → (has_kind kind ks ≡ true → home_of kind (first_home ks) ≡ zeros (number_of kind works))
      → home_of kind (first_home (k ∷ ks)) ≡ zeros (number_of kind works)
  there_case kind k ks true at is later =
      ap (λ b. option_map_or (λ (g : ℕ × List ℕ). g.1) (cond b (Some (k, zeros (number_of k works))) (find (λ g. g.0 == kind) (first_home ks))) []) at
      ∙ ap (λ j. zeros (number_of j works)) (eqb-true k kind at)
  there_case kind k ks false at is later = ap (λ b. option_map_or (λ (g : ℕ × List ℕ). g.1) (cond b (Some (k, zeros (number_of k works))) (find (λ g. g.0 == kind) (first_home ks))) []) at ∙ later is

  pub home_there : (kind : ℕ) (order : List ℕ) → has_kind kind order ≡ true → home_of kind (first_home order) ≡ zeros (number_of kind works)
  home_there kind [] is = cc
  home_there kind (k ∷ ks) is = there_case kind k ks (k == kind) refl is (λ later. home_there kind ks later)

  gone_case : (kind k : ℕ) (ks : List ℕ) (here : Bool) → (k == kind) ≡ here → (here || has_kind kind ks) ≡ false → (has_kind kind ks ≡ false → home_of kind (first_home ks) ≡ []) → home_of kind (first_home (k ∷ ks)) ≡ []
  gone_case kind k ks true at is later = cc
  gone_case kind k ks false at is later = ap (λ b. option_map_or (λ (g : ℕ × List ℕ). g.1) (cond b (Some (k, zeros (number_of k works))) (find (λ g. g.0 == kind) (first_home ks))) []) at ∙ later is

  pub home_gone : (kind : ℕ) (order : List ℕ) → has_kind kind order ≡ false → home_of kind (first_home order) ≡ []
  home_gone kind [] is = refl
  home_gone kind (k ∷ ks) is = gone_case kind k ks (k == kind) refl is (λ later. home_gone kind ks later)

-- no work of the kind is there
number_case : (kind k : ℕ) (ks : List ℕ) (here : Bool) → (k == kind) ≡ here → (here || has_kind kind ks) ≡ false → (has_kind kind ks ≡ false → number_of kind ks ≡ 0) → number_of kind (k ∷ ks) ≡ 0
number_case kind k ks true at is later = cc
number_case kind k ks false at is later = ap (λ b. length (cond b (k ∷ filter (λ w. w == kind) ks) (filter (λ w. w == kind) ks))) at ∙ later is

pub number_none : (kind : ℕ) (works : List ℕ) → has_kind kind works ≡ false → number_of kind works ≡ 0
number_none kind [] is = refl
number_none kind (k ∷ ks) is = number_case kind k ks (k == kind) refl is (λ later. number_none kind ks later)

-- each work has run never
abbrev pub HaveNotRun : List (ℕ × ℕ) → Type 0
HaveNotRun home = All (λ w. w.1 ≡ 0) home

abbrev kinds_in : List (ℕ × ℕ) → List ℕ
kinds_in home = map (λ w. w.0) home

runs_case : (kind : ℕ) (w : ℕ × ℕ) (ws : List (ℕ × ℕ)) (here : Bool) → w.1 ≡ 0 → runs_with kind ws ≡ zeros (number_of kind (kinds_in ws))
    → map (λ (v : ℕ × ℕ). v.1) (cond here (w ∷ filter (is_of kind) ws) (filter (is_of kind) ws)) ≡ zeros (length (cond here (w.0 ∷ filter (λ v. v == kind) (kinds_in ws)) (filter (λ v. v == kind) (kinds_in ws))))
runs_case kind w ws true none later = ap₂ (λ (n : ℕ) l. n ∷ l) none later
runs_case kind w ws false none later = later

pub runs_zeros : (kind : ℕ) (home : List (ℕ × ℕ)) → HaveNotRun home → runs_with kind home ≡ zeros (number_of kind (kinds_in home))
runs_zeros kind [] none = refl
runs_zeros kind (w ∷ ws) none = runs_case kind w ws (w.0 == kind) (All-head (λ (v : ℕ × ℕ). v.1 ≡ 0) w ws none) (runs_zeros kind ws (All-tail (λ (v : ℕ × ℕ). v.1 ≡ 0) w ws none))

pub few_runs : (long : ℕ) (home : List (ℕ × ℕ)) → HaveNotRun home → All (λ w. w.1 ≤ long) home
few_runs long [] none = All-nil (λ (w : ℕ × ℕ). w.1 ≤ long)
few_runs long (w ∷ ws) none =
    let first : w.1 ≡ 0 = All-head (λ (v : ℕ × ℕ). v.1 ≡ 0) w ws none in
    All-cons (λ (v : ℕ × ℕ). v.1 ≤ long) w ws (omega (arith, first)) (few_runs long ws (All-tail (λ (v : ℕ × ℕ). v.1 ≡ 0) w ws none))

-- the works that are given
pub kinds_given : {A : Type 0} (kind_of runs_of : A → ℕ) (xs : List A) → map (λ (w : ℕ × ℕ). w.0) (map (λ x. (kind_of x, runs_of x)) xs) ≡ map kind_of xs
kinds_given kind_of runs_of [] = refl
kinds_given kind_of runs_of (x ∷ xs) = ap (λ l. kind_of x ∷ l) (kinds_given kind_of runs_of xs)

pub idle_given : {A : Type 0} (kind_of runs_of : A → ℕ) (xs : List A) → All (λ x. runs_of x ≡ 0) xs → HaveNotRun (map (λ x. (kind_of x, runs_of x)) xs)
idle_given kind_of runs_of [] all = All-nil (λ (w : ℕ × ℕ). w.1 ≡ 0)
idle_given kind_of runs_of (x ∷ xs) all =
    All-cons (λ (w : ℕ × ℕ). w.1 ≡ 0) (kind_of x, runs_of x) (map (λ y. (kind_of y, runs_of y)) xs) (All-head (λ y. runs_of y ≡ 0) x xs all) (idle_given kind_of runs_of xs (All-tail (λ y. runs_of y ≡ 0) x xs all))
