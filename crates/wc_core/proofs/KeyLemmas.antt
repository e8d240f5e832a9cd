-- Keys that other runs have, and the kinds of an order that pass a test.
use Rattle.std.proofs.Common.{◌≡◌, ℕ, ◌&&◌, ◌||◌, ◌==◌, Bool, true, false, cond, List, [], ◌∷◌, Some, refl, sym, ap, ap₂, ◌∙◌}
use Rattle.std.specs.List.{filter, list_any}
use Rattle.std.proofs.lemmas.Bool.{eqb-true}
use Rattle.wc_model.specs.Workspace.Closures.{has_kind}
use Rattle.wc_model.specs.Workspace.States.{Key, Run, is_out, own_run, same_key}
use Rattle.wc_core.proofs.LineLemmas.{equal_turned, turned}

-- the kinds of an order that pass
filter_case : (q : ℕ → Bool) (j k : ℕ) (ks : List ℕ) (here : Bool) → q k ≡ here → has_kind j (filter q ks) ≡ (has_kind j ks && q j) → has_kind j (cond here (k ∷ filter q ks) (filter q ks)) ≡ (((k == j) || has_kind j ks) && q j)
filter_case q j k ks here is later = by (k == j) refl here is where
  by : (same : Bool) → (k == j) ≡ same → (h : Bool) → q k ≡ h → has_kind j (cond h (k ∷ filter q ks) (filter q ks)) ≡ ((same || has_kind j ks) && q j)
  by true same true at = ap (λ b. b || has_kind j (filter q ks)) same ∙ sym (ap q (sym (eqb-true k j same)) ∙ at)
  by true same false at = later ∙ ap (λ b. has_kind j ks && b) (ap q (sym (eqb-true k j same)) ∙ at) ∙ none (has_kind j ks) ∙ sym (ap q (sym (eqb-true k j same)) ∙ at) where
    none : (b : Bool) → (b && false) ≡ false
    none true = refl
    none false = refl
  by false apart true at = ap (λ b. b || has_kind j (filter q ks)) apart ∙ later
  by false apart false at = later

pub has_filter : (q : ℕ → Bool) (j : ℕ) (ks : List ℕ) → has_kind j (filter q ks) ≡ (has_kind j ks && q j)
has_filter q j [] = refl
has_filter q j (k ∷ ks) = filter_case q j k ks (q k) refl (has_filter q j ks)

pub same_turned : (a b : Key) → same_key a b ≡ same_key b a
same_turned a b = ap₂ (λ x y. x && y) (ap₂ (λ x y. x && y) (equal_turned a.kind b.kind) (turned a.name b.name)) (equal_turned a.stamp b.stamp)

-- a run that is out has another key
none_same_case : (key : Key) (y : ℕ) (r s : Run) (rs : List Run) (here : Bool) → (same_key r.key key || list_any (λ x. same_key x.key key) rs) ≡ false → cond here (Some r) (own_run y rs) ≡ Some s → (list_any (λ x. same_key x.key key) rs ≡ false → own_run y rs ≡ Some s → same_key s.key key ≡ false) → same_key s.key key ≡ false
none_same_case key y r s rs true none at later = let same : r ≡ s = (let both = at in cc) in ap (λ (x : Run). same_key x.key key) (sym same) ∙ first (same_key r.key key) none where
  first : (b : Bool) → (b || list_any (λ x. same_key x.key key) rs) ≡ false → b ≡ false
  first false is = refl
  first true is = is
none_same_case key y r s rs false none at later = later (rest (same_key r.key key) none) at where
  rest : (b : Bool) → (b || list_any (λ x. same_key x.key key) rs) ≡ false → list_any (λ x. same_key x.key key) rs ≡ false
  rest false is = is
  rest true is = cc

pub none_same : (key : Key) (y : ℕ) (s : Run) (out : List Run) → is_out key out ≡ false → own_run y out ≡ Some s → same_key s.key key ≡ false
none_same key y s [] none at = cc
none_same key y s (r ∷ rs) none at = none_same_case key y r s rs (r.session == y) none at (λ rest is. none_same key y s rs rest is)
