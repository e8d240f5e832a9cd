-- Whether a kind starts or waits, by its works at home.
use Rattle.std.proofs.Common.{ℕ, ◌≡◌, ◌==◌, Bool, true, false, cond, List, [], ◌∷◌, ◌++◌, Option, None, Some, is_some, map, reverse, refl, sym, ap, ap₂, ◌∙◌}
use Rattle.std.specs.List.{filter, find}
use Rattle.std.proofs.lemmas.Bool.{eqb-true, false≢true}
use Rattle.std.proofs.lemmas.Option.{none-some}
use Rattle.wc_model.specs.Workspace.Firsts.{without_first}
use Rattle.wc_model.specs.Workspace.States.{Run}
use Rattle.wc_core.specs.Inner.Works.{is_of, runs_with}
use Rattle.wc_core.specs.Turns.{at_home, runner_of_kind, starts, unless_running, waits}
use Rattle.wc_core.proofs.FindLemmas.{found_passes}
use Rattle.wc_core.proofs.WorkLemmas.{reverse_cons, taken_runs}

at_snoc : (kind n : ℕ) (xs : List ℕ) (out : List Run) → at_home kind (xs ++ n ∷ []) out ≡ starts kind
at_snoc kind n [] out = refl
at_snoc kind n (x ∷ xs) out = refl

some_case : (kind : ℕ) (home : List (ℕ × ℕ)) (out : List Run) (found : Option (ℕ × ℕ)) → find (is_of kind) home ≡ found → is_some found ≡ true → at_home kind (reverse (runs_with kind home)) out ≡ starts kind
some_case kind home out None at is = absurd (false≢true is)
some_case kind home out (Some w) at is =
    let own : w.0 ≡ kind = eqb-true w.0 kind (found_passes (is_of kind) home w at) in
    let runs = taken_runs kind w.1 home (without_first (is_of kind) home) (record { found = at ∙ ap (λ k. Some (k, w.1)) own; rest = refl }) in
    ap (λ l. at_home kind l out) (ap reverse runs ∙ reverse_cons w.1 (runs_with kind (without_first (is_of kind) home))) ∙ at_snoc kind w.1 (reverse (runs_with kind (without_first (is_of kind) home))) out

none_case : (kind : ℕ) (w : ℕ × ℕ) (ws : List (ℕ × ℕ)) (here : Bool) → cond here (Some w) (find (is_of kind) ws) ≡ None → (find (is_of kind) ws ≡ None → runs_with kind ws ≡ []) → map (λ (v : ℕ × ℕ). v.1) (cond here (w ∷ filter (is_of kind) ws) (filter (is_of kind) ws)) ≡ []
none_case kind w ws true is later = absurd (none-some w (sym is))
none_case kind w ws false is later = later is

runs_empty : (kind : ℕ) (ws : List (ℕ × ℕ)) → find (is_of kind) ws ≡ None → runs_with kind ws ≡ []
runs_empty kind [] is = refl
runs_empty kind (w ∷ ws) is = none_case kind w ws (is_of kind w) is (λ later. runs_empty kind ws later)

none_of : {A : Type 0} (o : Option A) → is_some o ≡ false → o ≡ None
none_of None is = refl
none_of (Some a) is = absurd (false≢true (sym is))

module _ (kind : ℕ) (home : List (ℕ × ℕ)) (out : List Run) (runner : Option ℕ) (none : runner ≡ None) where
  pub starts_is : is_some (find (is_of kind) home) ≡ true → unless_running kind (reverse (runs_with kind home)) out runner ≡ starts kind
  starts_is is = ap (unless_running kind (reverse (runs_with kind home)) out) none ∙ some_case kind home out (find (is_of kind) home) refl is

  pub waits_is : is_some (find (is_of kind) home) ≡ false → unless_running kind (reverse (runs_with kind home)) out runner ≡ waits (runner_of_kind kind out)
  waits_is is = ap (unless_running kind (reverse (runs_with kind home)) out) none ∙ ap (λ l. at_home kind (reverse l) out) (runs_empty kind home (none_of (find (is_of kind) home) is))
