-- Which sets occur.
use Rattle.std.proofs.Common.{ℕ, suc, ◌≡◌, ◌≢◌, ◌<◌, ◌≤◌, ◌+◌, ◌%◌, ⊎_elim, Bool, true, false, if◌then◌else◌, List, [], ◌∷◌, ◌++◌, Option, None, Some, length, get_or, set, refl, sym, ap, subst, ◌∙◌, arith, length-set, length-append, get_or-set_same, get_or-set_other}
use Rattle.std.specs.List.{Contains}
use Rattle.std.proofs.lemmas.Bool.{cases_eq, cases_lt, true≢false}
use Rattle.std.proofs.lemmas.List.{get_or_append_left, get_or_past}
use Rattle.std.proofs.lemmas.Option.{none-some, same_Some}
use Rattle.wc_mustmay.specs.Inner.OneSet.{HasSets, IsMet}

-- the sets of the first lines are marked
pub record AreMarked (sets : ℕ) (access : List (Option ℕ)) (number : ℕ) (seen : List Bool) : Type 0 where
  pub count : length seen ≡ sets
  pub marked : (p line : ℕ) → p < number → get_or access p None ≡ Some line → get_or seen (line % sets) false ≡ true

stays : (seen : List Bool) (i k : ℕ) → i < length seen → get_or seen k false ≡ true → get_or (set seen i true) k false ≡ true
stays seen i k within is = ⊎_elim
    (λ (same : k ≡ i). ap (λ (n : ℕ). get_or (set seen i true) n false) same ∙ get_or-set_same seen i true false within)
    (λ (other : k ≢ i). get_or-set_other seen i k true false other ∙ is)
    (cases_eq k i)

pub mark_more : (sets : ℕ) (access : List (Option ℕ)) (i : ℕ) (x : Option ℕ) (seen new : List Bool) → 0 < sets → get_or access i None ≡ x → IsMet x seen new → AreMarked sets access i seen → AreMarked sets access (i + 1) new
mark_more sets access i None seen new some at is marks = record {
  count = ap length is ∙ marks.count;
  marked = λ p line below there. ⊎_elim
      (λ (less : p < i). ap (λ (xs : List Bool). get_or xs (line % sets) false) is ∙ marks.marked p line less there)
      (λ (more : i ≤ p). let e : i ≡ p = omega arith in absurd (none-some line (sym at ∙ ap (λ (n : ℕ). get_or access n None) e ∙ there)))
      (cases_lt p i);
}
mark_more sets access i (Some l) seen new some at is marks =
    let place : l % length seen ≡ l % sets = ap (λ (n : ℕ). l % n) marks.count in
    let within : l % length seen < length seen = omega (arith, marks.count, some) in
    record {
      count = ap length is ∙ length-set seen (l % length seen) true ∙ marks.count;
      marked = λ p line below there. ap (λ (xs : List Bool). get_or xs (line % sets) false) is ∙ ⊎_elim
          (λ (less : p < i). stays seen (l % length seen) (line % sets) within (marks.marked p line less there))
          (λ (more : i ≤ p).
          let e : i ≡ p = omega arith in
          let same : l ≡ line = same_Some l line (sym at ∙ ap (λ (n : ℕ). get_or access n None) e ∙ there) in
          ap (λ (n : ℕ). get_or (set seen (l % length seen) true) n false) (sym (place ∙ ap (λ (n : ℕ). n % sets) same)) ∙ get_or-set_same seen (l % length seen) true false within)
          (cases_lt p i);
    }

pub sets_more : (seen : List Bool) (i : ℕ) (flag : Bool) (met new : List ℕ) → flag ≡ get_or seen i false → new ≡ met ++ (if flag then i ∷ [] else []) → ((s : ℕ) → s < i → get_or seen s false ≡ true → Contains met s)
    → (s : ℕ) → s < i + 1 → get_or seen s false ≡ true → Contains new s
sets_more seen i flag met new flag_is is some s below marked = subst (λ (xs : List ℕ). Contains xs s) (sym is) (⊎_elim
    (λ (less : s < i). left met (if flag then i ∷ [] else []) s (some s less marked))
    (λ (more : i ≤ s). let e : i ≡ s = omega arith in last met i s flag e (flag_is ∙ ap (λ (n : ℕ). get_or seen n false) e ∙ marked))
    (cases_lt s i))
  where
    left : (xs ys : List ℕ) (x : ℕ) → Contains xs x → Contains (xs ++ ys) x
    left xs ys x among = (among.0, omega (arith, length-append xs ys, among.1), get_or_append_left xs ys x among.0 among.1 ∙ among.2)

    end : (xs : List ℕ) (x : ℕ) → Contains (xs ++ x ∷ []) x
    end [] x = (0, omega arith, refl)
    end (y ∷ xs) x = let h = end xs x in (suc h.0, omega (arith, h.1), h.2)

    last : (met : List ℕ) (i s : ℕ) (flag : Bool) → i ≡ s → flag ≡ true → Contains (met ++ (if flag then i ∷ [] else [])) s
    last met i s true e yes_is = subst (λ (n : ℕ). Contains (met ++ i ∷ []) n) e (end met i)
    last met i s false e yes_is = absurd (true≢false (sym yes_is))

pub has_sets : (sets : ℕ) (access : List (Option ℕ)) (i : ℕ) (seen : List Bool) (met : List ℕ) → 0 < sets → length access ≤ i → AreMarked sets access i seen → ((s : ℕ) → s < sets → get_or seen s false ≡ true → Contains met s) → HasSets sets access met
has_sets sets access i seen met some all marks each p line at =
    let within : p < length access = inside access p line at in
    each (line % sets) (omega (arith, some)) (marks.marked p line (omega (arith, within, all)) at)
  where
    inside : (access : List (Option ℕ)) (p line : ℕ) → get_or access p None ≡ Some line → p < length access
    inside access p line at = ⊎_elim (λ (less : p < length access). less) (λ (past : length access ≤ p). absurd (none-some line (sym (get_or_past access p None past) ∙ at))) (cases_lt p (length access))
