-- Fewer rounds are left after each, and which nodes are marked.
use Rattle.std.proofs.Common.{ℕ, ◌≡◌, ◌+◌, ◌-◌, ◌<◌, inl, inr, ⊎_elim, List, [], ◌∷◌, ◌++◌, Some, length, set, get_or, sum_by, refl, sym, ap, subst, arith}
use Rattle.std.specs.List.{Contains, slice_get, slice_index}
use Rattle.std.proofs.lemmas.Bool.{cases_eq}
use Rattle.std.proofs.lemmas.List.{length-set, length_push}
use Rattle.std.proofs.lemmas.List.Sums.{sum_by-set}
use Rattle.std.proofs.lemmas.Option.{slice_get_within, get_or_from_slice_get}
use Rattle.wc_model.proofs.Places.{get_set_cases, get_set, get_set_other}
use Rattle.wc_model.proofs.Searching.{follow_falls}
use Rattle.wc_nest.specs.declared.marking.Mark.{Mark}
use Rattle.wc_nest.specs.declared.marking.Mark.TheVariants.{New, Open, Done}
use Rattle.wc_nest.specs.declared.ways.Way.{Way}
use Rattle.wc_nest.specs.Inner.Marking.{set_all}
use Rattle.wc_nest.specs.Inner.Searches.{weight, rounds_of, IsTarget, Spreads}
use Rattle.wc_nest.proofs.MarkingLemmas.{length-set_all, set_all_some, set_all_cases, weight-set_all}

falls_by_one : (total : ℕ) (next : List ℕ) (p : ℕ) → p < length next → slice_index next p < total → sum_by (λ place. total - place) (set next p (slice_index next p + 1)) < sum_by (λ place. total - place) next
falls_by_one total next p known short = let falls : 0 + sum_by (λ place. total - place) (set next p (slice_index next p + 1)) < 0 + sum_by (λ place. total - place) next = follow_falls next p total 0 known short in omega arith

pub follow_fewer : (total : ℕ) (marks : List Mark) (next path bounds : List ℕ) (p : ℕ) → p < length next → slice_index next p < total → rounds_of total marks (set next p (slice_index next p + 1)) path bounds < rounds_of total marks next path bounds
follow_fewer total marks next path bounds p known short = let falls = falls_by_one total next p known short in omega arith

pub enter_fewer : (total : ℕ) (marks : List Mark) (next path bounds : List ℕ) (p q n : ℕ) → slice_get marks q ≡ Some New → p < length next → slice_index next p < total → rounds_of total (set marks q (Open n)) (set next p (slice_index next p + 1)) (path ++ n ∷ []) (bounds ++ n ∷ []) < rounds_of total marks next path bounds
enter_fewer total marks next path bounds p q n new known short =
    let falls = falls_by_one total next p known short in
    let within : q < length marks = slice_get_within marks q New new in
    let changes : sum_by weight (set marks q (Open n)) + weight (get_or marks q New) ≡ sum_by weight marks + weight (Open n) = sum_by-set weight marks q (Open n) New within in
    let was : weight (get_or marks q New) ≡ 3 = ap weight (get_or_from_slice_get marks q New New new) in
    let now : weight (Open n) ≡ 0 = refl in
    omega (arith, length_push path n, length_push bounds n)

pub leave_fewer : (total : ℕ) (marks : List Mark) (next path rest bounds : List ℕ) (place : ℕ) → path ≡ rest ++ place ∷ [] → rounds_of total marks next rest bounds < rounds_of total marks next path bounds
leave_fewer total marks next path rest bounds place split = omega (arith, ap length split, length_push rest place)

pub merge_fewer : (total : ℕ) (marks : List Mark) (next path bounds rest : List ℕ) (b : ℕ) → bounds ≡ rest ++ b ∷ [] → rounds_of total marks next path rest < rounds_of total marks next path bounds
merge_fewer total marks next path bounds rest b split = omega (arith, ap length split, length_push rest b)

pub close_fewer : (total : ℕ) (marks : List Mark) (next path rest bounds low ps : List ℕ) (place count : ℕ) → path ≡ rest ++ place ∷ [] → bounds ≡ low ++ place ∷ [] → ((p : ℕ) → Contains ps p → (i : ℕ) × (slice_get marks p ≡ Some (Open i))) → rounds_of total (set_all marks ps (Done count)) next rest low < rounds_of total marks next path bounds
close_fewer total marks next path rest bounds low ps place count split bounds_split opened =
    let same : sum_by weight (set_all marks ps (Done count)) ≡ sum_by weight marks = weight-set_all marks ps (Done count) refl (λ p among. (Open (opened p among).0, (opened p among).1, refl)) in
    omega (arith, ap length split, length_push rest place, ap length bounds_split, length_push low place)

module _ (ways : List Way) where
  pub spreads_same : (marks : List Mark) → Spreads ways marks marks
  spreads_same marks = record { sized = refl; kept = λ p is. is; led = λ p is. inl is }

  pub spreads_open : (marks : List Mark) (q n : ℕ) → IsTarget ways q → q < length marks → Spreads ways marks (set marks q (Open n))
  spreads_open marks q n target known =
      record {
        sized = length-set marks q (Open n);
        kept = λ p is. ⊎_elim
            (λ (same : p ≡ q). (Open n, subst (λ (x : ℕ). slice_get (set marks q (Open n)) x ≡ Some (Open n)) (sym same) (get_set marks q (Open n) known), λ (e : Open n ≡ New). cc))
            (λ (other : p ≡ q → ⊥). (is.0, get_set_other marks q p (Open n) is.0 other is.1, is.2))
            (cases_eq p q);
        led = λ p is. ⊎_elim
            (λ here. inr (subst (λ (x : ℕ). IsTarget ways x) (sym here.0) target))
            (λ other. inl (is.0, other.1, is.2))
            (get_set_cases marks q p (Open n) is.0 is.1);
      }

  pub spreads_done : (marks : List Mark) (ps : List ℕ) (count : ℕ) → ((p : ℕ) → Contains ps p → (i : ℕ) × (slice_get marks p ≡ Some (Open i))) → Spreads ways marks (set_all marks ps (Done count))
  spreads_done marks ps count opened =
      record {
        sized = length-set_all marks ps (Done count);
        kept = λ p is. ⊎_elim
            (λ done. (Done count, done, λ (e : Done count ≡ New). cc))
            (λ same. (is.0, same, is.2))
            (set_all_some marks ps (Done count) p is.0 is.1);
        led = λ p is. ⊎_elim
            (λ among. inl (Open (opened p among.0).0, (opened p among.0).1, λ (e : Open (opened p among.0).0 ≡ New). cc))
            (λ old. inl (is.0, old, is.2))
            (set_all_cases marks ps (Done count) p is.0 is.1);
      }
