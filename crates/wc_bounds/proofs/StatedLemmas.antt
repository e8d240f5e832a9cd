-- The loop facts by their address, and the best of those of one address.
use Rattle.std.proofs.Common.{ℕ, suc, ◌≡◌, ◌+◌, ◌<◌, ◌≤◌, ⊎_elim, false, List, [], ◌∷◌, ◌++◌, Option, None, Some, length, refl, sym, ap, subst, ◌∙◌, arith}
use Rattle.std.specs.BTreeMap.{BTreeMap, get}
use Rattle.std.specs.List.{slice_get}
use Rattle.std.specs.Ordering.{is_eq, nat_cmp}
use Rattle.std.specs.declared.cmp.Ordering.{Ordering}
use Rattle.std.specs.declared.cmp.Ordering.TheVariants.{Less, Equal, Greater}
use Rattle.std.proofs.lemmas.Bool.{cases_eq, cases_lt}
use Rattle.std.proofs.lemmas.List.{length_push}
use Rattle.std.proofs.lemmas.Map.Lookups.{exact_unsigned}
use Rattle.std.proofs.lemmas.Option.{none-some, same_Some, slice_get_within}
use Rattle.wc_model.specs.declared.flow_facts.Fact.{Fact}
use Rattle.wc_model.specs.Program.Positions.{Position}
use Rattle.wc_model.proofs.Places.{get_push_cases}
use Rattle.wc_bounds.specs.declared.best.Best.{Best}
use Rattle.wc_bounds.specs.declared.stated.Stated.{Stated}
use Rattle.wc_bounds.specs.Inner.Best.{offered, best_of}
use Rattle.wc_bounds.specs.Inner.Stated.{loop_at, IsLoopAt, IsLatest, IsPut, IsStated, IsBestFrom, places_before}
use Rattle.wc_bounds.proofs.BestLemmas.{states_at, offered_states, lower, one_more}

other_key : (x y : ℕ) → (x ≡ y → ⊥) → is_eq (nat_cmp x y) ≡ false
other_key x y other = by (nat_cmp x y) refl
  where
    by : (r : Ordering) → nat_cmp x y ≡ r → is_eq r ≡ false
    by Less is = refl
    by Equal is = absurd (other (exact_unsigned x y is))
    by Greater is = refl

-- one more fact
module _ (facts : List (ℕ × Fact)) (k : ℕ) (f : ℕ × Fact) (there : slice_get facts k ≡ Some f) where
  address_is : (at : ℕ) → IsLoopAt facts k at → loop_at f.1 ≡ Some at
  address_is at (g, at_g, is) = ap (λ (x : ℕ × Fact). loop_at x.1) (same_Some f g (sym there ∙ at_g)) ∙ is

  still_latest : (at : ℕ) (o : Option ℕ) → (IsLoopAt facts k at → ⊥) → IsLatest facts at k o → IsLatest facts at (k + 1) o
  still_latest at None other is = λ i less of. ⊎_elim (λ (before : i < k). is i before of) (λ (now : k ≤ i). let same : i ≡ k = omega arith in other (subst (λ (n : ℕ). IsLoopAt facts n at) same of)) (cases_lt i k)
  still_latest at (Some j) other is = (omega (arith, is.0), is.1, λ i low less of. ⊎_elim (λ (before : i < k). is.2 i low before of) (λ (now : k ≤ i). let same : i ≡ k = omega arith in other (subst (λ (n : ℕ). IsLoopAt facts n at) same of)) (cases_lt i k))

  module _ (old new : Stated) (was : IsStated facts k old) where
    pub stated_other : loop_at f.1 ≡ None → new.last ≡ old.last → new.before.items ≡ old.before.items ++ None ∷ [] → IsStated facts (k + 1) new
    stated_other none last before =
        record {
          counted = ap length before ∙ length_push old.before.items None ∙ ap (λ (n : ℕ). n + 1) was.counted;
          last = λ at. still_latest at (get nat_cmp new.last at) (other at) (subst (λ (m : BTreeMap ℕ ℕ). IsLatest facts at k (get nat_cmp m at)) (sym last) (was.last at));
          before = λ i at o at_o of. ⊎_elim
              (λ earlier. was.before i at o earlier of)
              (λ now. let same : i ≡ k = now.0 ∙ was.counted in absurd (other at (subst (λ (n : ℕ). IsLoopAt facts n at) same of)))
              (get_push_cases old.before.items None i o (subst (λ (xs : List (Option ℕ)). slice_get xs i ≡ Some o) before at_o));
        }
      where
        other : (at : ℕ) → IsLoopAt facts k at → ⊥
        other at of = none-some at (sym none ∙ address_is at of)

    pub stated_loop : (at : ℕ) → loop_at f.1 ≡ Some at → IsPut at k old new → IsStated facts (k + 1) new
    stated_loop at is put =
        record {
          counted = ap length put.before ∙ length_push old.before.items (get nat_cmp old.last at) ∙ ap (λ (n : ℕ). n + 1) was.counted;
          last = λ q. ⊎_elim
              (λ (same : at ≡ q). subst (λ (n : ℕ). IsLatest facts n (k + 1) (get nat_cmp new.last n)) same (subst (λ (o : Option ℕ). IsLatest facts at (k + 1) o) (sym put.last.1) (omega arith, (f, there, is), λ i low less. absurd (omega arith))))
              (λ (other : at ≡ q → ⊥). subst (λ (o : Option ℕ). IsLatest facts q (k + 1) o) (sym (put.last.2 q (other_key at q other))) (still_latest q (get nat_cmp old.last q) (λ of. other (same_Some at q (sym is ∙ address_is q of))) (was.last q)))
              (cases_eq at q);
          before = λ i q o at_o of. ⊎_elim
              (λ earlier. was.before i q o earlier of)
              (λ now.
              let same : i ≡ k = now.0 ∙ was.counted in
              let one : at ≡ q = same_Some at q (sym is ∙ address_is q (subst (λ (n : ℕ). IsLoopAt facts n q) same of)) in
              let of_at : IsLatest facts at k o = subst (λ (x : Option ℕ). IsLatest facts at k x) now.1 (was.last at) in
              subst (λ (n : ℕ). IsLatest facts q n o) (sym same) (subst (λ (n : ℕ). IsLatest facts n k o) one of_at))
              (get_push_cases old.before.items (get nat_cmp old.last at) i o (subst (λ (xs : List (Option ℕ)). slice_get xs i ≡ Some o) put.before at_o));
        }

pub stated_first : (facts : List (ℕ × Fact)) (s : Stated) → ((at : ℕ) → get nat_cmp s.last at ≡ None) → s.before.items ≡ [] → IsStated facts 0 s
stated_first facts s last before =
    record {
      counted = ap length before;
      last = λ at. subst (λ (o : Option ℕ). IsLatest facts at 0 o) (sym (last at)) (λ i less. absurd (omega arith));
      before = λ i at o at_o. absurd (none-some o (subst (λ (xs : List (Option ℕ)). slice_get xs i ≡ Some o) before at_o));
    }

-- the best of the facts from the last one of an address on
module _ (facts : List (ℕ × Fact)) (p : Position) where
  nothing_offered : (i : ℕ) (f : ℕ × Fact) → slice_get facts i ≡ Some f → (IsLoopAt facts i p.pc → ⊥) → offered p f.1 ≡ None
  nothing_offered i f at other = by (offered p f.1) refl
    where
      by : (o : Option Best) → offered p f.1 ≡ o → offered p f.1 ≡ None
      by None is = is
      by (Some b) is = absurd (other (f, at, states_at p b.depth b.bound f.1 (offered_states p b f.1 is)))

  pub best_first : IsBestFrom facts p (length facts) None
  best_first i f low at = absurd (omega (arith, slice_get_within facts i f at))

  pub best_more : (k j : ℕ) (f : ℕ × Fact) (best : Option Best) → slice_get facts j ≡ Some f → IsLatest facts p.pc k (Some j) → IsBestFrom facts p k best → IsBestFrom facts p j (best_of best (offered p f.1))
  best_more k j f best at latest is = one_more facts p j f best (offered p f.1) at refl (lower facts p k (j + 1) best is (λ i g low less at_g. nothing_offered i g at_g (latest.2 i (omega arith) less)))

  pub best_last : (k : ℕ) (best : Option Best) → IsLatest facts p.pc k None → IsBestFrom facts p k best → IsBestFrom facts p 0 best
  best_last k best none is = lower facts p k 0 best is (λ i f low less at. nothing_offered i f at (none i less))

-- each place comes before the last
pub before_less : (facts : List (ℕ × Fact)) (at k : ℕ) (o : Option ℕ) → IsLatest facts at k o → places_before o ≤ k
before_less facts at k None is = omega arith
before_less facts at k (Some j) is = omega (arith, is.0)

pub less_from : (a b i : ℕ) → a ≤ i → b ≡ suc i → a < b
less_from a b i low is = omega arith

pub none_from : (o : Option ℕ) → ((x : ℕ) → o ≡ Some x → ⊥) → o ≡ None
none_from None never = refl
none_from (Some x) never = absurd (never x refl)

pub place_within : (facts : List (ℕ × Fact)) (at k j : ℕ) → IsLatest facts at k (Some j) → j < length facts
place_within facts at k j is = slice_get_within facts j is.1.0 is.1.1
