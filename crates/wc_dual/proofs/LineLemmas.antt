-- What the prices make each step of a block worth, part by part.
use Rattle.std.proofs.Common.{◌≡◌, ℕ, suc, ◌+◌, ◌-◌, ◌<◌, ◌≤◌, ℤ, pos, ◌+ℤ◌, ◌-ℤ◌, ◌*ℤ◌, ◌≤ℤ◌, neg_ℤ, List, [], ◌∷◌, length, take, set, get_or, slice_get, ◌≢◌, get_or-set_other, get_or-set_same, Some, None, Bool, true, false, refl, sym, ap, subst, ⊎_elim, ◌∙◌, arith}
use Rattle.std.proofs.lemmas.Int.{ints}
use Rattle.std.proofs.lemmas.Option.{get_or_from_slice_get, slice_get-get_or}
use Rattle.std.proofs.lemmas.Bool.{cases_lt}
use Rattle.std.specs.Bool.{MatchBool}
use Rattle.wc_base.specs.Arithmetic.{InRange}
use Rattle.wc_base.specs.Sums.{sum_placed, chosen}
use Rattle.wc_base.proofs.SumLemmas.{sum_same}
use Rattle.wc_model.specs.declared.flow_system.System.{System}
use Rattle.wc_model.specs.declared.flow_system.SystemLimit.{SystemLimit}
use Rattle.wc_model.specs.declared.flow_system.SystemStep.{SystemStep}
use Rattle.wc_model.specs.Flow.Certificates.{Prices, back_price, entry_price, factor_of, scaled, step_price}
use Rattle.wc_model.specs.Flow.Places.{is_listed, number_at}
use Rattle.wc_model.specs.Flow.SystemWalks.{cost_at}
use Rattle.wc_dual.specs.Checks.{IsChecked}
use Rattle.wc_dual.specs.declared.checks.Check.{Check}
use Rattle.wc_dual.specs.declared.checks.Check.TheVariants.{Yes, No, TooWide}
use Rattle.wc_dual.specs.Wide.{IsWidePrice, Leaves}
use Rattle.wc_dual.specs.Inner.Blocks.{Adds}
use Rattle.wc_dual.specs.Inner.Lines.{AreLines, AreMet, ArePriced, AreStarts, HasWideBound, HasWideCost, HasWideFactor, HasWideStart, back_term, entry_term, limit_term, start_of}
use Rattle.wc_dual.specs.Inner.Passes.{CannotSum, IsPass, added_by}

sum_neg : {X : Type 0} (f : ℕ → X → ℤ) (xs : List X) → sum_placed (λ i x. neg_ℤ (f i x)) xs ≡ neg_ℤ (sum_placed f xs)
sum_neg f [] = refl
sum_neg f (x ∷ xs) = omega (arith, ints, sum_neg (λ i. f (suc i)) xs)

-- the same terms from the same number
leaves_same : {X : Type 0} (begin begin' : ℤ) (f g : ℕ → X → ℤ) (xs : List X) → begin ≡ begin' → ((i : ℕ) (x : X) → f i x ≡ g i x) → Leaves begin f xs → Leaves begin' g xs
leaves_same begin begin' f g xs same each leaves =
    (leaves.0, λ fits. leaves.1 (subst (λ z. InRange z) (omega (arith, ints, same, sum_same f g (take leaves.0 xs) (λ i x at. each i x))) fits))

module _ (s : System) (prices : Prices) (scale : ℤ) (first count : ℕ) (inside : first + count ≤ length s.steps) where
  -- the step of a sum
  there : (k : ℕ) → k < count → (t : SystemStep) × (slice_get s.steps (first + k) ≡ Some t)
  there k below =
      let none : SystemStep = record { source = 0; target = None; cost = 0 } in
      (get_or s.steps (first + k) none, slice_get-get_or s.steps (first + k) none (omega (arith, below, inside)))

  pub wide_start : HasWideStart s.steps prices.u → IsWidePrice s scale prices
  wide_start wide = IsWidePrice.step wide.0 wide.1 wide.2 wide.3

  pub wide_bound : HasWideBound s.loops prices.v → IsWidePrice s scale prices
  wide_bound wide = IsWidePrice.bound wide.3.0 wide.0 wide.1 wide.2 wide.3.1 wide.3.2

  pub wide_factor : HasWideFactor s.steps s.limits prices.w → IsWidePrice s scale prices
  wide_factor wide = IsWidePrice.factor wide.3.0 wide.0 wide.3.1 wide.1 wide.3.2 wide.2 wide.3.3

  module _ (starts : List ℤ) (counted : length starts ≡ count) (are : AreStarts s.steps prices.u first count starts) where
    pub wide_back : CannotSum (back_term prices.v) s.loops first starts → IsWidePrice s scale prices
    wide_back cannot =
        let below : cannot.0 < count = omega (arith, cannot.1, counted) in
        let step = there cannot.0 below in
        IsWidePrice.back (first + cannot.0) step.0 step.1
        (leaves_same (number_at starts cannot.0) (start_of prices.u step.0) (λ j l. back_term prices.v j l (first + cannot.0)) (λ j l. back_term prices.v j l (first + cannot.0)) s.loops
        (are cannot.0 step.0 below step.1) (λ i x. refl) cannot.2)

    module _ (backs : List ℤ) (add_backs : Adds first (added_by (back_term prices.v) s.loops) starts backs) where
      after_backs : (k : ℕ) (t : SystemStep) → k < count → slice_get s.steps (first + k) ≡ Some t → number_at backs k ≡ start_of prices.u t +ℤ back_price prices.v s.loops (first + k)
      after_backs k t below at = add_backs.1 k (omega (arith, below, counted)) ∙ ap (λ z. z +ℤ back_price prices.v s.loops (first + k)) (are k t below at)

      pub wide_entry : CannotSum (entry_term prices.v) s.loops first backs → IsWidePrice s scale prices
      wide_entry cannot =
          let below : cannot.0 < count = omega (arith, cannot.1, counted, add_backs.0) in
          let step = there cannot.0 below in
          IsWidePrice.entry (first + cannot.0) step.0 step.1
          (leaves_same (number_at backs cannot.0) (start_of prices.u step.0 +ℤ back_price prices.v s.loops (first + cannot.0)) (λ j l. entry_term prices.v j l (first + cannot.0)) (λ j l. entry_term prices.v j l (first + cannot.0)) s.loops
          (after_backs cannot.0 step.0 below step.1) (λ i x. refl) cannot.2)

      module _ (entries : List ℤ) (add_entries : Adds first (added_by (entry_term prices.v) s.loops) backs entries) where
        after_entries : (k : ℕ) (t : SystemStep) → k < count → slice_get s.steps (first + k) ≡ Some t
            → number_at entries k ≡ start_of prices.u t +ℤ back_price prices.v s.loops (first + k) -ℤ entry_price prices.v s.loops (first + k)
        after_entries k t below at = omega (
          arith,
          ints,
          add_entries.1 k (omega (arith, below, counted, add_backs.0)),
          after_backs k t below at,
          sum_neg (λ j l. chosen (is_listed (first + k) l.entry) (pos l.bound *ℤ prices.v j)) s.loops,
        )

        term_is : (k : ℕ) (t : SystemStep) → slice_get s.steps (first + k) ≡ Some t → (j : ℕ) (l : SystemLimit) → limit_term s.steps prices.w j l (first + k) ≡ factor_of t.source l.factors *ℤ prices.w j
        term_is k t at j l = ap (cost_at (λ o. factor_of o.source l.factors *ℤ prices.w j)) at

        pub wide_limit : CannotSum (limit_term s.steps prices.w) s.limits first entries → IsWidePrice s scale prices
        wide_limit cannot =
            let below : cannot.0 < count = omega (arith, cannot.1, counted, add_backs.0, add_entries.0) in
            let step = there cannot.0 below in
            IsWidePrice.limit (first + cannot.0) step.0 step.1
            (leaves_same (number_at entries cannot.0) (start_of prices.u step.0 +ℤ back_price prices.v s.loops (first + cannot.0) -ℤ entry_price prices.v s.loops (first + cannot.0))
            (λ j l. limit_term s.steps prices.w j l (first + cannot.0)) (λ j l. factor_of step.0.source l.factors *ℤ prices.w j) s.limits
            (after_entries cannot.0 step.0 below step.1) (term_is cannot.0 step.0 step.1) cannot.2)

        pub lines : (sums : List ℤ) → Adds first (added_by (limit_term s.steps prices.w) s.limits) entries sums → AreLines s prices first sums
        lines sums add_limits k t below at =
            let near : k < count = omega (arith, below, counted, add_backs.0, add_entries.0, add_limits.0) in
            omega (
              arith,
              ints,
              add_limits.1 k (omega (arith, below, add_limits.0)),
              after_entries k t near at,
              sum_same (λ j l. limit_term s.steps prices.w j l (first + k)) (λ j l. factor_of t.source l.factors *ℤ prices.w j) s.limits (λ j l h. term_is k t at j l),
            )

-- the last part, or what is too wide in it
pub lines_or_wide : (s : System) (prices : Prices) (first count : ℕ) (inside : first + count ≤ length s.steps) (starts : List ℤ) (counted : length starts ≡ count) (are : AreStarts s.steps prices.u first count starts)
    (backs : List ℤ) (add_backs : Adds first (added_by (back_term prices.v) s.loops) starts backs) (entries : List ℤ) (add_entries : Adds first (added_by (entry_term prices.v) s.loops) backs entries)
    (sums : List ℤ) (limits : List SystemLimit) → limits ≡ s.limits → (b : Bool) → IsPass (HasWideFactor s.steps limits prices.w) (limit_term s.steps prices.w) limits first entries sums b
    → MatchBool b (AreLines s prices first sums) ((scale : ℤ) → IsWidePrice s scale prices)
lines_or_wide s prices first count inside starts counted are backs add_backs entries add_entries sums limits same true pass =
    lines s prices (pos 0) first count inside starts counted are backs add_backs entries add_entries sums (subst (λ ls. Adds first (added_by (limit_term s.steps prices.w) ls) entries sums) same pass)
lines_or_wide s prices first count inside starts counted are backs add_backs entries add_entries sums limits same false pass = λ scale.
    ⊎_elim (λ wide. wide_factor s prices scale first count inside (subst (λ ls. HasWideFactor s.steps ls prices.w) same wide))
    (λ cannot. wide_limit s prices scale first count inside starts counted are backs add_backs entries add_entries (subst (λ ls. CannotSum (limit_term s.steps prices.w) ls first entries) same cannot))
    pass

-- The sums of a block against the costs.
module _ (s : System) (prices : Prices) (scale : ℤ) (first : ℕ) (sums : List ℤ) (are : AreLines s prices first sums) where
  pub block_priced : AreMet s.steps scale first (length sums) sums → ArePriced s prices scale first (first + length sums)
  block_priced met i t from below at =
      let same : first + (i - first) ≡ i = omega (arith, from) in
      let here : slice_get s.steps (first + (i - first)) ≡ Some t = ap (slice_get s.steps) same ∙ at in
      let near : i - first < length sums = omega (arith, below, from) in
      subst (λ j. scaled scale t ≤ℤ step_price s prices j t) same
      (subst (λ z. scaled scale t ≤ℤ z) (are (i - first) t near here) (met (i - first) t near here))

  pub block_met : ArePriced s prices scale first (first + length sums) → AreMet s.steps scale first (length sums) sums
  block_met priced k t below at =
      subst (λ z. scaled scale t ≤ℤ z) (sym (are k t below at)) (priced (first + k) t (omega arith) (omega (arith, below)) at)

-- the start of one line more
pub starts_more : (steps : List SystemStep) (u : ℕ → ℤ) (first place : ℕ) (sums : List ℤ) (passed line : ℤ) (none : SystemStep) → passed ≡ line → line ≡ start_of u (get_or steps (first + place) none) → place < length sums
    → AreStarts steps u first place sums → AreStarts steps u first (place + 1) (set sums place passed)
starts_more steps u first place sums passed line none same is within before k t below at = ⊎_elim
    (λ less. let other : k ≢ place = omega arith in get_or-set_other sums place k passed (pos 0) other ∙ before k t less at)
    (λ last. subst (λ n. number_at (set sums place passed) n ≡ start_of u t) (let eq : place ≡ k = omega (arith, last, below) in eq)
    (get_or-set_same sums place passed (pos 0) within ∙ same ∙ is
    ∙ ap (start_of u) (get_or_from_slice_get steps (first + place) t none (subst (λ n. slice_get steps (first + n) ≡ Some t) (let eq : k ≡ place = omega (arith, last, below) in eq) at))))
    (cases_lt k place)

pub block_checked : (s : System) (prices : Prices) (scale : ℤ) (first : ℕ) (sums : List ℤ) (steps : List SystemStep) → steps ≡ s.steps → AreLines s prices first sums
    → (r : Check) → IsChecked (AreMet steps scale first (length sums) sums) (HasWideCost steps scale) r → IsChecked (ArePriced s prices scale first (first + length sums)) (IsWidePrice s scale prices) r
block_checked s prices scale first sums steps same are Yes met = block_priced s prices scale first sums are (subst (λ ts. AreMet ts scale first (length sums) sums) same met)
block_checked s prices scale first sums steps same are No unmet = λ priced. unmet (subst (λ ts. AreMet ts scale first (length sums) sums) (sym same) (block_met s prices scale first sums are priced))
block_checked s prices scale first sums steps same are TooWide wide = let there = subst (λ ts. HasWideCost ts scale) same wide in IsWidePrice.cost there.0 there.1 there.2 there.3
