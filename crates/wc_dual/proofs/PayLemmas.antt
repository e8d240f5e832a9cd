-- One row's amounts, added place by place.
use Rattle.std.proofs.Common.{◌≡◌, ℕ, ◌==◌, ◌+◌, ◌-◌, ◌<◌, ℤ, pos, ◌+ℤ◌, ◌*ℤ◌, neg_ℤ, List, [], ◌∷◌, length, map, take, slice_get, Option, Some, None, Bool, true, false, refl, sym, ap, ◌⊎◌, subst, inl, inr, ⊎_elim, ◌∙◌, arith}
use Rattle.std.proofs.Math.IntN.{zero-*ℤ}
use Rattle.std.proofs.lemmas.Int.{ints}
use Rattle.wc_base.specs.Arithmetic.{InRange}
use Rattle.wc_base.specs.Sums.{sum_placed, chosen}
use Rattle.wc_base.proofs.Products.{spread}
use Rattle.wc_model.specs.declared.flow_system.SystemLimit.{SystemLimit}
use Rattle.wc_model.specs.declared.flow_system.SystemStep.{SystemStep}
use Rattle.wc_model.specs.Flow.Certificates.{factor_of}
use Rattle.wc_model.specs.Flow.Places.{IsOnce, is_listed, number_at}
use Rattle.wc_model.specs.Flow.SystemWalks.{cost_at}
use Rattle.wc_dual.specs.Wide.{IsOut}
use Rattle.wc_dual.specs.Inner.Blocks.{Adds, CannotAdd, CannotPut, IsTurn}
use Rattle.wc_dual.specs.Inner.Lines.{CannotPay, IsWideFactor, pay}
use Rattle.wc_dual.specs.Inner.Passes.{IsRowTurn, added_by}
use Rattle.wc_dual.proofs.BlockLemmas.{take_all}
use Rattle.wc_dual.proofs.DualityLemmas.{turned}
use Rattle.wc_dual.proofs.ListLemmas.{factor_before, factor_is, factor_more, listed_in, listed_sum, none_before, once_take}

-- An amount for each of some places, each of which stands there once.
module _ (places : List ℕ) (amount : ℤ) (first : ℕ) (once : IsOnce places) where
  pub put_out : (m n : ℕ) (old mid : List ℤ) → slice_get places m ≡ Some n → Adds first (added_by (λ _ q i. chosen (q == i) amount) (take m places)) old mid → CannotPut first n amount mid
      → CannotAdd first (λ i. chosen (is_listed i places) amount) old
  put_out m n old mid at before cannot = (n - first, within, λ fits. cannot.2 (subst (λ z. InRange z) same fits))
    where
      within : n - first < length old
      within = omega (arith, cannot.1, before.0)

      here : n ≡ first + (n - first)
      here = omega (arith, cannot.0)

      none : is_listed (first + (n - first)) (take m places) ≡ false
      none = subst (λ q. is_listed q (take m places) ≡ false) here (none_before places m n once at)

      there : is_listed (first + (n - first)) places ≡ true
      there = subst (λ q. is_listed q places ≡ true) here (listed_in places m n at)

      same : number_at old (n - first) +ℤ chosen (is_listed (first + (n - first)) places) amount ≡ number_at mid (n - first) +ℤ amount
      same = omega (
        arith,
        ints,
        before.1 (n - first) within,
        listed_sum amount (first + (n - first)) (take m places) (once_take m places once),
        ap (λ b. chosen b amount) none,
        ap (λ b. chosen b amount) there,
      )

  pub put_all : (n : ℕ) (old new : List ℤ) → n ≡ length places → Adds first (added_by (λ _ q i. chosen (q == i) amount) (take n places)) old new → Adds first (λ i. chosen (is_listed i places) amount) old new
  put_all n old new last adds = (
    adds.0,
    λ k below. adds.1 k below
        ∙ ap (λ ns. number_at old k +ℤ sum_placed (λ _ q. chosen (q == first + k) amount) ns) (ap (λ m. take m places) last ∙ take_all places)
        ∙ ap (λ z. number_at old k +ℤ z) (listed_sum amount (first + k) places once),
  )

-- What a loop's entries take off.
neg_chosen : (b : Bool) (z : ℤ) → chosen b (neg_ℤ z) ≡ neg_ℤ (chosen b z)
neg_chosen true z = refl
neg_chosen false z = refl

pub turn_neg : (Wide : Type 0) (places : List ℕ) (first : ℕ) (less z : ℤ) (old new : List ℤ) (b : Bool) → less ≡ neg_ℤ z → IsTurn first (λ i. chosen (is_listed i places) less) old new b
    → IsRowTurn Wide first (λ i. neg_ℤ (chosen (is_listed i places) z)) old new b
turn_neg Wide places first less z old new true is turn =
    (turn.0, λ k below. turn.1 k below ∙ ap (λ y. number_at old k +ℤ y) (ap (chosen (is_listed (first + k) places)) is ∙ neg_chosen (is_listed (first + k) places) z))
turn_neg Wide places first less z old new false is turn =
    inr (turn.0, turn.1, λ fits. turn.2 (subst (λ y. InRange (number_at old turn.0 +ℤ y)) (sym (ap (chosen (is_listed (first + turn.0) places)) is ∙ neg_chosen (is_listed (first + turn.0) places) z)) fits))

pub some_listed : (ns : List ℕ) → (length ns ≡ 0 → ⊥) → (i : ℕ) × (is_listed i ns ≡ true)
some_listed [] some = absurd (some refl)
some_listed (n ∷ ns) some = (n, listed_in (n ∷ ns) 0 n refl)

pub none_taken : (ns : List ℕ) (first : ℕ) (z : ℤ) (old : List ℤ) → length ns ≡ 0 → Adds first (λ i. neg_ℤ (chosen (is_listed i ns) z)) old old
none_taken [] first z old none = (refl, λ k below. omega (arith, ints))
none_taken (n ∷ ns) first z old none = absurd (omega (arith, none))

-- A limit's factors.
chosen_times : (b : Bool) (c z : ℤ) → chosen b c *ℤ z ≡ chosen b (c *ℤ z)
chosen_times true c z = refl
chosen_times false c z = zero-*ℤ z

module _ (steps : List SystemStep) (fs : List (ℕ × ℤ)) (price : ℤ) (first : ℕ) (once : IsOnce (map (λ f. f.0) fs)) where
  abbrev worth : List (ℕ × ℤ) → SystemStep → ℤ
  worth gs t = factor_of t.source gs *ℤ price

  abbrev worth_at : List (ℕ × ℤ) → ℕ → ℤ
  worth_at gs i = cost_at (worth gs) (slice_get steps i)

  pub limit_start : (old : List ℤ) → Adds first (worth_at (take 0 fs)) old old
  limit_start old = (refl, λ k below. omega (arith, ints, by (slice_get steps (first + k))))
    where
      by : (o : Option SystemStep) → cost_at (worth []) o ≡ pos 0
      by None = refl
      by (Some t) = zero-*ℤ price

  pub limit_next : (m : ℕ) (f : ℕ × ℤ) (old mid new : List ℤ) → slice_get fs m ≡ Some f → Adds first (worth_at (take m fs)) old mid → Adds first (λ i. cost_at (pay f price) (slice_get steps i)) mid new
      → Adds first (worth_at (take (m + 1) fs)) old new
  limit_next m f old mid new at before adds =
      (adds.0 ∙ before.0, λ k below. omega (arith, ints, adds.1 k (omega (arith, below, before.0)), before.1 k below, by (slice_get steps (first + k))))
    where
      by : (o : Option SystemStep) → cost_at (worth (take (m + 1) fs)) o ≡ cost_at (worth (take m fs)) o +ℤ cost_at (pay f price) o
      by None = refl
      by (Some t) = ap (λ z. z *ℤ price) (factor_more t.source fs m f once at)
          ∙ spread (factor_of t.source (take m fs)) (chosen (f.0 == t.source) f.1) price
          ∙ ap (λ z. factor_of t.source (take m fs) *ℤ price +ℤ z) (chosen_times (f.0 == t.source) f.1 price ∙ ap (λ b. chosen b (f.1 *ℤ price)) (turned t.source f.0))

  pub limit_out : (l : SystemLimit) (m : ℕ) (f : ℕ × ℤ) (old mid : List ℤ) → l.factors ≡ fs → slice_get fs m ≡ Some f → Adds first (worth_at (take m fs)) old mid → CannotPay steps f price first mid
      → IsWideFactor steps l price ⊎ CannotAdd first (worth_at fs) old
  limit_out l m f old mid same_list at before cannot = ⊎_elim by_product by_sum cannot.4
    where
      source_is : cannot.1.source ≡ f.0
      source_is = cannot.3

      factor : factor_of cannot.1.source fs ≡ f.1
      factor = ap (λ q. factor_of q fs) source_is ∙ factor_is fs m f once at

      before_it : factor_of cannot.1.source (take m fs) ≡ pos 0
      before_it = ap (λ q. factor_of q (take m fs)) source_is ∙ factor_before fs m f once at

      by_product : IsOut (f.1 *ℤ price) → IsWideFactor steps l price ⊎ CannotAdd first (worth_at fs) old
      by_product out = inl (cannot.0, cannot.1, cannot.2, λ fits. out (subst (λ z. InRange (z *ℤ price)) (ap (factor_of cannot.1.source) same_list ∙ factor) fits))

      by_sum : CannotPut first cannot.0 (f.1 *ℤ price) mid → IsWideFactor steps l price ⊎ CannotAdd first (worth_at fs) old
      by_sum put = inr (cannot.0 - first, within, λ fits. put.2 (subst (λ z. InRange z) same fits))
        where
          within : cannot.0 - first < length old
          within = omega (arith, put.1, before.0)

          here : slice_get steps (first + (cannot.0 - first)) ≡ Some cannot.1
          here = ap (slice_get steps) (let back : first + (cannot.0 - first) ≡ cannot.0 = omega (arith, put.0) in back) ∙ cannot.2

          same : number_at old (cannot.0 - first) +ℤ worth_at fs (first + (cannot.0 - first)) ≡ number_at mid (cannot.0 - first) +ℤ f.1 *ℤ price
          same = omega (
            arith,
            ints,
            before.1 (cannot.0 - first) within,
            ap (cost_at (worth fs)) here,
            ap (λ z. z *ℤ price) factor,
            ap (cost_at (worth (take m fs))) here,
            ap (λ z. z *ℤ price) before_it,
            zero-*ℤ price,
          )

  pub limit_end : (n : ℕ) (old new : List ℤ) → n ≡ length fs → Adds first (worth_at (take n fs)) old new → Adds first (worth_at fs) old new
  limit_end n old new last before = subst (λ gs. Adds first (worth_at gs) old new) (ap (λ m. take m fs) last ∙ take_all fs) before
