-- The best of stated bounds, fact by fact.
use Rattle.std.proofs.Common.{ℕ, ◌≡◌, ◌+◌, ◌<◌, ◌≤◌, ◌⊎◌, inl, inr, ⊎_elim, Bool, true, false, ◌&&◌, ◌==◌, nat_lt, lt-ltb, reverse, List, Option, None, Some, length, refl, sym, ap, subst, ◌∙◌, arith}
use Rattle.std.specs.List.{slice_get}
use Rattle.std.proofs.lemmas.Bool.{cases_eq, cases_lt, le-ltb}
use Rattle.std.proofs.lemmas.Bool.Decides.{eqb_tells}
use Rattle.std.proofs.lemmas.Option.{none-some, same_Some}
use Rattle.wc_model.specs.declared.flow_facts.Fact.{Fact}
use Rattle.wc_model.specs.declared.flow_facts.Fact.TheVariants.{Loop, Multibranch, Multicall, Noreturn, Checksum, Limit}
use Rattle.wc_model.specs.Flow.Bounds.{StatesBound, calls_fit, fits}
use Rattle.wc_model.specs.Program.Positions.{Position}
use Rattle.wc_bounds.specs.declared.best.Best.{Best}
use Rattle.wc_bounds.specs.Inner.Best.{offered, better, best_of}
use Rattle.wc_bounds.specs.Inner.Stated.{loop_at, IsBestFrom}

-- a fact that offers a bound states it
pub states_offered : (p : Position) (d n : ℕ) (fact : Fact) → StatesBound p d n fact → offered p fact ≡ Some (record { depth = d; bound = n })
states_offered p d n (Loop at (Some m) within) is = rw is.0 (ap (λ (x : ℕ). Some (record { depth = x; bound = m })) is.1 ∙ ap (λ (x : ℕ). Some (record { depth = d; bound = x })) is.2)
states_offered p d n (Loop at None within) is = absurd is
states_offered p d n (Multibranch at to) is = absurd is
states_offered p d n (Multicall at to) is = absurd is
states_offered p d n (Noreturn at) is = absurd is
states_offered p d n (Checksum name value) is = absurd is
states_offered p d n (Limit left right) is = absurd is

loop_states : (p : Position) (b : Best) (at m : ℕ) (within : List ℕ) (t : Bool) → fits at within p ≡ t → offered p (Loop at (Some m) within) ≡ Some b → (fits at within p ≡ true) × (length within ≡ b.depth) × (m ≡ b.bound)
loop_states p b at m within true is offers = let same : record { depth = length within; bound = m } ≡ b = same_Some (record { depth = length within; bound = m }) b (rw is at offers) in (is, ap (λ (x : Best). x.depth) same, ap (λ (x : Best). x.bound) same)
loop_states p b at m within false is offers = absurd (none-some b (rw is at offers))

pub offered_states : (p : Position) (b : Best) (fact : Fact) → offered p fact ≡ Some b → StatesBound p b.depth b.bound fact
offered_states p b (Loop at (Some m) within) offers = loop_states p b at m within (fits at within p) refl offers
offered_states p b (Loop at None within) offers = absurd (none-some b offers)
offered_states p b (Multibranch at to) offers = absurd (none-some b offers)
offered_states p b (Multicall at to) offers = absurd (none-some b offers)
offered_states p b (Noreturn at) offers = absurd (none-some b offers)
offered_states p b (Checksum name value) offers = absurd (none-some b offers)
offered_states p b (Limit left right) offers = absurd (none-some b offers)

and_first : (a b : Bool) → (a && b) ≡ true → a ≡ true
and_first true b is = refl
and_first false b is = is

pub states_at : (p : Position) (d n : ℕ) (fact : Fact) → StatesBound p d n fact → loop_at fact ≡ Some p.pc
states_at p d n (Loop at (Some m) within) is = ⊎_elim (λ one. ap Some (sym one.1)) (λ other. let yes_at = and_first (p.pc == at) (calls_fit (reverse within) p.calls) is.0 in let bad : true ≡ false = sym yes_at ∙ other.0 in cc) (eqb_tells p.pc at)
states_at p d n (Loop at None within) is = absurd is
states_at p d n (Multibranch at to) is = absurd is
states_at p d n (Multicall at to) is = absurd is
states_at p d n (Noreturn at) is = absurd is
states_at p d n (Checksum name value) is = absurd is
states_at p d n (Limit left right) is = absurd is

-- the better one
abbrev Beats : Best → Best → Type 0
Beats b c = (c.depth < b.depth) ⊎ ((c.depth ≡ b.depth) × (b.bound ≤ c.bound))

beats_self : (b : Best) → Beats b b
beats_self b = inr (refl, omega arith)

beats_then : (a b c : Best) → Beats a b → Beats b c → Beats a c
beats_then a b c first rest = ⊎_elim
    (λ (less : b.depth < a.depth). ⊎_elim (λ (lower : c.depth < b.depth). inl (omega arith)) (λ same. inl (omega (arith, same.0))) rest)
    (λ equal. ⊎_elim (λ (lower : c.depth < b.depth). inl (omega (arith, equal.0))) (λ same. inr (same.0 ∙ equal.0, omega (arith, same.1, equal.1))) rest)
    first

-- it is one of both, and beats both
pub better_is : (b c : Best) → ((better b c ≡ b) × Beats b c) ⊎ ((better b c ≡ c) × Beats c b)
better_is b c = ⊎_elim
    (λ (deeper : b.depth < c.depth). inr (rw (lt_true b.depth c.depth deeper) (refl, inl deeper)))
    (λ (not_deeper : c.depth ≤ b.depth). ⊎_elim
    (λ (less : c.depth < b.depth). inl (rw (lt_false b.depth c.depth not_deeper, lt_true c.depth b.depth less) (refl, inl less)))
    (λ (not_less : b.depth ≤ c.depth). ⊎_elim
    (λ (lower : c.bound < b.bound). inr (rw (lt_false b.depth c.depth not_deeper, lt_false c.depth b.depth not_less, lt_true c.bound b.bound lower) (refl, inr (omega arith, omega arith))))
    (λ (not_lower : b.bound ≤ c.bound). inl (rw (lt_false b.depth c.depth not_deeper, lt_false c.depth b.depth not_less, lt_false c.bound b.bound not_lower) (refl, inr (omega arith, not_lower))))
    (cases_lt c.bound b.bound))
    (cases_lt c.depth b.depth))
    (cases_lt b.depth c.depth)
  where
    lt_true : (x y : ℕ) → x < y → nat_lt x y ≡ true
    lt_true x y less = lt-ltb x y less

    lt_false : (x y : ℕ) → y ≤ x → nat_lt x y ≡ false
    lt_false x y low = le-ltb x y low

module _ (facts : List (ℕ × Fact)) (p : Position) where
  -- facts that offer nothing
  pub lower : (k m : ℕ) (best : Option Best) → IsBestFrom facts p k best → ((i : ℕ) (f : ℕ × Fact) → m ≤ i → i < k → slice_get facts i ≡ Some f → offered p f.1 ≡ None) → IsBestFrom facts p m best
  lower k m None is none = λ i f low at. ⊎_elim (λ (less : i < k). none i f low less at) (λ (high : k ≤ i). is i f high at) (cases_lt i k)
  lower k m (Some b) is none = (is.0, λ i f c low at offers. ⊎_elim (λ (less : i < k). absurd (none-some c (sym (none i f low less at) ∙ offers))) (λ (high : k ≤ i). is.1 i f c high at offers) (cases_lt i k))

  -- one more fact
  pub one_more : (j : ℕ) (f : ℕ × Fact) (best : Option Best) (offer : Option Best) → slice_get facts j ≡ Some f → offered p f.1 ≡ offer → IsBestFrom facts p (j + 1) best → IsBestFrom facts p j (best_of best offer)
  one_more j f None None at is old = λ i g low at_g. ⊎_elim (λ (same : i ≡ j). let one : f ≡ g = same_Some f g (sym at ∙ ap (slice_get facts) (sym same) ∙ at_g) in ap (λ (h : ℕ × Fact). offered p h.1) (sym one) ∙ is) (λ (other : i ≡ j → ⊥). old i g (omega arith) at_g) (cases_eq i j)
  one_more j f None (Some c) at is old = (
    (j, f, at, is),
    λ i g d low at_g offers. ⊎_elim
        (λ (same : i ≡ j). let one : f ≡ g = same_Some f g (sym at ∙ ap (slice_get facts) (sym same) ∙ at_g) in let is_c : c ≡ d = same_Some c d (sym is ∙ ap (λ (h : ℕ × Fact). offered p h.1) one ∙ offers) in inr (ap (λ (x : Best). x.depth) (sym is_c), omega (arith, ap (λ (x : Best). x.bound) is_c)))
        (λ (other : i ≡ j → ⊥). absurd (none-some d (sym (old i g (omega arith) at_g) ∙ offers)))
        (cases_eq i j),
  )
  one_more j f (Some b) None at is old = (
    old.0,
    λ i g d low at_g offers. ⊎_elim
        (λ (same : i ≡ j). let one : f ≡ g = same_Some f g (sym at ∙ ap (slice_get facts) (sym same) ∙ at_g) in absurd (none-some d (sym is ∙ ap (λ (h : ℕ × Fact). offered p h.1) one ∙ offers)))
        (λ (other : i ≡ j → ⊥). old.1 i g d (omega arith) at_g offers)
        (cases_eq i j),
  )
  one_more j f (Some b) (Some c) at is old = ⊎_elim
      (λ keep. let same : b ≡ better b c = sym keep.0 in subst (λ (x : Best). IsBestFrom facts p j (Some x)) same (
        old.0,
        λ i g d low at_g offers. ⊎_elim
            (λ (here_i : i ≡ j). subst (λ (x : Best). (x.depth < b.depth) ⊎ ((x.depth ≡ b.depth) × (b.bound ≤ x.bound))) (offer_is i g d here_i at_g offers) (beats_apart b c keep.1))
            (λ (other : i ≡ j → ⊥). old.1 i g d (omega arith) at_g offers)
            (cases_eq i j),
      ))
      (λ new. let same : c ≡ better b c = sym new.0 in subst (λ (x : Best). IsBestFrom facts p j (Some x)) same (
        (j, f, at, is),
        λ i g d low at_g offers. ⊎_elim
            (λ (here_i : i ≡ j). subst (λ (x : Best). (x.depth < c.depth) ⊎ ((x.depth ≡ c.depth) × (c.bound ≤ x.bound))) (offer_is i g d here_i at_g offers) (beats_apart c c (beats_self c)))
            (λ (other : i ≡ j → ⊥). beats_apart c d (beats_then c b d new.1 (beats_together b d (old.1 i g d (omega arith) at_g offers))))
            (cases_eq i j),
      ))
      (better_is b c)
    where
      offer_is : (i : ℕ) (g : ℕ × Fact) (d : Best) → i ≡ j → slice_get facts i ≡ Some g → offered p g.1 ≡ Some d → c ≡ d
      offer_is i g d same at_g offers = let one : f ≡ g = same_Some f g (sym at ∙ ap (slice_get facts) (sym same) ∙ at_g) in same_Some c d (sym is ∙ ap (λ (h : ℕ × Fact). offered p h.1) one ∙ offers)

      beats_apart : (x y : Best) → Beats x y → (y.depth < x.depth) ⊎ ((y.depth ≡ x.depth) × (x.bound ≤ y.bound))
      beats_apart x y is_more = is_more

      beats_together : (x y : Best) → (y.depth < x.depth) ⊎ ((y.depth ≡ x.depth) × (x.bound ≤ y.bound)) → Beats x y
      beats_together x y is_more = is_more
