-- Two relations of steps whose places stand for one another have the same levels of loops.
use Rattle.std.proofs.Common.{ℕ, zero, suc, ◌≡◌, inl, inr, ⊎_elim, Option, Some, sym, subst}
use Rattle.wc_model.specs.Flow.Nest.{Together, IsHead, Inner, StepsAt, IsHeadAt, TogetherAt}
use Rattle.wc_model.specs.Flow.Walks.{LeadsOn}
use Rattle.wc_model.specs.Program.Reaching.{Reaches, here, along}

-- each end of a step has a place on the other side
pub record HasEnds {P Q : Type 0} (At : P → Q → Type 0) (p r : P) : Type 0 where
  pub from : Q
  pub from_at : At p from
  pub to : Q
  pub to_at : At r to

-- `At p q`: the two places stand for one another
pub record AreSame {P Q : Type 0} (At : P → Q → Type 0) (R : P → Option P → Type 0) (S : Q → Option Q → Type 0) : Type 0 where
  pub left : (p r : P) → R p (Some r) → HasEnds At p r
  pub right : (q s : Q) → S q (Some s) → HasEnds (λ y x. At x y) q s
  pub forth : (p r : P) (q s : Q) → At p q → At r s → R p (Some r) → S q (Some s)
  pub back : (p r : P) (q s : Q) → At p q → At r s → S q (Some s) → R p (Some r)

-- each place stands for one
pub record AreOnce {P Q : Type 0} (At : P → Q → Type 0) : Type 0 where
  pub left : (p : P) (q s : Q) → At p q → At p s → q ≡ s
  pub right : (p r : P) (q : Q) → At p q → At r q → p ≡ r

turned_once : {P Q : Type 0} (At : P → Q → Type 0) → AreOnce At → AreOnce (λ q p. At p q)
turned_once At once = record { left = λ q p r. once.right p r q; right = λ q s p. once.left p q s }

turned : {P Q : Type 0} (At : P → Q → Type 0) (R : P → Option P → Type 0) (S : Q → Option Q → Type 0) → AreSame At R S → AreSame (λ q p. At p q) S R
turned At R S same = record {
  left = same.right;
  right = same.left;
  forth = λ q s p r at_p at_r. same.back p r q s at_p at_r;
  back = λ q s p r at_p at_r. same.forth p r q s at_p at_r;
}

module _ {P Q : Type 0} (At : P → Q → Type 0) (once : AreOnce At) (R : P → Option P → Type 0) (S : Q → Option Q → Type 0) (same : AreSame At R S) where
  reach_forth : (p : P) (q : Q) {r : P} (s : Q) → At p q → At r s → Reaches R p r → Reaches S q s
  reach_forth p q s at_p at_r here = subst (Reaches S q) (once.left p q s at_p at_r) here
  reach_forth p q s at_p at_r (along {q = m} r way step) =
      let ends = same.left m r step in
      along s (reach_forth p q ends.from at_p ends.from_at way) (same.forth m r ends.from s ends.from_at at_r step)

  pub led_forth : (p r : P) (q s : Q) → At p q → At r s → LeadsOn R p r → LeadsOn S q s
  led_forth p r q s at_p at_r (m, way, step) =
      let ends = same.left m r step in
      (ends.from, reach_forth p q ends.from at_p ends.from_at way, same.forth m r ends.from s ends.from_at at_r step)

module _ {P Q : Type 0} (At : P → Q → Type 0) (once : AreOnce At) (start : P) (begin : Q) (started : At start begin) where
  module _ (R : P → Option P → Type 0) (S : Q → Option Q → Type 0) (same : AreSame At R S) where
    class_forth : (p r : P) (q s : Q) → At p q → At r s → Together start R p r → Together begin S q s
    class_forth p r q s at_p at_r both = (led_forth At once R S same p r q s at_p at_r both.0, led_forth At once R S same r p s q at_r at_p both.1)

    class_back : (p r : P) (q s : Q) → At p q → At r s → Together begin S q s → Together start R p r
    class_back p r q s at_p at_r both = (
      led_forth (λ y x. At x y) (turned_once At once) S R (turned At R S same) q s p r at_p at_r both.0,
      led_forth (λ y x. At x y) (turned_once At once) S R (turned At R S same) s q r p at_r at_p both.1,
    )

    head_forth : (h : P) (k : Q) → At h k → IsHead start R h → IsHead begin S k
    head_forth h k at_h head = (
      led_forth At once R S same h h k k at_h at_h head.0,
      ⊎_elim
          (λ (is : h ≡ start). inl (once.left h k begin at_h (subst (λ (x : P). At x begin) (sym is) started)))
          (λ (enters : (p : P) × R p (Some h) × (Together start R p h → ⊥)).
          let ends = same.left enters.0 h enters.1 in
          inr (ends.from, same.forth enters.0 h ends.from k ends.from_at at_h enters.1, λ both. enters.2 (class_back enters.0 h ends.from k ends.from_at at_h both)))
          head.1,
    )

module _ {P Q : Type 0} (At : P → Q → Type 0) (once : AreOnce At) (start : P) (begin : Q) (started : At start begin) where
  module _ (R : P → Option P → Type 0) (S : Q → Option Q → Type 0) (same : AreSame At R S) where
    head_back : (h : P) (k : Q) → At h k → IsHead begin S k → IsHead start R h
    head_back h k at_h head = head_forth (λ y x. At x y) (turned_once At once) begin start started S R (turned At R S same) k h at_h head

    inner_same : AreSame At (Inner start R) (Inner begin S)
    inner_same = record {
      left = λ p r step. same.left p r step.0;
      right = λ q s step. same.right q s step.0;
      forth = λ p r q s at_p at_r step. (
        same.forth p r q s at_p at_r step.0,
        class_forth At once start begin started R S same p r q s at_p at_r step.1,
        λ head. step.2 (head_back r s at_r head),
      );
      back = λ p r q s at_p at_r step. (
        same.back p r q s at_p at_r step.0,
        class_back At once start begin started R S same p r q s at_p at_r step.1,
        λ head. step.2 (head_forth At once start begin started R S same r s at_r head),
      );
    }

-- level by level
module _ {P Q : Type 0} (At : P → Q → Type 0) (once : AreOnce At) (start : P) (begin : Q) (started : At start begin) where
  module _ (R : P → Option P → Type 0) (S : Q → Option Q → Type 0) (same : AreSame At R S) where
    same_at : (k : ℕ) → AreSame At (StepsAt R start k) (StepsAt S begin k)
    same_at zero = same
    same_at (suc k) = inner_same At once start begin started (StepsAt R start k) (StepsAt S begin k) (same_at k)

    pub head_at_back : (k : ℕ) (h : P) (g : Q) → At h g → IsHeadAt S begin k g → IsHeadAt R start k h
    head_at_back k h g at_h head = head_back At once start begin started (StepsAt R start k) (StepsAt S begin k) (same_at k) h g at_h head

    pub class_at_forth : (k : ℕ) (p r : P) (q s : Q) → At p q → At r s → TogetherAt R start k p r → TogetherAt S begin k q s
    class_at_forth k p r q s at_p at_r both = class_forth At once start begin started (StepsAt R start k) (StepsAt S begin k) (same_at k) p r q s at_p at_r both

    pub class_at_back : (k : ℕ) (p r : P) (q s : Q) → At p q → At r s → TogetherAt S begin k q s → TogetherAt R start k p r
    class_at_back k p r q s at_p at_r both = class_back At once start begin started (StepsAt R start k) (StepsAt S begin k) (same_at k) p r q s at_p at_r both
