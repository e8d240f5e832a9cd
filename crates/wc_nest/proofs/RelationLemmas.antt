-- Ways over a relation, and one level of a nest.
use Rattle.std.proofs.Common.{◌≡◌, ◌⊎◌, inl, inr, ⊎_elim, Option, Some, refl, sym, subst}
use Rattle.wc_model.specs.Flow.Nest.{Together, IsHead, Inner}
use Rattle.wc_model.specs.Flow.Walks.{LeadsOn}
use Rattle.wc_model.specs.Program.Reaching.{Reaches, here, along}
use Rattle.wc_nest.specs.Inner.Rooted.{IsRooted}

pub reaches_map : {P : Type 0} (R S : P → Option P → Type 0) → ((p q : P) → R p (Some q) → S p (Some q)) → (p : P) {q : P} → Reaches R p q → Reaches S p q
reaches_map R S f p here = here
reaches_map R S f p (along {q = m} r way step) = along r (reaches_map R S f p way) (f m r step)

pub leads_map : {P : Type 0} (R S : P → Option P → Type 0) → ((p q : P) → R p (Some q) → S p (Some q)) → (p q : P) → LeadsOn R p q → LeadsOn S p q
leads_map R S f p q (m, way, step) = (m, reaches_map R S f p way, f m q step)

module _ {P : Type 0} (R : P → Option P → Type 0) where
  pub reaches_on : (p : P) {q r : P} → Reaches R p q → Reaches R q r → Reaches R p r
  reaches_on p way here = way
  reaches_on p way (along r rest step) = along r (reaches_on p way rest) step

  pub led_reach : (p q : P) → LeadsOn R p q → Reaches R p q
  led_reach p q (m, way, step) = along q way step

  pub led_one : (p q : P) → R p (Some q) → LeadsOn R p q
  led_one p q step = (p, here, step)

  pub on_led : (p q r : P) → Reaches R p q → LeadsOn R q r → LeadsOn R p r
  on_led p q r way (m, rest, step) = (m, reaches_on p way rest, step)

  pub led_on : (p q : P) {r : P} → LeadsOn R p q → Reaches R q r → LeadsOn R p r
  led_on p q led here = led
  led_on p q led (along {q = m} r rest step) = (m, reaches_on p (led_reach p q led) rest, step)

  pub led_then : (p q r : P) → LeadsOn R p q → LeadsOn R q r → LeadsOn R p r
  led_then p q r first rest = on_led p q r (led_reach p q first) rest

  pub reach_cases : (p : P) {q : P} → Reaches R p q → (p ≡ q) ⊎ LeadsOn R p q
  reach_cases p here = inl refl
  reach_cases p (along {q = m} r way step) = inr (m, way, step)

  module _ (start : P) where
    pub together_sym : (p q : P) → Together start R p q → Together start R q p
    together_sym p q both = (both.1, both.0)

    pub together_then : (p q r : P) → Together start R p q → Together start R q r → Together start R p r
    together_then p q r first rest = (led_then p q r first.0 rest.0, led_then r q p rest.1 first.1)

    pub together_self : (p q : P) → Together start R p q → LeadsOn R p p
    together_self p q both = led_then p q p both.0 both.1

    -- a step to a node that leads back is inside of a class
    pub together_step : (p q : P) → R p (Some q) → Reaches R q p → Together start R p q
    together_step p q step way = (
      led_one p q step,
      ⊎_elim
          (λ (same : q ≡ p). subst (λ (x : P). LeadsOn R x p) (sym same) (subst (λ (x : P). LeadsOn R p x) same (led_one p q step)))
          (λ (led : LeadsOn R q p). led)
          (reach_cases q way),
    )

    -- inside of a level
    pub inner_out : (p q : P) → Inner start R p (Some q) → R p (Some q)
    inner_out p q step = step.0

    pub inner_leads : (p q : P) → LeadsOn (Inner start R) p q → LeadsOn R p q
    inner_leads = leads_map (Inner start R) R inner_out

    -- no step of the next level leads to a head
    pub head_leaves : (h p : P) → IsHead start R h → LeadsOn (Inner start R) p h → ⊥
    head_leaves h p head (m, way, step) = step.2 head

    pub head_looped : (h : P) → IsHead start R h → LeadsOn R h h
    head_looped h head = head.0

    abbrev pub IsSingle : Type 0
    IsSingle = (p q : P) → IsHead start R p → IsHead start R q → Together start R p q → p ≡ q

    module _ (inside : (p q : P) → R p (Some q) → Together start R p q ⊎ (Together start R p q → ⊥)) where
      head_on : (p r : P) {q : P} → ((r ≡ start) ⊎ (LeadsOn R r r → ⊥)) → Reaches R r q → Together start R q p → (h : P) × IsHead start R h × Together start R h p
      head_on p r root here together = ⊎_elim
          (λ (same : r ≡ start). (r, (together_self r p together, inl same), together))
          (λ (none : LeadsOn R r r → ⊥). absurd (none (together_self r p together)))
          root
      head_on p r root (along {q = m} t way step) together = ⊎_elim
          (λ (one : Together start R m t). head_on p r root way (together_then m t p one together))
          (λ (other : Together start R m t → ⊥). (t, (together_self t p together, inr (m, step, other)), together))
          (inside m t step)

      pub head_of : IsRooted R start → (p : P) → LeadsOn R p p → (h : P) × IsHead start R h × Together start R h p
      head_of rooted p led = let root = rooted p led in head_on p root.0 root.1 root.2 (led, led)

      module _ (single : IsSingle) (decide : (q : P) → LeadsOn R q q → IsHead start R q ⊎ (IsHead start R q → ⊥)) where
        -- from a head to a member of its class by steps of the next level
        pub inner_way : (h : P) {q : P} → IsHead start R h → Reaches R h q → Reaches R q h → Reaches (Inner start R) h q
        inner_way h head here back = here
        inner_way h head (along {q = m} t way step) back =
            let both : Together start R m t = together_step m t step (reaches_on t back way) in
            ⊎_elim
            (λ (is : IsHead start R t).
            let led : LeadsOn R t h = led_on t t (together_self t m (both.1, both.0)) back in
            let same : h ≡ t = single h t head is (⊎_elim (λ (e : h ≡ t). subst (λ (x : P). Together start R h x) e (head.0, head.0)) (λ (on : LeadsOn R h t). (on, led)) (reach_cases h (along t way step))) in
            subst (λ (x : P). Reaches (Inner start R) h x) same here)
            (λ (other : IsHead start R t → ⊥). along t (inner_way h head way (along_back m t step back)) (step, both, other))
            (decide t (together_self t m (both.1, both.0)))
          where
            along_back : (m t : P) → R m (Some t) → Reaches R t h → Reaches R m h
            along_back m t step back = led_reach m h (led_on m t (led_one m t step) back)

        pub rooted_inner : IsRooted R start → IsRooted (Inner start R) start
        rooted_inner rooted p led =
            let head = head_of rooted p (inner_leads p p led) in
            (head.0, inr (λ on. head_leaves head.0 head.0 head.1 on), inner_way head.0 head.1 (led_reach head.0 p head.2.0) (led_reach p head.0 head.2.1))
