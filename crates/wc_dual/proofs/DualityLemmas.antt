-- Prices that hold bound all feasible counts.
use Rattle.std.proofs.Common.{◌≡◌, ℕ, zero, suc, ◌==◌, ◌<◌, ◌||◌, ℤ, pos, ◌+ℤ◌, ◌-ℤ◌, ◌*ℤ◌, ◌≤ℤ◌, List, [], ◌∷◌, length, map, replicate, slice_get, Option, Some, None, Bool, true, false, if◌then◌else◌, refl, sym, ap, ap₂, subst, ◌∙◌, arith}
use Rattle.std.proofs.Math.IntN.{*ℤ-zero, zero-*ℤ, *ℤ_comm}
use Rattle.std.proofs.lemmas.Bool.{or_parts}
use Rattle.std.proofs.lemmas.Bool.Decides.{nat_tests}
use Rattle.std.proofs.lemmas.Int.{ints}
use Rattle.std.proofs.lemmas.Option.{slice_get_within, get_or_from_slice_get}
use Rattle.std.specs.Prelude.{All, IfSome}
use Rattle.wc_base.specs.Sums.{sum_placed, sum_in, chosen}
use Rattle.wc_base.proofs.Products.{spread, spread_left, spread_sub, monotone, assoc, exchange}
use Rattle.wc_base.proofs.SumLemmas.{sum_same, sum_most, sum_zero, sum_add, sum_less, sum_scale, sum_pick, sum_swap}
use Rattle.wc_model.specs.declared.flow_system.System.{System}
use Rattle.wc_model.specs.declared.flow_system.SystemLoop.{SystemLoop}
use Rattle.wc_model.specs.declared.flow_system.SystemStep.{SystemStep}
use Rattle.wc_model.specs.Flow.Certificates.{Prices, ArePrices, ahead_of, back_price, entry_price, factor_of, limit_price, step_price, dual_value}
use Rattle.wc_model.specs.Flow.Counts.{IsFeasible, IsBounded, IsLimited, out_of, into, value_of}
use Rattle.wc_model.specs.Flow.Places.{is_listed, IsOnce}
use Rattle.wc_model.specs.Flow.Systems.{ArePlaces, named_by, leads_to}
use Rattle.wc_dual.specs.Laws.{CertificatesBound, HasPlaces}

-- an element by its place is one of all
pub get_all : {X : Type 0} (P : X → Type 0) (xs : List X) (i : ℕ) (x : X) → slice_get xs i ≡ Some x → All P xs → P x
get_all P xs i x at all = subst P (get_or_from_slice_get xs i x x at) (all i x (slice_get_within xs i x at))

pub times_chosen : (b : Bool) (c z : ℤ) → c *ℤ chosen b z ≡ chosen b (c *ℤ z)
times_chosen true c z = refl
times_chosen false c z = *ℤ-zero c

-- Sums over the nodes: `nodes n` is a list of n elements, whose places are the nodes.
nodes : ℕ → List ℕ
nodes n = replicate n 0

nodes_get : (n p : ℕ) → p < n → slice_get (nodes n) p ≡ Some 0
unfolding nodes
nodes_get zero p within = absurd (omega arith)
nodes_get (suc n) zero within = refl
nodes_get (suc n) (suc p) within = nodes_get n p (omega arith)

nodes_within : (n p q : ℕ) → slice_get (nodes n) p ≡ Some q → p < n
unfolding nodes
nodes_within zero p q at = cc
nodes_within (suc n) zero q at = omega arith
nodes_within (suc n) (suc p) q at = omega (arith, nodes_within n p q at)

-- A term per step that belongs to a node by a key, as the node's weight times the count, summed node by node.
module _ (key : SystemStep → ℕ → Bool) (weight : ℕ → ℤ) (x : ℕ → ℤ) (value : SystemStep → ℤ) (steps : List SystemStep) (n : ℕ) where
  by_node : ((i : ℕ) (t : SystemStep) → slice_get steps i ≡ Some t → sum_placed (λ p _. chosen (key t p) (weight p *ℤ x i)) (nodes n) ≡ x i *ℤ value t)
      → sum_placed (λ i t. x i *ℤ value t) steps ≡ sum_placed (λ p _. weight p *ℤ sum_placed (λ i t. chosen (key t p) (x i)) steps) (nodes n)
  by_node each =
      sum_same (λ i t. x i *ℤ value t) (λ i t. sum_placed (λ p _. chosen (key t p) (weight p *ℤ x i)) (nodes n)) steps (λ i t at. sym (each i t at))
      ∙ sum_swap (λ i t p _. chosen (key t p) (weight p *ℤ x i)) steps (nodes n)
      ∙ sum_same (λ p _. sum_placed (λ i t. chosen (key t p) (weight p *ℤ x i)) steps) (λ p _. weight p *ℤ sum_placed (λ i t. chosen (key t p) (x i)) steps) (nodes n)
      (λ p q at. sum_same (λ i t. chosen (key t p) (weight p *ℤ x i)) (λ i t. weight p *ℤ chosen (key t p) (x i)) steps (λ i t h. sym (times_chosen (key t p) (weight p) (x i)))
      ∙ sum_scale (weight p) (λ i t. chosen (key t p) (x i)) steps)

module _ (weight : ℕ → ℤ) (x : ℕ → ℤ) (steps : List SystemStep) (n : ℕ) where
  by_source : All (λ t. t.source < n) steps → sum_placed (λ i t. x i *ℤ weight t.source) steps ≡ sum_placed (λ p _. weight p *ℤ out_of steps x p) (nodes n)
  by_source sources = by_node (λ t p. t.source == p) weight x (λ t. weight t.source) steps n
      (λ i t at. sum_pick (λ p _. weight p *ℤ x i) (nodes n) t.source 0 (nodes_get n t.source (get_all (λ s. s.source < n) steps i t at sources))
      ∙ *ℤ_comm (weight t.source) (x i))

  ahead_picked : (i : ℕ) (o : Option ℕ) → IfSome o (λ q. q < n) → sum_placed (λ p _. chosen (leads_to o p) (weight p *ℤ x i)) (nodes n) ≡ x i *ℤ ahead_of weight o
  ahead_picked i None within = sum_zero (λ p _. pos 0) (nodes n) (λ p q at. refl) ∙ sym (*ℤ-zero (x i))
  ahead_picked i (Some q) within = sum_pick (λ p _. weight p *ℤ x i) (nodes n) q 0 (nodes_get n q within) ∙ *ℤ_comm (weight q) (x i)

  by_target : All (λ t. IfSome t.target (λ q. q < n)) steps → sum_placed (λ i t. x i *ℤ ahead_of weight t.target) steps ≡ sum_placed (λ p _. weight p *ℤ into steps x p) (nodes n)
  by_target targets = by_node (λ t p. leads_to t.target p) weight x (λ t. ahead_of weight t.target) steps n
      (λ i t at. ahead_picked i t.target (get_all (λ s. IfSome s.target (λ q. q < n)) steps i t at targets))

-- A sum over the steps in a list of places, each of which stands there once.
pub same_number : (n i : ℕ) → (i == n) ≡ true → i ≡ n
same_number n i is = grind (arith, nat_tests)

pub turned : (n i : ℕ) → (i == n) ≡ (n == i)
turned n i = by (n == i) refl
  where
    by : (b : Bool) → (n == i) ≡ b → (i == n) ≡ b
    by true is = grind (arith, nat_tests)
    by false is = grind (arith, nat_tests)

pub chosen_apart : (a b : Bool) (z : ℤ) → (a ≡ true → b ≡ false) → chosen (a || b) z ≡ chosen a z +ℤ chosen b z
chosen_apart true b z apart = omega (arith, ints, ap (λ c. chosen c z) (apart refl))
chosen_apart false b z apart = omega (arith, ints)

module _ {X : Type 0} (f : ℕ → ℤ) (steps : List X) where
  pub sum_listed : (ns : List ℕ) → All (λ i. i < length steps) ns → IsOnce ns → sum_placed (λ i _. chosen (is_listed i ns) (f i)) steps ≡ sum_in f ns
  sum_listed [] within once = sum_zero (λ i _. pos 0) steps (λ i t at. refl)
  sum_listed (n ∷ ns) within once =
      let here = get_there steps n (within zero 0 (omega arith)) in
      sum_same (λ i _. chosen (is_listed i (n ∷ ns)) (f i)) (λ i _. chosen (n == i) (f i) +ℤ chosen (is_listed i ns) (f i)) steps
      (λ i t at. chosen_apart (i == n) (is_listed i ns) (f i) (λ is. subst (λ k. is_listed k ns ≡ false) (sym (same_number n i is)) once.0)
      ∙ ap (λ b. chosen b (f i) +ℤ chosen (is_listed i ns) (f i)) (turned n i))
      ∙ sum_add (λ i _. chosen (n == i) (f i)) (λ i _. chosen (is_listed i ns) (f i)) steps
      ∙ ap₂ (λ a b. a +ℤ b) (sum_pick (λ i _. f i) steps n here.0 here.1) (sum_listed ns (λ k d within'. within (suc k) d (omega (arith, within'))) once.1)
    where
      get_there : (xs : List X) (i : ℕ) → i < length xs → (x : X) × (slice_get xs i ≡ Some x)
      get_there [] i below = absurd (omega arith)
      get_there (y ∷ ys) zero below = (y, refl)
      get_there (y ∷ ys) (suc i) below = get_there ys i (omega arith)

-- What the loops say of each step, summed loop by loop: `places l` are those of the loop's steps, `price k l` is its price.
module _ (s : System) (x : ℕ → ℤ) (places : SystemLoop → List ℕ) (price : ℕ → SystemLoop → ℤ) where
  by_loop : ((k : ℕ) (l : SystemLoop) → slice_get s.loops k ≡ Some l → ArePlaces (length s.steps) (places l))
      → sum_placed (λ i _. x i *ℤ sum_placed (λ k l. chosen (is_listed i (places l)) (price k l)) s.loops) s.steps ≡ sum_placed (λ k l. price k l *ℤ sum_in x (places l)) s.loops
  by_loop placed =
      sum_same (λ i _. x i *ℤ sum_placed (λ k l. chosen (is_listed i (places l)) (price k l)) s.loops)
      (λ i _. sum_placed (λ k l. chosen (is_listed i (places l)) (x i *ℤ price k l)) s.loops) s.steps
      (λ i t at. sym (sum_scale (x i) (λ k l. chosen (is_listed i (places l)) (price k l)) s.loops)
      ∙ sum_same (λ k l. x i *ℤ chosen (is_listed i (places l)) (price k l)) (λ k l. chosen (is_listed i (places l)) (x i *ℤ price k l)) s.loops
      (λ k l h. times_chosen (is_listed i (places l)) (x i) (price k l)))
      ∙ sum_swap (λ i _ k l. chosen (is_listed i (places l)) (x i *ℤ price k l)) s.steps s.loops
      ∙ sum_same (λ k l. sum_placed (λ i _. chosen (is_listed i (places l)) (x i *ℤ price k l)) s.steps) (λ k l. price k l *ℤ sum_in x (places l)) s.loops
      (λ k l h. sum_listed (λ i. x i *ℤ price k l) s.steps (places l) (placed k l h).0 (placed k l h).1
      ∙ sum_same (λ _ i. x i *ℤ price k l) (λ _ i. price k l *ℤ x i) (places l) (λ j i at. *ℤ_comm (x i) (price k l))
      ∙ sum_scale (price k l) (λ _ i. x i) (places l))

-- What the limits say of each step, summed limit by limit.
pub factor_apart : (p : ℕ) (f : ℕ × ℤ) (fs : List (ℕ × ℤ)) → is_listed f.0 (map (λ g. g.0) fs) ≡ false → factor_of p (f ∷ fs) ≡ chosen (f.0 == p) f.1 +ℤ factor_of p fs
factor_apart p f fs once = by (f.0 == p) refl
  where
    unnamed : (q : ℕ) (gs : List (ℕ × ℤ)) → is_listed q (map (λ g. g.0) gs) ≡ false → factor_of q gs ≡ pos 0
    unnamed q [] none = refl
    unnamed q (g ∷ gs) none =
        let parts : ((q == g.0) ≡ false) × (is_listed q (map (λ h. h.0) gs) ≡ false) = or_parts (q == g.0) (is_listed q (map (λ h. h.0) gs)) none in
        ap (λ b. if b then g.1 else factor_of q gs) (sym (turned g.0 q) ∙ parts.0) ∙ unnamed q gs parts.1

    by : (b : Bool) → (f.0 == p) ≡ b → (if b then f.1 else factor_of p fs) ≡ chosen b f.1 +ℤ factor_of p fs
    by true is = omega (arith, ints, subst (λ q. factor_of q fs ≡ pos 0) (same_number p f.0 is) (unnamed f.0 fs once))
    by false is = omega (arith, ints)

module _ (g : ℕ → ℤ) (n : ℕ) where
  by_factor : (fs : List (ℕ × ℤ)) → All (λ p. p < n) (map (λ f. f.0) fs) → IsOnce (map (λ f. f.0) fs)
      → sum_placed (λ p _. factor_of p fs *ℤ g p) (nodes n) ≡ sum_in (λ f. f.1 *ℤ g f.0) fs
  by_factor [] within once = sum_zero (λ p _. pos 0 *ℤ g p) (nodes n) (λ p q at. zero-*ℤ (g p))
  by_factor (f ∷ fs) within once =
      sum_same (λ p _. factor_of p (f ∷ fs) *ℤ g p) (λ p _. chosen (f.0 == p) (f.1 *ℤ g p) +ℤ factor_of p fs *ℤ g p) (nodes n)
      (λ p q at. ap (λ z. z *ℤ g p) (factor_apart p f fs once.0) ∙ spread (chosen (f.0 == p) f.1) (factor_of p fs) (g p)
      ∙ ap (λ z. z +ℤ factor_of p fs *ℤ g p) (chosen_times (f.0 == p) f.1 (g p)))
      ∙ sum_add (λ p _. chosen (f.0 == p) (f.1 *ℤ g p)) (λ p _. factor_of p fs *ℤ g p) (nodes n)
      ∙ ap₂ (λ a b. a +ℤ b) (sum_pick (λ p _. f.1 *ℤ g p) (nodes n) f.0 0 (nodes_get n f.0 (within zero 0 (omega arith))))
      (by_factor fs (λ k d within'. within (suc k) d (omega (arith, within'))) once.1)
    where
      chosen_times : (b : Bool) (c z : ℤ) → chosen b c *ℤ z ≡ chosen b (c *ℤ z)
      chosen_times true c z = refl
      chosen_times false c z = zero-*ℤ z

module _ (s : System) (x : ℕ → ℤ) (w : ℕ → ℤ) (is : HasPlaces s) where
  by_limit : sum_placed (λ i t. x i *ℤ limit_price w s.limits t.source) s.steps ≡ sum_placed (λ k l. w k *ℤ sum_in (λ f. f.1 *ℤ out_of s.steps x f.0) l.factors) s.limits
  by_limit =
      sum_same (λ i t. x i *ℤ limit_price w s.limits t.source) (λ i t. sum_placed (λ k l. w k *ℤ (x i *ℤ factor_of t.source l.factors)) s.limits) s.steps
      (λ i t at. sym (sum_scale (x i) (λ k l. factor_of t.source l.factors *ℤ w k) s.limits)
      ∙ sum_same (λ k l. x i *ℤ (factor_of t.source l.factors *ℤ w k)) (λ k l. w k *ℤ (x i *ℤ factor_of t.source l.factors)) s.limits
      (λ k l h. ap (λ z. x i *ℤ z) (*ℤ_comm (factor_of t.source l.factors) (w k)) ∙ exchange (x i) (w k) (factor_of t.source l.factors)))
      ∙ sum_swap (λ i t k l. w k *ℤ (x i *ℤ factor_of t.source l.factors)) s.steps s.limits
      ∙ sum_same (λ k l. sum_placed (λ i t. w k *ℤ (x i *ℤ factor_of t.source l.factors)) s.steps) (λ k l. w k *ℤ sum_in (λ f. f.1 *ℤ out_of s.steps x f.0) l.factors) s.limits
      (λ k l h. let named : ArePlaces s.nodes (named_by l) = get_all (λ o. ArePlaces s.nodes (named_by o)) s.limits k l h is.limits in
      sum_scale (w k) (λ i t. x i *ℤ factor_of t.source l.factors) s.steps
      ∙ ap (λ z. w k *ℤ z) (by_source (λ p. factor_of p l.factors) x s.steps s.nodes is.sources ∙ by_factor (out_of s.steps x) s.nodes l.factors named.0 named.1))

-- Single terms.
share : (x a b c d e : ℤ) → x *ℤ (a -ℤ b +ℤ c -ℤ d +ℤ e) ≡ x *ℤ a -ℤ x *ℤ b +ℤ x *ℤ c -ℤ x *ℤ d +ℤ x *ℤ e
share x a b c d e = omega (arith, ints, spread_left x (a -ℤ b +ℤ c -ℤ d) e, spread_sub x (a -ℤ b +ℤ c) d, spread_left x (a -ℤ b) c, spread_sub x a b)

balanced : (u out in_ den : ℤ) (b : Bool) → out -ℤ in_ ≡ chosen b den → u *ℤ out -ℤ u *ℤ in_ ≡ chosen b (den *ℤ u)
balanced u out in_ den b is = sym (spread_sub u out in_) ∙ ap (λ z. u *ℤ z) is ∙ times_chosen b u den ∙ ap (chosen b) (*ℤ_comm u den)

loop_paid : (v b den back entry : ℤ) (at_start : Bool) → pos 0 ≤ℤ v → back ≤ℤ (b *ℤ (entry +ℤ chosen at_start den))
    → (v *ℤ back -ℤ (b *ℤ v) *ℤ entry) ≤ℤ (den *ℤ chosen at_start (b *ℤ v))
loop_paid v b den back entry at_start some most =
    let turn : ℤ = chosen at_start den in
    let once : (b *ℤ v) *ℤ turn ≡ den *ℤ chosen at_start (b *ℤ v) =
    times_chosen at_start (b *ℤ v) den ∙ ap (chosen at_start) (*ℤ_comm (b *ℤ v) den) ∙ sym (times_chosen at_start den (b *ℤ v)) in
    omega (arith, ints, monotone v back (b *ℤ (entry +ℤ turn)) some most, exchange v b (entry +ℤ turn), assoc b v (entry +ℤ turn), spread_left (b *ℤ v) entry turn, once)

limit_paid : (w constant den sum : ℤ) → pos 0 ≤ℤ w → sum ≤ℤ (constant *ℤ den) → (w *ℤ sum) ≤ℤ (den *ℤ (constant *ℤ w))
limit_paid w constant den sum some most =
    omega (arith, ints, monotone w sum (constant *ℤ den) some most, exchange w constant den, exchange den constant w, ap (λ z. constant *ℤ z) (*ℤ_comm w den))

-- The parts of what is paid for all counts.
module _ (s : System) (cost : SystemStep → ℤ) (prices : Prices) (den : ℤ) (x : ℕ → ℤ) (is : HasPlaces s) (priced : ArePrices s cost prices) (feasible : IsFeasible s den x) where
  paid : value_of cost s.steps x ≤ℤ sum_placed (λ i t. x i *ℤ step_price s prices i t) s.steps
  paid = subst (λ z. z ≤ℤ sum_placed (λ i t. x i *ℤ step_price s prices i t) s.steps)
      (sum_same (λ i t. x i *ℤ cost t) (λ i t. cost t *ℤ x i) s.steps (λ i t at. *ℤ_comm (x i) (cost t)))
      (sum_most (λ i t. x i *ℤ cost t) (λ i t. x i *ℤ step_price s prices i t) s.steps
      (λ i t at. monotone (x i) (cost t) (step_price s prices i t) (feasible.some i (slice_get_within s.steps i t at)) (priced.steps i t at)))

  -- what is paid at nodes, loops and limits
  abbrev at_source : ℕ → SystemStep → ℤ
  at_source i t = x i *ℤ prices.u t.source

  abbrev at_target : ℕ → SystemStep → ℤ
  at_target i t = x i *ℤ ahead_of prices.u t.target

  abbrev of_back : ℕ → SystemStep → ℤ
  of_back i t = x i *ℤ back_price prices.v s.loops i

  abbrev of_entry : ℕ → SystemStep → ℤ
  of_entry i t = x i *ℤ entry_price prices.v s.loops i

  abbrev of_limit : ℕ → SystemStep → ℤ
  of_limit i t = x i *ℤ limit_price prices.w s.limits t.source

  parts : sum_placed (λ i t. x i *ℤ step_price s prices i t) s.steps
      ≡ sum_placed at_source s.steps -ℤ sum_placed at_target s.steps +ℤ sum_placed of_back s.steps -ℤ sum_placed of_entry s.steps +ℤ sum_placed of_limit s.steps
  parts =
      let shared = sum_same (λ i t. x i *ℤ step_price s prices i t) (λ i t. at_source i t -ℤ at_target i t +ℤ of_back i t -ℤ of_entry i t +ℤ of_limit i t) s.steps
      (λ i t at. share (x i) (prices.u t.source) (ahead_of prices.u t.target) (back_price prices.v s.loops i) (entry_price prices.v s.loops i) (limit_price prices.w s.limits t.source)) in
      omega (
        arith,
        ints,
        shared,
        sum_less at_source at_target s.steps,
        sum_add (λ i t. at_source i t -ℤ at_target i t) of_back s.steps,
        sum_less (λ i t. at_source i t -ℤ at_target i t +ℤ of_back i t) of_entry s.steps,
        sum_add (λ i t. at_source i t -ℤ at_target i t +ℤ of_back i t -ℤ of_entry i t) of_limit s.steps,
      )

  nodes_paid : sum_placed at_source s.steps -ℤ sum_placed at_target s.steps ≡ den *ℤ prices.u s.start
  nodes_paid =
      let source = by_source prices.u x s.steps s.nodes is.sources in
      let target = by_target prices.u x s.steps s.nodes is.targets in
      let less = sum_less (λ p _. prices.u p *ℤ out_of s.steps x p) (λ p _. prices.u p *ℤ into s.steps x p) (nodes s.nodes) in
      let same = sum_same (λ p _. prices.u p *ℤ out_of s.steps x p -ℤ prices.u p *ℤ into s.steps x p) (λ p _. chosen (s.start == p) (den *ℤ prices.u p)) (nodes s.nodes)
      (λ p q at. balanced (prices.u p) (out_of s.steps x p) (into s.steps x p) den (s.start == p) (feasible.balanced p (nodes_within s.nodes p q at))) in
      let picked = sum_pick (λ p _. den *ℤ prices.u p) (nodes s.nodes) s.start 0 (nodes_get s.nodes s.start is.start) in
      omega (arith, ints, source, target, less, same, picked)

  loops_paid : (sum_placed of_back s.steps -ℤ sum_placed of_entry s.steps) ≤ℤ (den *ℤ sum_placed (λ k l. chosen (l.head == s.start) (pos l.bound *ℤ prices.v k)) s.loops)
  loops_paid =
      let back = by_loop s x (λ l. l.back) (λ k l. prices.v k) (λ k l at. get_all (λ o. ArePlaces (length s.steps) o.back) s.loops k l at is.backs) in
      let entry = by_loop s x (λ l. l.entry) (λ k l. pos l.bound *ℤ prices.v k) (λ k l at. get_all (λ o. ArePlaces (length s.steps) o.entry) s.loops k l at is.entries) in
      let less = sum_less (λ k l. prices.v k *ℤ sum_in x l.back) (λ k l. (pos l.bound *ℤ prices.v k) *ℤ sum_in x l.entry) s.loops in
      let most = sum_most (λ k l. prices.v k *ℤ sum_in x l.back -ℤ (pos l.bound *ℤ prices.v k) *ℤ sum_in x l.entry)
      (λ k l. den *ℤ chosen (l.head == s.start) (pos l.bound *ℤ prices.v k)) s.loops
      (λ k l at. loop_paid (prices.v k) (pos l.bound) den (sum_in x l.back) (sum_in x l.entry) (l.head == s.start)
      (priced.loops_some k (slice_get_within s.loops k l at)) (get_all (IsBounded s.start den x) s.loops k l at feasible.bounded)) in
      omega (arith, ints, back, entry, less, most, sum_scale den (λ k l. chosen (l.head == s.start) (pos l.bound *ℤ prices.v k)) s.loops)

  limits_paid : sum_placed of_limit s.steps ≤ℤ (den *ℤ sum_placed (λ k l. l.constant *ℤ prices.w k) s.limits)
  limits_paid =
      let most = sum_most (λ k l. prices.w k *ℤ sum_in (λ f. f.1 *ℤ out_of s.steps x f.0) l.factors) (λ k l. den *ℤ (l.constant *ℤ prices.w k)) s.limits
      (λ k l at. limit_paid (prices.w k) l.constant den (sum_in (λ f. f.1 *ℤ out_of s.steps x f.0) l.factors)
      (priced.limits_some k (slice_get_within s.limits k l at)) (get_all (IsLimited s.steps den x) s.limits k l at feasible.limited)) in
      omega (arith, ints, by_limit s x prices.w is, most, sum_scale den (λ k l. l.constant *ℤ prices.w k) s.limits)

  bounds : value_of cost s.steps x ≤ℤ (den *ℤ dual_value s prices)
  bounds =
      let loops : ℤ = sum_placed (λ k l. chosen (l.head == s.start) (pos l.bound *ℤ prices.v k)) s.loops in
      let limits : ℤ = sum_placed (λ k l. l.constant *ℤ prices.w k) s.limits in
      omega (arith, ints, paid, parts, nodes_paid, loops_paid, limits_paid, spread_left den (prices.u s.start) loops, spread_left den (prices.u s.start +ℤ loops) limits)

pub certificates_bound : CertificatesBound
certificates_bound s cost prices den x is priced feasible = bounds s cost prices den x is priced feasible
