-- The views of all seats, where one of them changes or one more comes.
use Rattle.std.proofs.Common.{◌≡◌, ◌≢◌, ℕ, zero, suc, ◌<◌, ◌⊎◌, true, false, List, [], ◌∷◌, ◌++◌, length, set, refl, sym, ap, ◌∙◌, subst, inl, inr, ⊎_elim, arith}
use mathlib.Core.Option.{some, some-injective, some-ne-none}
use mathlib.Core.Logic.{dite}
use native.Mathlib.Decide.{ℕ_discrete}
use lib.ListN.{get_elem?}
use Rattle.atomic_table.proofs.Lists.{at_set, set_here, set_else, at_longer}
use Rattle.wc_pass.specs.declared.views.View.{View}
use Rattle.wc_pass.specs.Rule.{AreApart}

pub at_below : (l : List View) (i : ℕ) (a : View) → get_elem? l i ≡ some a → i < length l
at_below [] i a e = absurd (some-ne-none a (sym e))
at_below (x ∷ xs) zero a e = omega arith
at_below (x ∷ xs) (suc i) a e = let p = at_below xs i a e in omega arith

at_end : (l : List View) (a b : View) (j : ℕ) → get_elem? (l ++ a ∷ []) j ≡ some b → (get_elem? l j ≡ some b) ⊎ ((j ≡ length l) × (a ≡ b))
at_end [] a b zero e = inr (refl, some-injective a b e)
at_end [] a b (suc j) e = absurd (some-ne-none b (sym e))
at_end (x ∷ xs) a b zero e = inl e
at_end (x ∷ xs) a b (suc j) e = ⊎_elim (λ t. inl t) (λ t. inr (omega (arith, t.0), t.1)) (at_end xs a b j e)

-- one place has one view
pub one_view : (l : List View) (j k : ℕ) (a b : View) → j ≡ k → get_elem? l j ≡ some a → get_elem? l k ≡ some b → a ≡ b
one_view l j k a b e at_j at_k = some-injective a b (sym at_j ∙ ap (λ (i : ℕ). get_elem? l i) e ∙ at_k)

pub each_set : (P : ℕ → View → Type 0) (views : List View) (id : ℕ) (w : View) → P id w → ((j : ℕ) (v : View) → j ≢ id → get_elem? views j ≡ some v → P j v)
    → (j : ℕ) (v : View) → get_elem? (set views id w) j ≡ some v → P j v
each_set P views id w here others j v at =
    ⊎_elim (λ t. subst (λ (x : View). P j x) t.1 (subst (λ (k : ℕ). P k w) (sym t.0) here)) (λ t. others j v t.0 t.1) (at_set views id j w v at)

pub each_snoc : (P : ℕ → View → Type 0) (views : List View) (w : View) → P (length views) w → ((j : ℕ) (v : View) → get_elem? views j ≡ some v → P j v)
    → (j : ℕ) (v : View) → get_elem? (views ++ w ∷ []) j ≡ some v → P j v
each_snoc P views w here others j v at =
    ⊎_elim (λ t. others j v t) (λ t. subst (λ (x : View). P j x) t.1 (subst (λ (k : ℕ). P k w) (sym t.0) here)) (at_end views w v j at)

-- the pen's seat
abbrev pub There : List View → ℕ → Type 0
There views pen = (v : View) × (get_elem? views pen ≡ some v) × (v.pen ≡ true)

pub there_set : (views : List View) (pen id : ℕ) (v w : View) → get_elem? views id ≡ some v → w.pen ≡ v.pen → There views pen → There (set views id w) pen
there_set views pen id v w at same there =
    dite (ℕ_discrete pen id)
    (λ e. let is : there.0 ≡ v = one_view views pen id there.0 v e there.1 at in
    (w, ap (λ (k : ℕ). get_elem? (set views id w) k) e ∙ set_here views id w (at_below views id v at), same ∙ ap (λ (x : View). x.pen) (sym is) ∙ there.2))
    (λ ne. (there.0, set_else views id pen w ne ∙ there.1, there.2))

-- a seat that isn't the pen's stands elsewhere
pub not_pen : (views : List View) (pen id : ℕ) (v : View) → get_elem? views id ≡ some v → v.pen ≡ false → There views pen → pen ≢ id
not_pen views pen id v at reads there e =
    let is : there.0 ≡ v = one_view views pen id there.0 v e there.1 at in
    let both : true ≡ false = sym there.2 ∙ ap (λ (x : View). x.pen) is ∙ reads in
    cc

pub there_else : (views : List View) (pen id : ℕ) (w : View) → pen ≢ id → There views pen → There (set views id w) pen
there_else views pen id w ne there = (there.0, set_else views id pen w ne ∙ there.1, there.2)

pub there_snoc : (views : List View) (pen : ℕ) (w : View) → There views pen → There (views ++ w ∷ []) pen
there_snoc views pen w there = (there.0, at_longer views (w ∷ []) pen there.0 there.1, there.2)

pub apart_set : (views : List View) (id : ℕ) (v w : View) → get_elem? views id ≡ some v → w.session ≡ v.session → AreApart views → AreApart (set views id w)
apart_set views id v w at same apart j k x y at_j at_k some_session e =
    each_set (λ j x. x.session ≢ 0 → x.session ≡ y.session → j ≡ k) views id w
    (λ some e. each_set (λ k y. w.session ≡ y.session → id ≡ k) views id w (λ _. refl)
    (λ k y ne at_k e. apart id k v y at at_k (λ z. some (same ∙ z)) (sym same ∙ e)) k y at_k e)
    (λ j x ne at_j some e. each_set (λ k y. x.session ≡ y.session → j ≡ k) views id w
    (λ e. apart j id x v at_j at some (e ∙ same))
    (λ k y ne at_k e. apart j k x y at_j at_k some e) k y at_k e)
    j x at_j some_session e

-- a seat without a session
pub apart_spent : (views : List View) (id : ℕ) (w : View) → w.session ≡ 0 → AreApart views → AreApart (set views id w)
apart_spent views id w none apart j k x y at_j at_k some_session e =
    each_set (λ j x. x.session ≢ 0 → x.session ≡ y.session → j ≡ k) views id w
    (λ some e. absurd (some none))
    (λ j x ne at_j some e. each_set (λ k y. x.session ≡ y.session → j ≡ k) views id w
    (λ e. absurd (some (e ∙ none)))
    (λ k y ne at_k e. apart j k x y at_j at_k some e) k y at_k e)
    j x at_j some_session e

-- one more seat, with a session that no other one has, or with none
pub apart_snoc : (views : List View) (w : View) → ((j : ℕ) (v : View) → get_elem? views j ≡ some v → v.session ≢ 0 → v.session ≢ w.session) → AreApart views → AreApart (views ++ w ∷ [])
apart_snoc views w new apart j k x y at_j at_k some_session e =
    each_snoc (λ j x. x.session ≢ 0 → x.session ≡ y.session → j ≡ k) views w
    (λ some e. each_snoc (λ k y. w.session ≡ y.session → length views ≡ k) views w (λ _. refl)
    (λ k y at_k e. absurd (new k y at_k (λ z. some (e ∙ z)) (sym e))) k y at_k e)
    (λ j x at_j some e. each_snoc (λ k y. x.session ≡ y.session → j ≡ k) views w
    (λ e. absurd (new j x at_j some e))
    (λ k y at_k e. apart j k x y at_j at_k some e) k y at_k e)
    j x at_j some_session e
