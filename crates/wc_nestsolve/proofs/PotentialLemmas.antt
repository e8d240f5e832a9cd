-- Potentials that meet the lines of the steps so far meet those of one more loop's back steps once they are raised.
use Rattle.std.proofs.Common.{◌≡◌, ℕ, ◌+◌, ◌<◌, ◌≤◌, ◌⊎◌, inl, inr, ℤ, pos, ◌+ℤ◌, ◌-ℤ◌, ◌≤ℤ◌, slice_get, slice_index, Option, Some, None, option_map, Bool, true, false, if◌then◌else◌, List, refl, sym, ap, ap₂, subst, ◌∙◌, arith}
use Rattle.std.proofs.lemmas.Bool.{cases_lt}
use Rattle.std.proofs.lemmas.Int.{ints, clamps}
use Rattle.std.specs.Int.{int_max}
use Rattle.wc_model.specs.declared.flow_system.System.{System}
use Rattle.wc_model.specs.declared.flow_system.SystemLoop.{SystemLoop}
use Rattle.wc_model.specs.declared.flow_system.SystemStep.{SystemStep}
use Rattle.wc_model.specs.declared.graphs.Nest.{Nest}
use Rattle.wc_model.specs.Flow.Systems.{is_marked}
use Rattle.wc_nestsolve.specs.declared.found.Found.{Found}
use Rattle.wc_nestsolve.specs.Inner.Nested.{IsLoop, IsNested, IsStep, lies}
use Rattle.wc_nestsolve.specs.Inner.Potentials.{Covers, IsMet, IsPotential, after_loop, plus, potential_ahead, raised_by, raised_to}
use Rattle.wc_nestsolve.specs.Inner.Tables.{IsTable, found_at, reach, value_of_found}
use Rattle.wc_nestsolve.specs.Inner.Weights.{surcharge, weight}
use Rattle.wc_nestsolve.proofs.WeightLemmas.{test_same, weight_ahead, weight_back}

raise_covers : (old b : Option ℤ) (f : Option Found) (from : ℤ) → Covers old b → Covers (raised_by old f from) b
raise_covers old None f from covers = tt
raise_covers None (Some b) f from covers = absurd covers
raise_covers (Some a) (Some b) None from covers = covers
raise_covers (Some a) (Some b) (Some f) from covers = omega (arith, ints, clamps)

after_covers : (at_head : Option ℤ) (round : ℤ) (within : Bool) (old b : Option ℤ) (f : Option Found) → Covers old b → Covers (after_loop at_head round within old f) b
after_covers None round within old b f covers = covers
after_covers (Some a) round false old b f covers = covers
after_covers (Some a) round true old b f covers = raise_covers old b f (a -ℤ round) covers

-- a way that is found brings the raised potential up
found_covers : (old : Option ℤ) (f : Found) (from low : ℤ) → low ≤ℤ (pos f.value +ℤ from) → Covers (raised_by old (Some f) from) (Some low)
found_covers None f from low le = le
found_covers (Some a) f from low le = omega (arith, ints, clamps)

pub head_same : (at_head : Option ℤ) (round : ℤ) (within : Bool) (f : Option Found) → (within ≡ false) ⊎ (pos (value_of_found f) ≡ round) → after_loop at_head round within at_head f ≡ at_head
head_same None round within f is = refl
head_same (Some a) round false f is = refl
head_same (Some a) round true None is = refl
head_same (Some a) round true (Some f) (inl no') = cc
head_same (Some a) round true (Some f) (inr same) = ap Some (top (pos f.value +ℤ (a -ℤ round)) (omega (arith, ints)))
  where
    top : (z : ℤ) → z ≡ a → int_max a z ≡ a
    top z is' = omega (arith, ints, clamps)

module _ (s : System) (nest : Nest) (is : IsNested s nest) (v : ℕ → ℤ)
    (known : (i : ℕ) (t : SystemStep) → IsStep s nest i t → t.source < s.nodes)
    (known_target : (i q : ℕ) (t : SystemStep) → IsStep s nest i t → t.target ≡ Some q → q < s.nodes)
    (k : ℕ) (l : SystemLoop) (here : IsLoop s nest k l) (extra : List ℕ) (best : List (Option Found))
    (table : IsTable s nest (Some l.head) (λ p. (lies nest k p ≡ true) × (p < s.nodes)) extra best)
    (charged : (q : ℕ) → q < s.nodes → pos (slice_index extra q) ≡ surcharge s v q)
    (round : pos (value_of_found (found_at best l.head)) ≡ v k)
    (u : ℕ → Option ℤ) (old : IsPotential s nest v k u) where
  abbrev next : ℕ → Option ℤ
  next p = after_loop (u l.head) (v k) (lies nest k p) (u p) (found_at best p)

  next_head : next l.head ≡ u l.head
  next_head = head_same (u l.head) (v k) (lies nest k l.head) (found_at best l.head) (inr round)

  next_outside : (p : ℕ) → lies nest k p ≡ false → next p ≡ u p
  next_outside p out = ap (λ b. after_loop (u l.head) (v k) b (u p) (found_at best p)) out ∙ same (u l.head)
    where
      same : (o : Option ℤ) → after_loop o (v k) false (u p) (found_at best p) ≡ u p
      same None = refl
      same (Some a) = refl

  -- inside of the class a way goes on
  through : (i q : ℕ) (t : SystemStep) → IsStep s nest i t → t.target ≡ Some q → is_marked nest i ≡ false → lies nest k t.source ≡ true
      → Covers (next t.source) (plus (weight s v i t) (u q)) → Covers (next t.source) (plus (weight s v i t) (after_loop (u l.head) (v k) true (u q) (found_at best q)))
  through i q t at to ahead within covers = by (u l.head) refl (found_at best q) refl
    where
      worth : (f : Found) → found_at best q ≡ Some f → (g : Found) × (found_at best t.source ≡ Some g) × (t.cost + (slice_index extra q + f.value) ≤ g.value)
      worth f there = table.most i (t.cost + (slice_index extra q + f.value)) t at (within, known i t at)
          (ap₂ (λ b o. reach (Some l.head) b t.cost o extra best) ahead to ∙ ap (option_map (λ x. t.cost + (slice_index extra q + x.value))) there)

      by : (a : Option ℤ) → u l.head ≡ a → (f : Option Found) → found_at best q ≡ f → Covers (next t.source) (plus (weight s v i t) (after_loop a (v k) true (u q) f))
      by None head f there = covers
      by (Some a) head None there = covers
      by (Some a) head (Some f) there =
          let g = worth f there in
          let w : weight s v i t ≡ pos t.cost +ℤ pos (slice_index extra q) = weight_ahead s nest is v i q t at to ahead ∙ ap (λ z. pos t.cost +ℤ z) (sym (charged q (known_target i q t at to))) in
          let mine : next t.source ≡ raised_by (u t.source) (Some g.0) (a -ℤ v k) =
          ap₂ (λ o b. after_loop o (v k) b (u t.source) (found_at best t.source)) head within ∙ ap (λ o. raised_by (u t.source) o (a -ℤ v k)) g.1 in
          let found : Covers (next t.source) (Some (weight s v i t +ℤ (pos f.value +ℤ (a -ℤ v k)))) =
          subst (λ o. Covers o (Some (weight s v i t +ℤ (pos f.value +ℤ (a -ℤ v k))))) (sym mine)
          (found_covers (u t.source) g.0 (a -ℤ v k) (weight s v i t +ℤ (pos f.value +ℤ (a -ℤ v k))) (omega (arith, ints, w, g.2))) in
          more (next t.source) (u q) found covers
        where
          more : (o x : Option ℤ) → Covers o (Some (weight s v i t +ℤ (pos f.value +ℤ (a -ℤ v k)))) → Covers o (plus (weight s v i t) x) → Covers o (plus (weight s v i t) (raised_to x (pos f.value +ℤ (a -ℤ v k))))
          more None x found covers' = absurd found
          more (Some z) None found covers' = found
          more (Some z) (Some y) found covers' = omega (arith, ints, clamps)

  next_ahead : (i : ℕ) (t : SystemStep) → IsStep s nest i t → is_marked nest i ≡ false → IsMet s nest v next i t
  next_ahead i t at ahead = by t.target refl
    where
      before : (o : Option ℕ) → t.target ≡ o → Covers (next t.source) (plus (weight s v i t) (potential_ahead u o))
      before o to = after_covers (u l.head) (v k) (lies nest k t.source) (u t.source) (plus (weight s v i t) (potential_ahead u o)) (found_at best t.source)
          (subst (λ x. Covers (u t.source) (plus (weight s v i t) (potential_ahead u x))) to (old.ahead i t at ahead))

      into : (q : ℕ) → t.target ≡ Some q → (b c : Bool) → lies nest k q ≡ b → lies nest k t.source ≡ c → Covers (next t.source) (plus (weight s v i t) (next q))
      into q to false c in_q in_p = subst (λ x. Covers (next t.source) (plus (weight s v i t) x)) (sym (next_outside q in_q)) (before (Some q) to)
      into q to true false in_q in_p =
          let head : q ≡ l.head = is.entered i k q t l at here to in_q in_p in
          subst (λ x. Covers (next t.source) (plus (weight s v i t) x)) (sym (ap next head ∙ next_head ∙ sym (ap u head))) (before (Some q) to)
      into q to true true in_q in_p = subst (λ b. Covers (next t.source) (plus (weight s v i t) (after_loop (u l.head) (v k) b (u q) (found_at best q)))) (sym in_q)
          (through i q t at to ahead in_p (before (Some q) to))

      by : (o : Option ℕ) → t.target ≡ o → IsMet s nest v next i t
      by None to = subst (λ x. Covers (next t.source) (plus (weight s v i t) (potential_ahead next x))) (sym to) (before None to)
      by (Some q) to = subst (λ x. Covers (next t.source) (plus (weight s v i t) (potential_ahead next x))) (sym to) (into q to (lies nest k q) (lies nest k t.source) refl refl)

  next_back : (i m : ℕ) (t : SystemStep) (o : SystemLoop) → IsStep s nest i t → IsLoop s nest m o → m < k + 1 → is_marked nest i ≡ true → t.target ≡ Some o.head → IsMet s nest v next i t
  next_back i m t o at there less marked to = subst (λ x. Covers (next t.source) (plus (weight s v i t) (potential_ahead next x))) (sym to) (by (cases_lt m k))
    where
      outer : m < k → (b : Bool) → lies nest k o.head ≡ b → Covers (next t.source) (plus (weight s v i t) (next o.head))
      outer less' true in_o = absurd (let low : k ≤ m = is.outer k m l o here there in_o in omega arith)
      outer less' false in_o = subst (λ x. Covers (next t.source) (plus (weight s v i t) x)) (sym (next_outside o.head in_o))
          (after_covers (u l.head) (v k) (lies nest k t.source) (u t.source) (plus (weight s v i t) (u o.head)) (found_at best t.source)
          (subst (λ x. Covers (u t.source) (plus (weight s v i t) (potential_ahead u x))) to (old.back i m t o at there less' marked to)))

      own : m ≡ k → Covers (next t.source) (plus (weight s v i t) (next o.head))
      own same =
          let one : slice_get s.loops k ≡ Some o = ap (slice_get s.loops) (sym same) ∙ there in
          let is_l : o ≡ l = both one in
          let to_l : t.target ≡ Some l.head = to ∙ ap (λ x. Some x.head) is_l in
          subst (λ x. Covers (next t.source) (plus (weight s v i t) x)) (sym (ap (λ x. next x.head) is_l ∙ next_head)) (reached to_l (u l.head) refl)
        where
          both : slice_get s.loops k ≡ Some o → o ≡ l
          both one = cc

          reached : t.target ≡ Some l.head → (a : Option ℤ) → u l.head ≡ a → Covers (next t.source) (plus (weight s v i t) a)
          reached to_l None head = tt
          reached to_l (Some a) head =
              let within = is.marked i k t l at here to_l marked in
              let g = table.most i t.cost t at (within, known i t at)
              (ap₂ (λ b x. reach (Some l.head) b t.cost x extra best) marked to_l ∙ ap (λ b. if b then Some t.cost else None) (test_same l.head l.head refl)) in
              let w = weight_back s nest is v i k t l at here to_l marked in
              let mine : next t.source ≡ raised_by (u t.source) (Some g.0) (a -ℤ v k) =
              ap₂ (λ x b. after_loop x (v k) b (u t.source) (found_at best t.source)) head within ∙ ap (λ x. raised_by (u t.source) x (a -ℤ v k)) g.1 in
              subst (λ x. Covers x (Some (weight s v i t +ℤ a))) (sym mine) (found_covers (u t.source) g.0 (a -ℤ v k) (weight s v i t +ℤ a) (omega (arith, ints, w, g.2)))

      by : (m < k) ⊎ (k ≤ m) → Covers (next t.source) (plus (weight s v i t) (next o.head))
      by (inl less') = outer less' (lies nest k o.head) refl
      by (inr more) = own (omega arith)

  pub potential_after : IsPotential s nest v (k + 1) next
  potential_after = record { ahead = next_ahead; back = next_back }
