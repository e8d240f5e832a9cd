-- Stated rows by the steps.
use Rattle.std.proofs.Common.{◌≡◌, ℕ, suc, ◌+◌, ◌-◌, ◌<◌, ◌≤◌, ◌==◌, ℤ, pos, ◌-ℤ◌, Bool, true, false, ◌||◌, if◌then◌else◌, List, [], ◌∷◌, ◌++◌, map, take, drop, get_or, set, replicate, length, inl, inr, ⊎_elim, refl, sym, ap, ap₂, subst, ◌∙◌, arith}
use Rattle.std.specs.List.{range_with_len}
use Rattle.std.proofs.lemmas.Bool.{cases_eq, eq-eqb, ne_eqb}
use Rattle.std.proofs.lemmas.Int.{to_z-of_z}
use Rattle.std.proofs.lemmas.List.{drop_all, drop_more, get_or-map, get_or-replicate, get_or-set_other, get_or-set_same, length-map, length-replicate, length-set, map_more}
use Rattle.std.proofs.lemmas.List.FromFn.{get_or-range_with_len, length-range_with_len}
use mir.Syntax.{w128}
use mir.Val.{SFits, of_z, to_z}
use Rattle.wc_base.proofs.TestLemmas.{if_false, if_true}
use Rattle.wc_model.specs.declared.flow_system.System.{System}
use Rattle.wc_model.specs.declared.flow_system.SystemLimit.{SystemLimit}
use Rattle.wc_model.specs.declared.flow_system.SystemLoop.{SystemLoop}
use Rattle.wc_model.specs.declared.flow_system.SystemStep.{SystemStep}
use Rattle.wc_model.specs.Flow.Certificates.{factor_of}
use Rattle.wc_model.specs.Flow.Places.{is_listed}
use Rattle.wc_model.specs.Flow.Tableaus.{limit_line, loop_line, no_step, step_entry}
use Rattle.wc_simplex.specs.Inner.Lines.{AreFactors, AreMarks, loop_entry}

pub marks_none : (count k : ℕ) (places : List ℕ) (marks : List Bool) → marks ≡ replicate count false → length places ≤ k → AreMarks count places k marks
marks_none count k places marks is past =
    record {
      counted = ap length is ∙ length-replicate count false;
      each = λ i within. ap (λ m. get_or m i false) is ∙ get_or-replicate count i false false within ∙ sym (ap (is_listed i) (drop_all k places past));
    }

pub marks_step : (count place : ℕ) (places : List ℕ) (marks : List Bool) (d : ℕ) → AreMarks count places place marks → 0 < place → place ≤ length places
    → get_or places (place - 1) d < count → AreMarks count places (place - 1) (set marks (get_or places (place - 1) d) true)
marks_step count place places marks d old some within few =
    let back : place - 1 + 1 ≡ place = omega arith in
    let here : drop (place - 1) places ≡ get_or places (place - 1) d ∷ drop place places =
    drop_more places (place - 1) d (omega arith) ∙ ap (λ n. get_or places (place - 1) d ∷ drop n places) back in
    record {
      counted = length-set marks (get_or places (place - 1) d) true ∙ old.counted;
      each = λ i small.
          ⊎_elim
          (λ (same : i ≡ get_or places (place - 1) d).
          subst (λ n. get_or (set marks (get_or places (place - 1) d) true) n false ≡ is_listed n (drop (place - 1) places)) (sym same)
          (get_or-set_same marks (get_or places (place - 1) d) true false (omega (arith, old.counted))
          ∙ sym (ap (is_listed (get_or places (place - 1) d)) here ∙ ap (λ b. b || is_listed (get_or places (place - 1) d) (drop place places)) (eq-eqb (get_or places (place - 1) d) (get_or places (place - 1) d) refl))))
          (λ (apart : i ≡ get_or places (place - 1) d → ⊥).
          get_or-set_other marks (get_or places (place - 1) d) i true false apart ∙ old.each i small
          ∙ sym (ap (is_listed i) here ∙ ap (λ b. b || is_listed i (drop place places)) (ne_eqb i (get_or places (place - 1) d) apart)))
          (cases_eq i (get_or places (place - 1) d));
    }

pub factors_none : (nodes k : ℕ) (named : List (ℕ × ℤ)) (factors : List ℤ) → factors ≡ replicate nodes (pos 0) → length named ≤ k → AreFactors nodes named k factors
factors_none nodes k named factors is past =
    record {
      counted = ap length is ∙ length-replicate nodes (pos 0);
      each = λ p within. ap (λ m. get_or m p (pos 0)) is ∙ get_or-replicate nodes p (pos 0) (pos 0) within ∙ sym (ap (factor_of p) (drop_all k named past));
    }

pub factors_step : (nodes place node : ℕ) (factor : ℤ) (named : List (ℕ × ℤ)) (factors : List ℤ) (d : ℕ × ℤ) → AreFactors nodes named place factors → 0 < place → place ≤ length named
    → get_or named (place - 1) d ≡ (node, factor) → node < nodes → AreFactors nodes named (place - 1) (set factors node factor)
factors_step nodes place node factor named factors d old some within at few =
    let back : place - 1 + 1 ≡ place = omega arith in
    let here : drop (place - 1) named ≡ (node, factor) ∷ drop place named = drop_more named (place - 1) d (omega arith) ∙ ap₂ (λ f n. f ∷ drop n named) at back in
    record {
      counted = length-set factors node factor ∙ old.counted;
      each = λ p small.
          ⊎_elim
          (λ (same : node ≡ p).
          subst (λ n. get_or (set factors node factor) n (pos 0) ≡ factor_of n (drop (place - 1) named)) same
          (get_or-set_same factors node factor (pos 0) (omega (arith, old.counted))
          ∙ sym (ap (factor_of node) here ∙ if_true (node == node) factor (factor_of node (drop place named)) (eq-eqb node node refl))))
          (λ (apart : node ≡ p → ⊥).
          get_or-set_other factors node p factor (pos 0) (λ same. apart (sym same)) ∙ old.each p small
          ∙ sym (ap (factor_of p) here ∙ if_false (node == p) factor (factor_of p (drop place named)) (ne_eqb node p apart)))
          (cases_eq node p);
    }

-- a row that is given step by step
pub mapped : (f : SystemStep → ℤ) (steps : List SystemStep) (list : List ℤ) → list ≡ map f steps
    → (length list ≡ length steps) × ((i : ℕ) → i < length steps → get_or list i (pos 0) ≡ f (get_or steps i no_step))
mapped f steps list is =
    (ap length is ∙ length-map steps f, λ i within. ap (λ l. get_or l i (pos 0)) is ∙ get_or-map f steps i no_step (pos 0) within)

pub ranged : (f : ℕ → ℤ) (n : ℕ) (list : List ℤ) → list ≡ map f (range_with_len 0 n) → (length list ≡ n) × ((i : ℕ) → i < n → get_or list i (pos 0) ≡ f i)
ranged f n list is = (
  ap length is ∙ length-map (range_with_len 0 n) f ∙ length-range_with_len 0 n,
  λ i within. ap (λ l. get_or l i (pos 0)) is ∙ get_or-map f (range_with_len 0 n) i 0 (pos 0) (omega (arith, length-range_with_len 0 n))
      ∙ ap f (get_or-range_with_len 0 n i 0 within ∙ plus i),
)
  where
    plus : (i : ℕ) → 0 + i ≡ i
    plus i = omega arith

pub loop_is : (s : System) (l : SystemLoop) (back entry : List Bool) (i : ℕ) → AreMarks (length s.steps) l.back 0 back → AreMarks (length s.steps) l.entry 0 entry → i < length s.steps
    → loop_entry (get_or back i false) (get_or entry i false) l.bound ≡ step_entry s (loop_line s l) i
loop_is s l back entry i are_back are_entry within = ap₂ (λ a b. loop_entry a b l.bound) (are_back.each i within) (are_entry.each i within)

pub limit_is : (s : System) (l : SystemLimit) (factors : List ℤ) (i : ℕ) → AreFactors s.nodes l.factors 0 factors → (get_or s.steps i no_step).source < s.nodes
    → get_or factors (get_or s.steps i no_step).source (pos 0) ≡ step_entry s (limit_line l) i
limit_is s l factors i are within = are.each (get_or s.steps i no_step).source within

-- one more entry is pushed
pub pushed_map : {X : Type 0} (f : X → ℤ) (xs : List X) (i : ℕ) (d : X) (ys : List ℤ) (v : ℤ) → i < length xs → ys ≡ map f (take i xs) → SFits w128 v → v ≡ f (get_or xs i d)
    → ys ++ to_z w128 (of_z w128 v) ∷ [] ≡ map f (take (i + 1) xs)
pushed_map f xs i d ys v within is fits value = ap₂ (λ a b. a ++ b ∷ []) is (to_z-of_z w128 v fits ∙ value) ∙ sym (map_more f xs i d within)

pub loop_line_is : (s : System) (l : SystemLoop) (now : List SystemStep) (back_places entry_places : List ℕ) (back entry back_now entry_now : List Bool) (entries : List ℤ)
    → now ≡ s.steps → back_places ≡ l.back → entry_places ≡ l.entry → AreMarks (length now) back_places 0 back → AreMarks (length now) entry_places 0 entry
    → back_now ≡ back → entry_now ≡ entry → entries ≡ map (λ i. loop_entry (get_or back_now i false) (get_or entry_now i false) l.bound) (range_with_len 0 (length back_now))
    → (length entries ≡ length s.steps) × ((i : ℕ) → i < length s.steps → get_or entries i (pos 0) ≡ step_entry s (loop_line s l) i)
loop_line_is s l now back_places entry_places back entry back_now entry_now entries same is_back is_entry are_back are_entry same_back same_entry is =
    let few : length now ≡ length s.steps = ap length same in
    let count : length back_now ≡ length s.steps = ap length same_back ∙ are_back.counted ∙ few in
    let each = ranged (λ i. loop_entry (get_or back_now i false) (get_or entry_now i false) l.bound) (length back_now) entries is in (
      each.0 ∙ count,
      λ i within.
          each.1 i (omega (arith, count))
          ∙ ap₂ (λ a b. loop_entry a b l.bound) (ap (λ m. get_or m i false) same_back ∙ are_back.each i (omega (arith, few)) ∙ ap (is_listed i) is_back)
          (ap (λ m. get_or m i false) same_entry ∙ are_entry.each i (omega (arith, few)) ∙ ap (is_listed i) is_entry),
    )
