-- The terms of one side of a limit.
use Rattle.std.proofs.Common.{◌≡◌, ℕ, zero, suc, ◌==◌, ◌+◌, ◌*◌, ◌-◌, ◌^◌, ◌<◌, ◌≤◌, ◌&&◌, ℤ, pos, ◌-ℤ◌, List, [], ◌∷◌, ◌++◌, length, reverse, drop, take, get_or, slice_index_or, Option, Some, None, Bool, true, false, if◌then◌else◌, refl, sym, ap, ap₂, subst, ◌∙◌, arith}
use Rattle.std.proofs.lemmas.Bool.Decides.{nat_tests}
use Rattle.std.proofs.lemmas.List.{get_or-drop, length-drop}
use Rattle.std.proofs.lemmas.List.Sums.{sum_by-cons}
use Rattle.std.proofs.lemmas.List.Sorted.{sum_by-IsPermutation}
use Rattle.std.specs.List.{filter, sum_by}
use Rattle.std.specs.List.Sorted.{IsNonDecreasingBy, IsPermutation}
use Rattle.wc_model.specs.declared.flow_facts.Term.{Term}
use Rattle.wc_model.specs.declared.flow_facts.Term.TheVariants.{Constant, Visits}
use Rattle.wc_model.specs.Flow.Bounds.{calls_fit, fits}
use Rattle.wc_model.specs.declared.flow_system.SystemLimit.{SystemLimit}
use Rattle.wc_model.specs.declared.graphs.Graph.{Graph}
use Rattle.wc_model.specs.declared.graphs.Node.{Node}
use Rattle.wc_model.specs.Flow.Systems.{constant_in, counts_some, factor_pairs, node_position, stated_factor, stated_limit, times_in}
use Rattle.wc_model.specs.Program.Positions.{Position}
use Rattle.wc_system.specs.declared.terms.Visit.{Visit}
use Rattle.wc_system.specs.Inner.Terms.{visit_pairs, visit_sum, visit_times}

pub visit_push : (p : Position) (vs : List Visit) (v : Visit) → visit_sum p (vs ++ v ∷ []) ≡ visit_sum p vs + visit_times p v
visit_push p [] v = omega arith
visit_push p (w ∷ vs) v = omega (arith, visit_push p vs v)

visit_by : (p : Position) (vs : List Visit) → visit_sum p vs ≡ sum_by (visit_times p) vs
visit_by p [] = refl
visit_by p (v ∷ vs) = omega (arith, visit_by p vs, sum_by-cons (visit_times p) v vs)

pub visit_sorted : (p : Position) (vs ws : List Visit) → IsPermutation vs ws → visit_sum p ws ≡ visit_sum p vs
visit_sorted p vs ws moved = visit_by p ws ∙ sum_by-IsPermutation (visit_times p) vs ws moved ∙ sym (visit_by p vs)

-- terms for other addresses don't count
other_times : (p : Position) (v : Visit) → (p.pc ≡ v.at → ⊥) → visit_times p v ≡ 0
other_times p v other = by (p.pc == v.at) refl
  where
    by : (b : Bool) → (p.pc == v.at) ≡ b → visit_times p v ≡ 0
    by true is = absurd (other (grind (arith, nat_tests)))
    by false is = ap {B = ℕ} (λ b. if b && calls_fit (reverse v.within.now) p.calls then v.times else 0) is

pub none_from : (p : Position) (vs : List Visit) → ((k : ℕ) (d : Visit) → k < length vs → p.pc < (slice_index_or vs k d).at) → visit_sum p vs ≡ 0
none_from p [] above = refl
none_from p (v ∷ vs) above =
    omega (arith, other_times p v (λ same. omega (arith, same, above zero v (omega arith))), none_from p vs (λ k d within. above (suc k) d (omega (arith, within))))

pub none_before : (p : Position) (vs : List Visit) (place : ℕ) → place ≤ length vs → ((k : ℕ) (d : Visit) → k < place → (slice_index_or vs k d).at < p.pc) → visit_sum p (drop place vs) ≡ visit_sum p vs
none_before p vs zero inside below = refl
none_before p [] (suc place) inside below = absurd (omega (arith, inside))
none_before p (v ∷ vs) (suc place) inside below =
    omega (arith, other_times p v (λ same. omega (arith, same, below zero v (omega arith))), none_before p vs place (omega (arith, inside)) (λ k d before. below (suc k) d (omega (arith, before))))

pub visit_term : (p : Position) (v : Visit) (term : Term) (times at : ℕ) (within : List ℕ) → term ≡ Visits times at within → v.at ≡ at → v.times ≡ times → v.within.now ≡ within
    → visit_times p v ≡ times_in p (term ∷ [])
visit_term p v term times at within is at-is times-is within-is =
    ap (λ a. if fits a v.within.now p then v.times else 0) at-is ∙ ap (λ n. if fits at v.within.now p then n else 0) times-is
    ∙ ap (λ w. if fits at w p then times else 0) within-is ∙ alone ∙ sym (ap (λ t. times_in p (t ∷ [])) is)
  where
    alone : (if fits at within p then times else 0) ≡ (if fits at within p then times else 0) + 0
    alone = omega arith

-- from the first other address on no term counts
pub none_after : (p : Position) (vs : List Visit) (place : ℕ) (d : Visit) → IsNonDecreasingBy (λ (v : Visit). v.at) vs → place < length vs
    → ((k : ℕ) (e : Visit) → place ≤ k → k < length vs → p.pc ≤ (slice_index_or vs k e).at) → ((get_or vs place d).at ≡ p.pc → ⊥) → visit_sum p (drop place vs) ≡ 0
none_after p vs place d sorted within from other = none_from p (drop place vs) (λ k e below.
    let there : place + k < length vs = omega (arith, below, length-drop place vs) in
    let same : (slice_index_or (drop place vs) k e).at ≡ (get_or vs (place + k) e).at = ap (λ v. v.at) (get_or-drop place vs k e) in
    let first : (get_or vs place d).at ≡ (get_or vs place e).at = ap (λ v. v.at) (get_or_any vs place d e within) in
    let apart : p.pc < (get_or vs place d).at = differs (get_or vs place d).at p.pc (from place d (omega arith) within) other in
    omega (arith, same, first, apart, sorted place (place + k) e (omega arith) there))
  where
    differs : (a b : ℕ) → b ≤ a → (a ≡ b → ⊥) → b < a
    differs a b le apart = grind (arith, nat_tests)

    get_or_any : (xs : List Visit) (i : ℕ) (a b : Visit) → i < length xs → get_or xs i a ≡ get_or xs i b
    get_or_any [] i a b below = absurd (omega (arith, below))
    get_or_any (x ∷ xs) zero a b below = refl
    get_or_any (x ∷ xs) (suc i) a b below = get_or_any xs i a b (omega (arith, below))

-- the factors by the terms of both sides are those of the sides
pub pairs_are : (graph : Graph) (left right : List Term) (plus minus : List Visit) → ((p : Position) → visit_sum p plus ≡ times_in p left) → ((p : Position) → visit_sum p minus ≡ times_in p right)
    → (first : ℕ) (nodes : List Node) → visit_pairs graph.contexts plus minus first nodes ≡ factor_pairs graph left right first nodes
pairs_are graph left right plus minus plus-are minus-are first [] = refl
pairs_are graph left right plus minus plus-are minus-are first (node ∷ nodes) =
    ap₂ (λ a b. (first, pos a -ℤ pos b) ∷ visit_pairs graph.contexts plus minus (first + 1) nodes) (plus-are (node_position graph node)) (minus-are (node_position graph node))
    ∙ ap (λ pairs. (first, stated_factor left right (node_position graph node)) ∷ pairs) (pairs_are graph left right plus minus plus-are minus-are (first + 1) nodes)

pub limit_is : (graph : Graph) (left right : List Term) (constant : ℤ) (factors : List (ℕ × ℤ)) → constant ≡ pos (constant_in right) -ℤ pos (constant_in left)
    → factors ≡ filter counts_some (factor_pairs graph left right 0 graph.nodes) → ◌≡◌ {A = SystemLimit} (record { constant = constant; factors = factors }) (stated_limit graph left right)
limit_is graph left right constant factors constant-is factors-is = λ i. record { constant = constant-is i; factors = factors-is i }
