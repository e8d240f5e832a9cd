-- One stack more in order, and those that go on from it.
use Rattle.std.proofs.Common.{ℕ, ◌≡◌, ◌⊎◌, inl, inr, ⊎_elim, List, [], ◌∷◌, ◌++◌, map, refl, sym, ap, subst, ◌∙◌, arith, append_assoc, append-nil, nat_cmp, Less, Equal}
use Rattle.std.specs.Cmp.{nat_cmp_is}
use Rattle.std.specs.Cmp.Lexicographic.{slice_cmp}
use Rattle.std.specs.Ordering.{ordering_then}
use Rattle.wc_model.specs.Program.Positions.{Call, call_cmp}
use Rattle.wc_graph.specs.Inner.Lists.{Has}
use Rattle.wc_graph.specs.Inner.Orders.{CallLess, Before, Pairs, Parts, IsPreorder}
use Rattle.wc_graph.proofs.RisingLemmas.{has_append, has_map}

call_trans : (a b c : Call) → CallLess a b → CallLess b c → CallLess a c
call_trans a b c (inl less) (inl more) = inl (omega arith)
call_trans a b c (inl less) (inr more) = inl (omega (arith, more.0))
call_trans a b c (inr less) (inl more) = inl (omega (arith, less.0))
call_trans a b c (inr less) (inr more) = inr (less.0 ∙ more.0, omega (arith, less.1, more.1))

pub before_trans : (a b c : List Call) → Before a b → Before b c → Before a c
before_trans [] [] c none later = absurd none
before_trans [] (y ∷ b) [] one none = absurd none
before_trans [] (y ∷ b) (z ∷ c) one two = tt
before_trans (x ∷ a) [] c none two = absurd none
before_trans (x ∷ a) (y ∷ b) [] one none = absurd none
before_trans (x ∷ a) (y ∷ b) (z ∷ c) (inl less) (inl more) = inl (call_trans x y z less more)
before_trans (x ∷ a) (y ∷ b) (z ∷ c) (inl less) (inr more) = inl (subst (CallLess x) more.0 less)
before_trans (x ∷ a) (y ∷ b) (z ∷ c) (inr less) (inl more) = inl (subst (λ (w : Call). CallLess w z) (sym less.0) more)
before_trans (x ∷ a) (y ∷ b) (z ∷ c) (inr less) (inr more) = inr (less.0 ∙ more.0, before_trans a b c less.1 more.1)

call_apart : (c : Call) → CallLess c c → ⊥
call_apart c (inl less) = omega arith
call_apart c (inr less) = omega (arith, less.1)

pub before_apart : (a : List Call) → Before a a → ⊥
before_apart [] none = none
before_apart (x ∷ a) (inl less) = call_apart x less
before_apart (x ∷ a) (inr less) = before_apart a less.1

pub grows : (w : List Call) (c : Call) → Before w (w ++ c ∷ [])
grows [] c = tt
grows (x ∷ w) c = inr (refl, grows w c)

siblings : (w u : List Call) (c d : Call) → CallLess c d → Before (w ++ c ∷ u) (w ++ d ∷ [])
siblings [] u c d less = inl less
siblings (x ∷ w) u c d less = inr (refl, siblings w u c d less)

pub pairs_push : {X : Type 0} (R : X → X → Type 0) (xs : List X) (x : X) → Pairs R xs → ((y : X) → Has xs y → R y x) → Pairs R (xs ++ x ∷ [])
pairs_push R [] x pairs all = ((λ y none. absurd none), tt)
pairs_push {X} R (z ∷ xs) x pairs all = (
  λ y has. ⊎_elim (λ (old : Has xs y). pairs.0 y old) (λ (new : (x ≡ y) ⊎ ⊥). last y new) (has_append xs (x ∷ []) y has),
  pairs_push R xs x pairs.1 (λ y has. all y (inr has)),
)
  where
    last : (y : X) → (x ≡ y) ⊎ ⊥ → R z y
    last y (inl same) = subst (R z) same (all z (inl refl))
    last y (inr none) = absurd none

pub pairs_append : {X : Type 0} (R : X → X → Type 0) (xs ys : List X) → Pairs R xs → Pairs R ys → ((x y : X) → Has xs x → Has ys y → R x y) → Pairs R (xs ++ ys)
pairs_append R [] ys left right across = right
pairs_append R (x ∷ xs) ys left right across = (
  λ y has. ⊎_elim (λ (old : Has xs y). left.0 y old) (λ (new : Has ys y). across x y (inl refl) new) (has_append xs ys y has),
  pairs_append R xs ys left.1 right (λ z y has_z has_y. across z y (inr has_z) has_y),
)

abbrev pub on_from : List Call → Call → List Call
on_from w c = w ++ c ∷ []

children_part : (w : List Call) (cs : List Call) → Pairs CallLess cs → Pairs Parts (map (on_from w) cs)
children_part w [] pairs = tt
children_part w (c ∷ cs) pairs = (
  λ y has u. let from = has_map (on_from w) cs y has in subst (λ (t : List Call). Before ((w ++ c ∷ []) ++ u) t) from.2 (subst (λ (s : List Call). Before s (w ++ from.0 ∷ [])) (sym (append_assoc w (c ∷ []) u)) (siblings w u c from.0 (pairs.0 from.0 from.1))),
  children_part w cs pairs.1,
)

pub preorder_goes_on : (done rest : List (List Call)) (w : List Call) (cs : List Call) → IsPreorder done (w ∷ rest) → Pairs CallLess cs → IsPreorder (done ++ w ∷ []) (map (on_from w) cs ++ rest)
preorder_goes_on done rest w cs is pairs = record {
  sorted = pairs_push Before done w is.sorted (λ d has. is.ahead d w has (inl refl));
  ahead = λ d v has_d has_v. ⊎_elim
      (λ (old : Has done d). ⊎_elim
      (λ (child : Has (map (on_from w) cs) v). let from = has_map (on_from w) cs v child in subst (Before d) from.2 (before_trans d w (w ++ from.0 ∷ []) (is.ahead d w old (inl refl)) (grows w from.0)))
      (λ (later : Has rest v). is.ahead d v old (inr later))
      (has_append (map (on_from w) cs) rest v has_v))
      (λ (new : (w ≡ d) ⊎ ⊥). ⊎_elim
      (λ (child : Has (map (on_from w) cs) v). let from = has_map (on_from w) cs v child in subst (Before d) from.2 (subst (λ (s : List Call). Before s (w ++ from.0 ∷ [])) (itself d new) (grows w from.0)))
      (λ (later : Has rest v). subst (λ (s : List Call). Before s v) (append-nil w ∙ itself d new) (is.parts.0 v later []))
      (has_append (map (on_from w) cs) rest v has_v))
      (has_append done (w ∷ []) d has_d);
  parts = pairs_append Parts (map (on_from w) cs) rest (children_part w cs pairs) is.parts.1 (λ x y has_x has_y u. let from = has_map (on_from w) cs x has_x in subst (λ (s : List Call). Before (s ++ u) y) from.2 (subst (λ (s : List Call). Before s y) (sym (append_assoc w (from.0 ∷ []) u)) (is.parts.0 y has_y (from.0 ∷ u))));
}
  where
    itself : (d : List Call) → (w ≡ d) ⊎ ⊥ → w ≡ d
    itself d (inl same) = same
    itself d (inr none) = absurd none

pub preorder_begins : IsPreorder [] ([] ∷ [])
preorder_begins = record { sorted = tt; ahead = λ d w none has. absurd none; parts = ((λ y none. absurd none), tt) }

-- in the words of the definition
nat_itself : (n : ℕ) → Equal ≡ nat_cmp n n
nat_itself n = nat_cmp_is n n Equal refl

call_less : (c d : Call) → CallLess c d → call_cmp c d ≡ Less
call_less c d (inl less) = ap (λ o. ordering_then o (nat_cmp c.callee d.callee)) (sym (nat_cmp_is c.returns d.returns Less less))
call_less c d (inr less) = ap (λ o. ordering_then o (nat_cmp c.callee d.callee)) (sym (nat_cmp_is c.returns d.returns Equal less.0)) ∙ sym (nat_cmp_is c.callee d.callee Less less.1)

call_equal : (c d : Call) → c ≡ d → call_cmp c d ≡ Equal
call_equal c d same = ap (λ (x : Call). call_cmp c x) (sym same) ∙ ap (λ o. ordering_then o (nat_cmp c.callee c.callee)) (sym (nat_itself c.returns)) ∙ sym (nat_itself c.callee)

pub before_less : (a b : List Call) → Before a b → slice_cmp call_cmp a b ≡ Less
before_less [] [] none = absurd none
before_less [] (y ∷ b) one = refl
before_less (x ∷ a) [] none = absurd none
before_less (x ∷ a) (y ∷ b) (inl less) = ap (λ o. ordering_then o (slice_cmp call_cmp a b)) (call_less x y less)
before_less (x ∷ a) (y ∷ b) (inr less) = ap (λ o. ordering_then o (slice_cmp call_cmp a b)) (call_equal x y less.0) ∙ before_less a b less.1

pub same_equal : (a : List Call) → slice_cmp call_cmp a a ≡ Equal
same_equal [] = refl
same_equal (x ∷ a) = ap (λ o. ordering_then o (slice_cmp call_cmp a a)) (call_equal x x refl) ∙ same_equal a
