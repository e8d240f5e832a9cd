-- One frame more with its open functions, and what the sets say of a call stack.
use Rattle.std.proofs.Common.{ℕ, ◌≡◌, ◌<◌, ◌≤◌, ◌↔◌, ◌⊎◌, inl, inr, ⊎_elim, ◌==◌, ◌||◌, Bool, true, false, IsTrue, List, [], ◌∷◌, ◌++◌, Option, None, Some, IfSome, length, refl, sym, ap, subst, ◌∙◌, arith}
use Rattle.std.specs.List.{list_any, slice_get}
use Rattle.std.proofs.lemmas.Bool.{false≢true, eqb-true, eq-eqb}
use Rattle.std.proofs.lemmas.List.{length_push, length-append}
use Rattle.std.proofs.lemmas.Option.{same_Some, slice_get_within}
use Rattle.wc_model.proofs.Places.{get_left, get_push_cases, get_within}
use Rattle.wc_model.specs.Program.Positions.{Call}
use Rattle.wc_graph.specs.declared.keys.Branch.{Branch}
use Rattle.wc_graph.specs.Inner.Keys.{AreBranches, IsIn, HasKey, after}
use Rattle.wc_graph.proofs.KeysLemmas.{in_grown, in_shrunk, none_in, get_front}
use Rattle.wc_graph.specs.declared.frames.Frame.{Frame}
use Rattle.wc_graph.specs.declared.frames.Way.TheVariants.{Call as CallTo}
use Rattle.wc_graph.specs.Inner.Codes.{AreFrames}
use Rattle.wc_graph.specs.Inner.Frames.{HasStack, frame_of}
use Rattle.wc_graph.specs.Inner.Numbers.{IsKept}
use Rattle.wc_graph.specs.Inner.Opened.{IsOpenIn, IsBelow, AreOpenedOf, reopens}
use Rattle.wc_graph.proofs.StatedLemmas.{same_bool}

open_grown : (bs more : List Branch) (rs : List ℕ) (r : ℕ) (parent : Option ℕ) (key : ℕ) → IsOpenIn bs rs parent key → IsOpenIn (bs ++ more) (rs ++ r ∷ []) parent key
open_grown bs more rs r None key is = is
open_grown bs more rs r (Some j) key is = (is.0, get_left rs (r ∷ []) j is.0 is.1, in_grown bs more key is.2)

open_shrunk : (frames : List Frame) (bs more : List Branch) (rs : List ℕ) (r : ℕ) (parent : Option ℕ) (key : ℕ) → AreOpenedOf frames bs rs → IfSome parent (λ j. j < length rs) → IsOpenIn (bs ++ more) (rs ++ r ∷ []) parent key → IsOpenIn bs rs parent key
open_shrunk frames bs more rs r None key are less is = is
open_shrunk frames bs more rs r (Some j) key are less is =
    let at : slice_get rs j ≡ Some is.0 = get_front rs (r ∷ []) j is.0 less is.1 in
    let short : is.0 < length bs = are.inside j is.0 at in
    (is.0, at, in_shrunk bs more key are.are (omega (arith, short)) is.2)

below_open : (bs : List Branch) (rs : List ℕ) (parent below : Option ℕ) (key : ℕ) → IsBelow rs parent below → IsIn bs key key below → IsOpenIn bs rs parent key
below_open bs rs None below key is in_it = none_in bs key is in_it
below_open bs rs (Some j) below key is in_it = (is.0, is.1, subst (IsIn bs key key) is.2 in_it)

open_below : (bs : List Branch) (rs : List ℕ) (parent below : Option ℕ) (key : ℕ) → IsBelow rs parent below → IsOpenIn bs rs parent key → IsIn bs key key below
open_below bs rs None below key is none = absurd none
open_below bs rs (Some j) below key is some = subst (IsIn bs key key) (sym is.2) (subst (λ (r : ℕ). IsIn bs key key (Some r)) (same_Some some.0 is.0 (sym some.1 ∙ is.1)) some.2)

pub short_parent : (frames : List Frame) (rs : List ℕ) (k : ℕ) (f : Frame) → AreFrames frames → slice_get frames k ≡ Some f → k ≤ length rs → IfSome f.parent (λ j. j < length rs)
short_parent frames rs k f are at less = by f.parent (are.below k f at)
  where
    by : (o : Option ℕ) → IfSome o (λ j. j < k) → IfSome o (λ j. j < length rs)
    by None is = tt
    by (Some j) is = omega (arith, is)

pub below_inside : (frames : List Frame) (bs : List Branch) (rs : List ℕ) (parent below : Option ℕ) → AreOpenedOf frames bs rs → IsBelow rs parent below → after below ≤ length bs
below_inside frames bs rs None below are is = omega (arith, ap after is)
below_inside frames bs rs (Some j) below are is = let short : is.0 < length bs = are.inside j is.0 is.1 in omega (arith, short, ap after is.2)

module _ (frames : List Frame) (bs new : List Branch) (rs : List ℕ) (f : Frame) (below : Option ℕ) (root : ℕ) (frames_are : AreFrames frames) (are : AreOpenedOf frames bs rs) (at : slice_get frames (length rs) ≡ Some f) (is_below : IsBelow rs f.parent below) (has : HasKey bs new below f.callee f.callee root) where
  open_all : AreOpenedOf frames (bs ++ has.more) (rs ++ root ∷ [])
  open_all = record {
    are = subst AreBranches has.grown has.are;
    few = omega (arith, length_push rs root, slice_get_within frames (length rs) f at);
    inside = λ k r is. ⊎_elim
        (λ (old : slice_get rs k ≡ Some r). let short : r < length bs = are.inside k r old in omega (arith, short, length-append bs has.more))
        (λ last. subst (λ (n : ℕ). n < length (bs ++ has.more)) last.1 (subst (λ (xs : List Branch). root < length xs) has.grown has.inside))
        (get_push_cases rs root k r is);
    of = λ k r g is at_k key. ⊎_elim
        (λ (old : slice_get rs k ≡ Some r).
        let short : r < length bs = are.inside k r old in
        let both = are.of k r g old at_k key in
        let within : k < length rs = slice_get_within rs k r old in (
          λ in_new. ⊎_elim (λ (opens : IsOpenIn bs rs g.parent key). inl (open_grown bs has.more rs root g.parent key opens)) (λ (same : key ≡ g.callee). inr same) (both.0 (in_shrunk bs has.more key are.are (omega (arith, short)) in_new)),
          λ either. in_grown bs has.more key (both.1 (⊎_elim (λ (opens : IsOpenIn (bs ++ has.more) (rs ++ root ∷ []) g.parent key). inl (open_shrunk frames bs has.more rs root g.parent key are (short_parent frames rs k g frames_are at_k (omega (arith, within))) opens)) (λ (same : key ≡ g.callee). inr same) either)),
        ))
        (λ (last : (k ≡ length rs) × (root ≡ r)).
        let one : f ≡ g = same_Some f g (sym at ∙ ap (slice_get frames) (sym last.0) ∙ at_k) in
        subst (λ (x : Frame). IsIn (bs ++ has.more) key key (Some r) ↔ (IsOpenIn (bs ++ has.more) (rs ++ root ∷ []) x.parent key ⊎ (key ≡ x.callee))) one (subst (λ (n : ℕ). IsIn (bs ++ has.more) key key (Some n) ↔ (IsOpenIn (bs ++ has.more) (rs ++ root ∷ []) f.parent key ⊎ (key ≡ f.callee))) last.1 (own key)))
        (get_push_cases rs root k r is);
  }
    where
      own : (key : ℕ) → IsIn (bs ++ has.more) key key (Some root) ↔ (IsOpenIn (bs ++ has.more) (rs ++ root ∷ []) f.parent key ⊎ (key ≡ f.callee))
      own key =
          let both = has.is key key (λ same. same) in (
            λ in_new. ⊎_elim
                (λ (old : IsIn bs key key below). inl (open_grown bs has.more rs root f.parent key (below_open bs rs f.parent below key is_below old)))
                (λ (same : key ≡ f.callee). inr same)
                (both.0 (subst (λ (xs : List Branch). IsIn xs key key (Some root)) (sym has.grown) in_new)),
            λ either. subst (λ (xs : List Branch). IsIn xs key key (Some root)) has.grown (both.1 (⊎_elim
                (λ (opens : IsOpenIn (bs ++ has.more) (rs ++ root ∷ []) f.parent key). inl (open_below bs rs f.parent below key is_below (open_shrunk frames bs has.more rs root f.parent key are (short_parent frames rs (length rs) f frames_are at (omega arith)) opens)))
                (λ (same : key ≡ f.callee). inr same)
                either)),
          )

  pub opened_more : (roots : List ℕ) → roots ≡ rs ++ root ∷ [] → AreOpenedOf frames new roots
  opened_more roots is = subst (λ (xs : List ℕ). AreOpenedOf frames new xs) (sym is) (subst (λ (xs : List Branch). AreOpenedOf frames xs (rs ++ root ∷ [])) (sym has.grown) open_all)

-- more frames
pub opened_kept : (old new : List Frame) (bs : List Branch) (rs : List ℕ) → IsKept old new → length old ≤ length new → AreOpenedOf old bs rs → AreOpenedOf new bs rs
opened_kept old new bs rs stays longer are = record {
  are = are.are;
  few = omega (arith, are.few);
  inside = are.inside;
  of = λ k r f is at key.
      let within : k < length rs = slice_get_within rs k r is in
      let found = get_within old k (omega (arith, are.few, within)) in
      let one : found.0 ≡ f = same_Some found.0 f (sym (stays k found.0 found.1) ∙ at) in
      are.of k r f is (found.1 ∙ ap Some one) key;
}

-- the set of a frame has the functions of its stack
abbrev IsOpenAt : ℕ → List Call → ℕ → Type 0
IsOpenAt entry [] key = key ≡ entry
IsOpenAt entry (c ∷ cs) key = IsOpenAt entry cs key ⊎ (key ≡ c.callee)

module _ (frames : List Frame) (bs : List Branch) (rs : List ℕ) (entry : ℕ) (frames_are : AreFrames frames) (are : AreOpenedOf frames bs rs) (key : ℕ) where
  open_stack : (k root : ℕ) (calls : List Call) → HasStack entry frames k calls → slice_get rs k ≡ Some root → IsIn bs key key (Some root) ↔ IsOpenAt entry calls key
  open_stack k root [] is at =
      let both = are.of k root (frame_of None (record { returns = 0; callee = entry })) at is key in
      (λ in_it. ⊎_elim (λ (none : ⊥). absurd none) (λ (same : key ≡ entry). same) (both.0 in_it), λ same. both.1 (inr same))
  open_stack k root (c ∷ cs) is at =
      let both = are.of k root (frame_of (Some is.0) c) at is.1 key in
      let lower : is.0 < k = frames_are.below k (frame_of (Some is.0) c) is.1 in
      let found = get_within rs is.0 (omega (arith, lower, slice_get_within rs k root at)) in (
        λ in_it. ⊎_elim
            (λ (opens : IsOpenIn bs rs (Some is.0) key). inl ((open_stack is.0 opens.0 cs is.2 opens.1).0 opens.2))
            (λ (same : key ≡ c.callee). inr same)
            (both.0 in_it),
        λ either. both.1 (⊎_elim
            (λ (opens : IsOpenAt entry cs key). inl (found.0, found.1, (open_stack is.0 found.0 cs is.2 found.1).1 opens))
            (λ (same : key ≡ c.callee). inr same)
            either),
      )

or_cases : (s t : Bool) → (s || t) ≡ true → (s ≡ true) ⊎ (t ≡ true)
or_cases true t is = inl refl
or_cases false t is = inr is

or_left : (s t : Bool) → s ≡ true → (s || t) ≡ true
or_left true t is = refl
or_left false t is = absurd (false≢true is)

or_right : (s t : Bool) → t ≡ true → (s || t) ≡ true
or_right true t is = refl
or_right false t is = is

test_open : (entry : ℕ) (calls : List Call) (key : ℕ) → (key == entry || list_any (λ c. c.callee == key) calls) ≡ true → IsOpenAt entry calls key
test_open entry [] key is = ⊎_elim (λ (same : (key == entry) ≡ true). eqb-true key entry same) (λ (none : false ≡ true). absurd (false≢true none)) (or_cases (key == entry) false is)
test_open entry (c ∷ cs) key is = ⊎_elim
    (λ (same : (key == entry) ≡ true). inl (test_open entry cs key (or_left (key == entry) (list_any (λ x. x.callee == key) cs) same)))
    (λ (rest : (c.callee == key || list_any (λ x. x.callee == key) cs) ≡ true). ⊎_elim
    (λ (one : (c.callee == key) ≡ true). inr (sym (eqb-true c.callee key one)))
    (λ (later : list_any (λ x. x.callee == key) cs ≡ true). inl (test_open entry cs key (or_right (key == entry) (list_any (λ x. x.callee == key) cs) later)))
    (or_cases (c.callee == key) (list_any (λ x. x.callee == key) cs) rest))
    (or_cases (key == entry) (c.callee == key || list_any (λ x. x.callee == key) cs) is)

open_test : (entry : ℕ) (calls : List Call) (key : ℕ) → IsOpenAt entry calls key → (key == entry || list_any (λ c. c.callee == key) calls) ≡ true
open_test entry [] key is = or_left (key == entry) false (eq-eqb key entry is)
open_test entry (c ∷ cs) key (inl opens) = ⊎_elim
    (λ (same : (key == entry) ≡ true). or_left (key == entry) (c.callee == key || list_any (λ x. x.callee == key) cs) same)
    (λ (later : list_any (λ x. x.callee == key) cs ≡ true). or_right (key == entry) (c.callee == key || list_any (λ x. x.callee == key) cs) (or_right (c.callee == key) (list_any (λ x. x.callee == key) cs) later))
    (or_cases (key == entry) (list_any (λ x. x.callee == key) cs) (open_test entry cs key opens))
open_test entry (c ∷ cs) key (inr same) = or_right (key == entry) (c.callee == key || list_any (λ x. x.callee == key) cs) (or_left (c.callee == key) (list_any (λ x. x.callee == key) cs) (eq-eqb c.callee key (sym same)))

pub call_test : (frames : List Frame) (bs : List Branch) (rs : List ℕ) (entry : ℕ) (k root callee returns : ℕ) (calls : List Call) (t : Bool) → AreFrames frames → AreOpenedOf frames bs rs → slice_get rs k ≡ Some root → (t ≡ true ↔ IsIn bs callee callee (Some root)) → HasStack entry frames k calls → t ≡ reopens entry calls (CallTo callee returns)
call_test frames bs rs entry k root callee returns calls t frames_are are at both stack =
    let opens = open_stack frames bs rs entry frames_are are callee k root calls stack at in
    same_bool t (callee == entry || list_any (λ c. c.callee == callee) calls)
    (λ yes. open_test entry calls callee (opens.0 (both.0 yes)))
    (λ yes. both.1 (opens.1 (test_open entry calls callee yes)))

pub test_is : (t : Bool) (P : Type 0) → (IsTrue t ↔ P) → t ≡ true ↔ P
test_is true P both = (λ yes. both.0 refl, λ p. refl)
test_is false P both = (λ no. absurd (false≢true no), λ p. absurd (false≢true (both.1 p)))
