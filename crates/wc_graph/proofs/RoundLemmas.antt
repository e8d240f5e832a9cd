-- One round of the walk over the frames.
use Rattle.std.proofs.Common.{ℕ, ◌≡◌, ◌<◌, ◌≤◌, ◌⊎◌, inl, inr, ⊎_elim, Bool, List, [], ◌∷◌, ◌++◌, map, reverse, Option, Some, option_to_list, length, refl, sym, ap, subst, ◌∙◌, arith}
use Rattle.std.specs.List.{slice_get}
use Rattle.std.proofs.lemmas.List.{reverse-append, reverse-reverse}
use Rattle.wc_graph.specs.declared.frames.Frame.{Frame}
use Rattle.wc_graph.specs.declared.sources.Sources.{Sources}
use Rattle.wc_graph.specs.Inner.Codes.{AreFrames}
use Rattle.wc_graph.specs.Inner.Families.{AreFalling, IsFamily, key_at}
use Rattle.wc_graph.specs.Inner.Frames.{frame_at}
use Rattle.wc_graph.specs.Inner.Lists.{Has, Inside}
use Rattle.wc_graph.specs.Inner.Spreads.{IsMarked}
use Rattle.wc_graph.specs.Inner.Stated.{low, with_all}
use Rattle.wc_graph.specs.Inner.Walks.{IsWalkable, IsWalking}
use Rattle.wc_graph.proofs.RisingLemmas.{all_in, has_append, has_map}
use Rattle.wc_graph.proofs.WalkLemmas.{children, walking_goes_on, live_within}

pub no_items : {X : Type 0} (xs : List X) → length xs ≡ 0 → xs ≡ []
no_items [] none = refl
no_items (x ∷ xs) none = absurd (omega arith)

pub reverse_has : {X : Type 0} (xs : List X) (x : X) → Has (reverse xs) x → Has xs x
reverse_has [] x has = has
reverse_has {X} (y ∷ xs) x has = ⊎_elim
    (λ (later : Has (reverse xs) x). inr (reverse_has xs x later))
    (λ (first : (y ≡ x) ⊎ ⊥). ⊎_elim (λ (same : y ≡ x). inl same) (λ (none : ⊥). absurd none) first)
    (has_append (reverse xs) (y ∷ []) x (subst (λ (zs : List X). Has zs x) (reverse-append (y ∷ []) xs) has))

pub falling_has : (frames : List Frame) (numbers fall : List ℕ) → length frames ≤ 100000 → Inside (length frames) numbers → AreFalling frames numbers fall → (k : ℕ) → Has fall k → Has numbers k
falling_has frames numbers fall few inside falling k has =
    let keys : List ℕ = with_all [] (map (key_at frames) numbers) in
    let low_has : Has (map low keys) k = reverse_has (map low keys) k (subst (λ (xs : List ℕ). Has xs k) falling.are has) in
    let key = has_map low keys k low_has in
    ⊎_elim
    (λ (none : ⊥). absurd none)
    (λ (among : Has (map (key_at frames) numbers) key.0).
    let from = has_map (key_at frames) numbers key.0 among in
    let less : from.0 < length frames = inside from.0 from.1 in
    let is : key_at frames from.0 ≡ key.0 = from.2 in
    let low_is : low key.0 ≡ from.0 = omega (arith, is, less, few) in
    subst (Has numbers) (sym low_is ∙ key.2) from.1)
    (all_in [] (map (key_at frames) numbers) key.0 key.1)

module _ (frames : List Frame) (live : List Bool) (kids : Sources) (are : AreFrames frames) (few : length frames ≤ 100000) (family : IsFamily frames live (length frames) kids) (j : ℕ) (v : List ℕ) (at : slice_get kids.into j ≡ Some v) where
  kid : (k : ℕ) → Has v k → (k < length frames) × IsMarked live k × ((frame_at frames k).parent ≡ Some j)
  kid k has = family.there (k, Some j) ((family.are.into j v at k).0 has)

  pub kids_inside : Inside (length frames) v
  kids_inside k has = (kid k has).0

  every : (k : ℕ) → k < length frames → IsMarked live k → (frame_at frames k).parent ≡ Some j → Has v k
  every k less live_k parent = (family.are.into j v at k).1 (subst (λ (t : Option ℕ). Has family.edges (k, t)) parent (family.back k less live_k))

  module _ (fall : List ℕ) (falling : AreFalling frames v fall) where
    pub round : (entry : ℕ) → IsWalkable entry frames live → (listed work rest : List ℕ) → work ≡ rest ++ j ∷ [] → IsWalking entry frames live listed (reverse work) → IsWalking entry frames live (listed ++ j ∷ []) (reverse (rest ++ fall))
    round entry walkable listed work rest popped walking =
        let top : reverse work ≡ j ∷ reverse rest = ap reverse popped ∙ reverse-append rest (j ∷ []) in
        let rising : List ℕ = children entry frames live are few walkable j v (λ k has. let is = kid k has in (is.1, is.2)) falling.fits in
        let back : rising ++ reverse rest ≡ reverse (rest ++ fall) = ap (λ (xs : List ℕ). xs ++ reverse rest) (sym (ap reverse falling.are ∙ reverse-reverse rising)) ∙ sym (reverse-append rest fall) in
        subst (IsWalking entry frames live (listed ++ j ∷ [])) back
        (walking_goes_on entry frames live are few walkable j v (λ k has. let is = kid k has in (is.1, is.2)) falling.fits (λ k live_k parent. every k (live_within entry frames live are few walkable k live_k) live_k parent) listed (reverse rest)
        (subst (IsWalking entry frames live listed) top walking))

pub popped : {X : Type 0} (old new : List X) (r : Option X) (x : X) → old ≡ new ++ option_to_list r → r ≡ Some x → old ≡ new ++ x ∷ []
popped {X} old new r x is some = is ∙ ap (λ (o : Option X). new ++ option_to_list o) some
