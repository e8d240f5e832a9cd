-- The whole cache after a fetch in one of its sets.
use Rattle.std.proofs.Common.{◌≡◌, ℕ, zero, suc, ◌<◌, Bool, true, false, ◌==◌, if◌then◌else◌, List, [], length, get_or, map, replicate, set, slice_index_or, refl, ap, subst, sym, ◌∙◌, arith}
use Rattle.std.proofs.lemmas.Bool.{eqb-true, eqb-false}
use Rattle.std.proofs.lemmas.List.{get_or-map, get_or-set_same, get_or-set_other, length-map, map-set}
use Rattle.wc_model.specs.Cache.Lru.{line_fetched}
use Rattle.wc_lru.specs.declared.sets.Set.{Set}
use Rattle.wc_lru.specs.Inner.Sets.{lines_of}

-- one set changes
pub set_fetched : (ways line : ℕ) (sets : List Set) (k s : ℕ) (old new : Set) → k < length sets → old ≡ get_or sets k old → lines_of new ≡ line_fetched ways line (lines_of old) →
    slice_index_or (map lines_of (set sets k new)) s [] ≡ (if s == k then line_fetched ways line (slice_index_or (map lines_of sets) s []) else slice_index_or (map lines_of sets) s [])
set_fetched ways line sets k s old new within is changed = by (s == k) refl
  where
    same : slice_index_or (map lines_of (set sets k new)) k [] ≡ line_fetched ways line (slice_index_or (map lines_of sets) k [])
    same = ap (λ ls. slice_index_or ls k []) (map-set lines_of sets k new) ∙ get_or-set_same (map lines_of sets) k (lines_of new) [] (omega (arith, length-map sets lines_of))
        ∙ changed ∙ ap (λ ls. line_fetched ways line ls) (ap lines_of is ∙ sym (get_or-map lines_of sets k old [] within))

    by : (b : Bool) → (s == k) ≡ b → slice_index_or (map lines_of (set sets k new)) s [] ≡ (if b then line_fetched ways line (slice_index_or (map lines_of sets) s []) else slice_index_or (map lines_of sets) s [])
    by true test = subst (λ (t : ℕ). slice_index_or (map lines_of (set sets k new)) t [] ≡ line_fetched ways line (slice_index_or (map lines_of sets) t [])) (sym (eqb-true s k test)) same
    by false test = ap (λ ls. slice_index_or ls s []) (map-set lines_of sets k new) ∙ get_or-set_other (map lines_of sets) k s (lines_of new) [] (eqb-false s k test)

-- a new cache holds nothing
pub none_held : (n s : ℕ) (sets : List Set) (empty : Set) → sets ≡ replicate n empty → lines_of empty ≡ [] → slice_index_or (map lines_of sets) s [] ≡ []
none_held n s sets empty are none = ap (λ ls. slice_index_or (map lines_of ls) s []) are ∙ at n s
  where
    at : (n s : ℕ) → slice_index_or (map lines_of (replicate n empty)) s [] ≡ []
    at zero s = refl
    at (suc n) zero = none
    at (suc n) (suc s) = at n s
