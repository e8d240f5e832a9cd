-- What a join makes of slots.
use Rattle.std.proofs.Common.{ℕ, zero, suc, ◌≡◌, ◌≢◌, ◌<◌, ◌≤◌, ◌+◌, ◌-◌, ◌*◌, ◌==◌, ◌&&◌, ◌⊎◌, inl, inr, ⊎_elim, min, max, Bool, true, false, if◌then◌else◌, List, [], ◌∷◌, ◌++◌, All, length, get_or, set, drop, take, map, refl, sym, ap, subst, ◌∙◌, arith, length-set}
use Rattle.std.specs.Prelude.{nat_le, nat_lt}
use Rattle.std.specs.List.{sum_by}
use Rattle.std.proofs.lemmas.Bool.{cases_eq, cases_lt, true≢false, false≢true}
use Rattle.std.proofs.lemmas.Bool.Decides.{nat_tests}
use Rattle.std.proofs.lemmas.List.{at_drop_more, at_drop_all, length-map, get_or-map, get_or_default, get_or-set_same, set-get_or}
use Rattle.std.proofs.lemmas.List.Edits.{map_over_more}
use Rattle.std.proofs.lemmas.List.Elements.{All-set}
use Rattle.std.proofs.lemmas.List.Sums.{sum_by-set, sum_by-cons, sum_by-le}
use Rattle.wc_ages.specs.declared.slots.Slot.{Slot}
use Rattle.wc_ages.specs.AgeLaws.{grown, grown_keeps}
use Rattle.wc_ages.specs.Slots.{AreSlots, age_in, one_below, younger, older, is_place, raised, rank_of, IsPlaceAt, IsRaising}
use Rattle.wc_model.specs.Cache.Ages.{aged}
use Rattle.wc_ages.proofs.SlotLemmas.{seen, same_number, not_same, nobody, map_next, age_most}

-- A join.
max_min : (a b o : ℕ) → min (max a o) (max b o) ≡ max (min a b) o
max_min a b o = omega arith

seen_raised : (line y s rest o other : ℕ) → (line ≡ y → o ≡ other) → seen (line == y) (max s o) (max rest other) ≡ max (seen (line == y) s rest) other
seen_raised line y s rest o other same = ⊎_elim
    (λ (own : line ≡ y). let e : (line == y) ≡ true = same_number line y own in let f : o ≡ other = same own in
    ap (λ (b : Bool). seen b (max s o) (max rest other)) e ∙ ap (λ (n : ℕ). min (max s n) (max rest other)) f ∙ max_min s rest other ∙ sym (ap (λ (b : Bool). max (seen b s rest) other) e))
    (λ (apart : line ≢ y). let e : (line == y) ≡ false = not_same line y apart in
    ap (λ (b : Bool). seen b (max s o) (max rest other)) e ∙ sym (ap (λ (b : Bool). max (seen b s rest) other) e))
    (cases_eq line y)

pub joined_age : (ways : ℕ) (other slots : List Slot) (y : ℕ) → age_in ways (map (raised ways other) slots) y ≡ max (age_in ways slots y) (age_in ways other y)
joined_age ways other [] y = omega (arith, age_most ways other y)
joined_age ways other (s ∷ slots) y =
    ap (seen (s.line == y) (max s.age (age_in ways other s.line))) (joined_age ways other slots y) ∙ seen_raised s.line y s.age (age_in ways slots y) (age_in ways other s.line) (age_in ways other y) (λ (own : s.line ≡ y). ap (age_in ways other) own)

one_raised : (k a b : ℕ) → a ≤ b → one_below k b ≤ one_below k a
one_raised k a b less = grind (arith, nat_tests)

younger_raised : (k ways : ℕ) (other slots : List Slot) → younger k (map (raised ways other) slots) ≤ younger k slots
younger_raised k ways other [] = omega arith
younger_raised k ways other (s ∷ slots) =
    let new = sum_by-cons (λ (t : Slot). one_below k t.age) (raised ways other s) (map (raised ways other) slots) in
    let old = sum_by-cons (λ (t : Slot). one_below k t.age) s slots in
    omega (arith, new, old, one_raised k s.age (max s.age (age_in ways other s.line)) (omega arith), younger_raised k ways other slots)

pub joined_slots : (ways : ℕ) (other slots : List Slot) → AreSlots ways slots → AreSlots ways (map (raised ways other) slots)
joined_slots ways other slots held = record {
  some = held.some;
  few = held.few;
  sized = length-map slots (raised ways other) ∙ held.sized;
  capped = λ k d within.
      let inside : k < length slots = omega (arith, within, length-map slots (raised ways other)) in
      let s : Slot = get_or slots k nobody in
      subst (λ (t : Slot). t.age ≤ ways) (sym (get_or-map (raised ways other) slots k nobody d inside)) (omega (arith, held.capped k nobody inside, age_most ways other s.line));
  counted = λ k within. omega (arith, held.counted k within, younger_raised k ways other slots);
}

-- a join went over one slot more
pub raise_same : (ways : ℕ) (other slots : List Slot) (i : ℕ) (d : Slot) (age : ℕ) → age ≡ max (get_or slots i d).age (age_in ways other (get_or slots i d).line) → age ≤ (get_or slots i d).age → slots ≡ set slots i (raised ways other (get_or slots i d))
raise_same ways other slots i d age is less =
    let s : Slot = get_or slots i d in
    let same : s.age ≡ max s.age (age_in ways other s.line) = omega (arith, is, less) in
    sym (set-get_or slots i d) ∙ ap (λ (n : ℕ). set slots i (record s { age = n })) same

pub raising_more : (ways : ℕ) (other : List Slot) (i : ℕ) (old now new : List Slot) (changed one both : Bool) → i < length old → length now ≡ length old → IsRaising ways other i old now changed
    → ((d : Slot) → new ≡ set now i (raised ways other (get_or now i d))) → (one ≡ false → new ≡ now) → (one ≡ true → (d : Slot) → (get_or now i d).age < age_in ways other (get_or now i d).line) → both ≡ (if one then true else changed)
    → IsRaising ways other (i + 1) old new both
raising_more ways other i old now new changed one both within long raising is same greater tells =
    let so_far = is nobody ∙ map_next (raised ways other) old now i nobody within raising.so_far long in
    let x : Slot = get_or now i nobody in
    let sum = sum_by-set (λ (t : Slot). ways - t.age) now i (raised ways other x) nobody (omega (arith, long, within)) in
    let lower : one ≡ true → rank_of ways new < rank_of ways now = λ yes.
    let more = greater yes nobody in
    omega (arith, ap (rank_of ways) (is nobody), sum, more, age_most ways other x.line) in
    elim one as (λ b. (b ≡ false → new ≡ now) → (b ≡ true → rank_of ways new < rank_of ways now) → both ≡ (if b then true else changed) → IsRaising ways other (i + 1) old new both) [
      | true ↦ λ _ falls all. record {
        so_far = so_far;
        same = λ no. absurd (true≢false (sym all ∙ no));
        falls = λ _. elim changed as (λ b. (b ≡ false → now ≡ old) → (b ≡ true → rank_of ways now < rank_of ways old) → rank_of ways new < rank_of ways old) [
          | true ↦ λ _ before. omega (arith, falls refl, before refl)
          | false ↦ λ kept _. omega (arith, falls refl, ap (rank_of ways) (kept refl))
        ] raising.same raising.falls;
      }
      | false ↦ λ kept _ all. record {
        so_far = so_far;
        same = λ no. kept refl ∙ raising.same (sym all ∙ no);
        falls = λ yes. omega (arith, ap (rank_of ways) (kept refl), raising.falls (sym all ∙ yes));
      }
    ] same lower tells
