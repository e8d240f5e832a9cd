-- What a must state stands for.
use Rattle.std.proofs.Common.{ℕ, zero, suc, ◌≡◌, ◌<◌, ◌≤◌, ◌+◌, ◌-◌, ◌*◌, ◌==◌, min, max, Bool, true, false, List, [], ◌∷◌, ◌++◌, All, length, replicate, take, map, if◌then◌else◌, refl, sym, ap, subst, ◌∙◌, arith}
use Rattle.std.proofs.lemmas.List.{take_at, length-map}
use Rattle.std.proofs.lemmas.List.Sums.{sum_by-le}
use Rattle.wc_ages.specs.declared.slots.Slot.{Slot}
use Rattle.wc_ages.specs.Slots.{AreSlots, age_in, raised, rank_of}
use Rattle.wc_ages.specs.States.{IsJoinOf, MustHeld, must_ages}
use Rattle.wc_ages.proofs.JoinLemmas.{joined_age, joined_slots}
use Rattle.wc_model.specs.Cache.Ages.{Ages, MustPrecise, aged, must_accessed}

pub same_ages : (ways : ℕ) (f g : ℕ → ℕ) → ((y : ℕ) → f y ≡ g y) → (let a : Ages = record { ways = ways; age = f } in a) ≡ (let b : Ages = record { ways = ways; age = g } in b)
same_ages ways f g same = λ i. record { ways = ways; age = λ y. same y i }

at_ways : (mine : Bool) (ways rest : ℕ) → rest ≡ ways → (if mine then min ways rest else rest) ≡ ways
at_ways true ways rest is = omega arith
at_ways false ways rest is = is

pub fresh_age : (ways n m y : ℕ) → age_in ways (take n (replicate m (record { line = 0; age = ways }))) y ≡ ways
fresh_age ways zero m y = refl
fresh_age ways (suc n) zero y = refl
fresh_age ways (suc n) (suc m) y = at_ways (0 == y) ways (age_in ways (take n (replicate m (record { line = 0; age = ways }))) y) (fresh_age ways n m y)

pub joins : (a b c : MustHeld) → b.ways ≡ a.ways → c.ways ≡ a.ways → c.slots ≡ map (raised a.ways b.slots) a.slots → IsJoinOf MustPrecise (must_ages a) (must_ages b) (must_ages c)
joins a b c same kept is =
    let age : (y : ℕ) → age_in c.ways c.slots y ≡ max (age_in a.ways a.slots y) (age_in b.ways b.slots y) = λ y.
    ap (λ (n : ℕ). age_in n c.slots y) kept ∙ ap (λ (xs : List Slot). age_in a.ways xs y) is ∙ joined_age a.ways b.slots a.slots y
    ∙ ap (λ (n : ℕ). max (age_in a.ways a.slots y) (age_in n b.slots y)) (sym same) in
    record {
      above_self = (sym kept, λ y. omega (arith, age y));
      above_other = (same ∙ sym kept, λ y. omega (arith, age y));
      least = λ s p q. (kept ∙ p.0, λ y. omega (arith, age y, p.1 y, q.1 y));
    }

pub rank_small : (ways : ℕ) (slots : List Slot) → AreSlots ways slots → rank_of ways slots ≤ 64
rank_small ways slots held =
    let each : All (λ (s : Slot). ways - s.age ≤ 8) slots = λ k d within. omega (arith, held.few) in
    omega (arith, sum_by-le (λ (s : Slot). ways - s.age) 8 slots each, held.sized, held.few)

pub accessed_ages : (m old : MustHeld) (line : ℕ) (new rest : List Slot) → old ≡ m → length new ≡ old.ways → ((y : ℕ) → age_in old.ways new y ≡ aged (age_in old.ways old.slots line) (age_in old.ways old.slots) line y)
    → must_ages (record { ways = old.ways; slots = take old.ways (new ++ rest) }) ≡ must_accessed (must_ages m) line
accessed_ages m old line new rest is long ages =
    subst (λ (n : MustHeld). must_ages (record { ways = old.ways; slots = take old.ways (new ++ rest) }) ≡ must_accessed (must_ages n) line) is
    (same_ages old.ways (age_in old.ways (take old.ways (new ++ rest))) (must_accessed (must_ages old) line).age (λ y. ap (λ (xs : List Slot). age_in old.ways xs y) (take_at new rest old.ways long) ∙ ages y))

pub joined_held : (ways : ℕ) (slots other new rest : List Slot) → AreSlots ways slots → new ≡ map (raised ways other) slots → AreSlots ways (take ways (new ++ rest))
joined_held ways slots other new rest held is =
    let slots_are : AreSlots ways new = subst (AreSlots ways) (sym is) (joined_slots ways other slots held) in
    subst (AreSlots ways) (sym (take_at new rest ways slots_are.sized)) slots_are

pub joined_ages : (m old other_now other : MustHeld) (new rest : List Slot) → old ≡ m → other ≡ other_now → AreSlots old.ways old.slots → other_now.ways ≡ m.ways → new ≡ map (raised old.ways other.slots) old.slots
    → IsJoinOf MustPrecise (must_ages m) (must_ages other_now) (must_ages (record { ways = old.ways; slots = take old.ways (new ++ rest) }))
joined_ages m old other_now other new rest is other_is held same new_is =
    let long : length new ≡ old.ways = ap length new_is ∙ length-map old.slots (raised old.ways other.slots) ∙ held.sized in
    let now : MustHeld = record { ways = old.ways; slots = take old.ways (new ++ rest) } in
    let ways_are : other.ways ≡ old.ways = ap (λ (x : MustHeld). x.ways) other_is ∙ same ∙ sym (ap (λ (x : MustHeld). x.ways) is) in
    subst (λ (x : MustHeld). IsJoinOf MustPrecise (must_ages x) (must_ages other_now) (must_ages now)) is
    (subst (λ (x : MustHeld). IsJoinOf MustPrecise (must_ages old) (must_ages x) (must_ages now)) other_is
    (joins old other now ways_are refl (take_at new rest old.ways long ∙ new_is)))
