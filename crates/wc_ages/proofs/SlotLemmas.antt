-- Ages in slots: where a line is put, and what an access makes of them.
use Rattle.std.proofs.Common.{ℕ, zero, suc, ◌≡◌, ◌≢◌, ◌<◌, ◌≤◌, ◌+◌, ◌-◌, ◌*◌, ◌==◌, ◌&&◌, ◌⊎◌, inl, inr, ⊎_elim, min, max, Bool, true, false, if◌then◌else◌, List, [], ◌∷◌, ◌++◌, All, length, get_or, set, drop, take, map, refl, sym, ap, subst, ◌∙◌, arith, length-set}
use Rattle.std.specs.Prelude.{nat_le, nat_lt}
use Rattle.std.specs.List.{sum_by}
use Rattle.std.proofs.lemmas.Bool.{cases_eq, cases_lt, true≢false, false≢true}
use Rattle.std.proofs.lemmas.Bool.Decides.{nat_tests}
use Rattle.std.proofs.lemmas.List.{at_drop_more, at_drop_all, length-map, get_or-map, get_or_default, get_or-set_same, set-get_or}
use Rattle.std.proofs.lemmas.List.Edits.{map_over_more}
use Rattle.std.proofs.lemmas.List.Elements.{All-set}
use Rattle.std.proofs.lemmas.List.Sums.{sum_by-set, sum_by-cons, sum_by-le}
use Rattle.wc_ages.specs.declared.slots.Slot.{Slot}
use Rattle.wc_ages.specs.AgeLaws.{grown, grown_keeps}
use Rattle.wc_ages.specs.Slots.{AreSlots, age_in, one_below, younger, older, is_place, raised, rank_of, IsPlaceAt, IsRaising}
use Rattle.wc_model.specs.Cache.Ages.{aged}

-- one slot more
abbrev pub seen : Bool → ℕ → ℕ → ℕ
seen mine age rest = if mine then min age rest else rest

min_swaps : (mine : Bool) (s a rest : ℕ) → min a (seen mine s rest) ≡ seen mine s (min a rest)
min_swaps true s a rest = omega arith
min_swaps false s a rest = refl

age_from : (a w : ℕ) (slots : List Slot) (y : ℕ) → age_in (min a w) slots y ≡ min a (age_in w slots y)
age_from a w [] y = refl
age_from a w (s ∷ slots) y = ap (seen (s.line == y) s.age) (age_from a w slots y) ∙ sym (min_swaps (s.line == y) s.age a (age_in w slots y))

age_cons : (mine : Bool) (s a : ℕ) (slots : List Slot) (y : ℕ) → age_in (seen mine s a) slots y ≡ seen mine s (age_in a slots y)
age_cons true s a slots y = age_from s a slots y
age_cons false s a slots y = refl

pub age_more : (slots : List Slot) (i : ℕ) (d : Slot) (a y b : ℕ) → i < length slots → b ≡ seen ((get_or slots i d).line == y) (get_or slots i d).age a → age_in b (drop (i + 1) slots) y ≡ age_in a (drop i slots) y
age_more slots i d a y b within is =
    let s : Slot = get_or slots i d in
    ap (λ (n : ℕ). age_in n (drop (i + 1) slots) y) is ∙ age_cons (s.line == y) s.age a (drop (i + 1) slots) y ∙ sym (at_drop_more (λ (xs : List Slot). age_in a xs y) slots i d within)

-- no age is above `ways`, and none above that of a slot of the line
seen_most : (mine : Bool) (s rest w : ℕ) → rest ≤ w → seen mine s rest ≤ w
seen_most true s rest w less = omega arith
seen_most false s rest w less = less

pub age_most : (ways : ℕ) (slots : List Slot) (y : ℕ) → age_in ways slots y ≤ ways
age_most ways [] y = omega arith
age_most ways (s ∷ slots) y = seen_most (s.line == y) s.age (age_in ways slots y) ways (age_most ways slots y)

seen_at : (line y s rest a : ℕ) → line ≡ y → s ≤ a → seen (line == y) s rest ≤ a
seen_at line y s rest a same less = grind (arith, nat_tests)

pub age_at : (ways : ℕ) (slots : List Slot) (k : ℕ) (d : Slot) (y : ℕ) → k < length slots → (get_or slots k d).line ≡ y → age_in ways slots y ≤ (get_or slots k d).age
age_at ways [] k d y within is = absurd (omega arith)
age_at ways (s ∷ slots) zero d y within is = seen_at s.line y s.age (age_in ways slots y) s.age is (omega arith)
age_at ways (s ∷ slots) (suc k) d y within is = seen_most (s.line == y) s.age (age_in ways slots y) (get_or slots k d).age (age_at ways slots k d y (omega arith) is)

-- a line that is there has its age in one of its slots
abbrev pub Holds : List Slot → ℕ → ℕ → Type 0
Holds slots y age = (k : ℕ) × (k < length slots) × ((d : Slot) → ((get_or slots k d).line ≡ y) × ((get_or slots k d).age ≡ age))

holds_later : (s : Slot) (slots : List Slot) (y age : ℕ) → Holds slots y age → Holds (s ∷ slots) y age
holds_later s slots y age h = (suc h.0, omega (arith, h.1), h.2)

seen_cases : (line y s rest : ℕ) → ((line ≡ y) × (seen (line == y) s rest ≡ s)) ⊎ (seen (line == y) s rest ≡ rest)
seen_cases line y s rest = ⊎_elim
    (λ (same : line ≡ y). ⊎_elim
    (λ (less : s < rest). inl (same, let e : seen (line == y) s rest ≡ s = grind (arith, nat_tests) in e))
    (λ (more : rest ≤ s). inr (let e : seen (line == y) s rest ≡ rest = grind (arith, nat_tests) in e))
    (cases_lt s rest))
    (λ (apart : line ≢ y). inr (let e : seen (line == y) s rest ≡ rest = grind (arith, nat_tests) in e))
    (cases_eq line y)

pub age_found : (ways : ℕ) (slots : List Slot) (y : ℕ) → age_in ways slots y < ways → Holds slots y (age_in ways slots y)
age_found ways [] y less = absurd (omega arith)
age_found ways (s ∷ slots) y less = ⊎_elim
    (λ (first : (s.line ≡ y) × (age_in ways (s ∷ slots) y ≡ s.age)). (0, omega arith, λ d. (first.0, sym first.1)))
    (λ (later : age_in ways (s ∷ slots) y ≡ age_in ways slots y). subst (λ (n : ℕ). Holds (s ∷ slots) y n) (sym later) (holds_later s slots y (age_in ways slots y) (age_found ways slots y (omega (arith, later)))))
    (seen_cases s.line y s.age (age_in ways slots y))

-- not all slots are younger than `w` where fewer are
one_or : (w a : ℕ) → (a < w) × (one_below w a ≡ 1) ⊎ ((w ≤ a) × (one_below w a ≡ 0))
one_or w a = ⊎_elim
    (λ (less : a < w). inl (less, let e : one_below w a ≡ one_below 1 0 = grind (arith, nat_tests) in e))
    (λ (more : w ≤ a). inr (more, let e : one_below w a ≡ one_below 0 0 = grind (arith, nat_tests) in e))
    (cases_lt a w)

pub old_slot : (w : ℕ) (slots : List Slot) → younger w slots < length slots → (k : ℕ) × (k < length slots) × ((d : Slot) → w ≤ (get_or slots k d).age)
old_slot w [] less = absurd (omega arith)
old_slot w (s ∷ slots) less =
    let e : younger w (s ∷ slots) ≡ one_below w s.age + younger w slots = sum_by-cons (λ (t : Slot). one_below w t.age) s slots in
    ⊎_elim
    (λ young. let later = old_slot w slots (omega (arith, less, e, young.1)) in (suc later.0, omega (arith, later.1), later.2))
    (λ old. (0, omega arith, λ d. old.0))
    (one_or w s.age)

-- Growth.
pub grown_yes : (limit a : ℕ) → a < limit → a + 1 ≡ grown limit a
grown_yes limit a less = grind (arith, nat_tests)

pub grown_no : (limit a : ℕ) → limit ≤ a → a ≡ grown limit a
grown_no limit a more = grind (arith, nat_tests)

older_yes : (limit : ℕ) (s : Slot) → s.age < limit → record s { age = s.age + 1 } ≡ older limit s
older_yes limit s less = ap (λ (n : ℕ). record s { age = n }) (grown_yes limit s.age less)

older_no : (limit : ℕ) (s : Slot) → limit ≤ s.age → s ≡ older limit s
older_no limit s more = ap (λ (n : ℕ). record s { age = n }) (grown_no limit s.age more)

-- a map in place, one slot on
pub map_next : (f : Slot → Slot) (old now : List Slot) (i : ℕ) (d : Slot) → i < length old → now ≡ map f (take i old) ++ drop i old → length now ≡ length old → set now i (f (get_or now i d)) ≡ map f (take (i + 1) old) ++ drop (i + 1) old
map_next f old now i d within is long = map_over_more f old now i (get_or now i d) within is (get_or_default now i d (get_or now i d) (omega (arith, long)))

pub grows_yes : (limit : ℕ) (old now : List Slot) (i : ℕ) (d : Slot) → i < length old → now ≡ map (older limit) (take i old) ++ drop i old → length now ≡ length old → (get_or now i d).age < limit
    → set now i (record (get_or now i d) { age = (get_or now i d).age + 1 }) ≡ map (older limit) (take (i + 1) old) ++ drop (i + 1) old
grows_yes limit old now i d within is long less = ap (λ (s : Slot). set now i s) (older_yes limit (get_or now i d) less) ∙ map_next (older limit) old now i d within is long

pub grows_no : (limit : ℕ) (old now : List Slot) (i : ℕ) (d : Slot) → i < length old → now ≡ map (older limit) (take i old) ++ drop i old → length now ≡ length old → limit ≤ (get_or now i d).age
    → now ≡ map (older limit) (take (i + 1) old) ++ drop (i + 1) old
grows_no limit old now i d within is long more = sym (set-get_or now i d) ∙ ap (λ (s : Slot). set now i s) (older_no limit (get_or now i d) more) ∙ map_next (older limit) old now i d within is long

-- A line has a place.
place_own : (ways line age : ℕ) (s : Slot) → age < ways → s.line ≡ line → s.age ≡ age → is_place ways line age s ≡ true
place_own ways line age s less own at = grind (arith, nat_tests)

place_free : (ways line age : ℕ) (s : Slot) → ways ≤ age → ways - 1 ≤ s.age → is_place ways line age s ≡ true
place_free ways line age s more old = grind (arith, nat_tests)

place_cases : (ways line age : ℕ) (s : Slot) → is_place ways line age s ≡ true → ((age < ways) × (s.line ≡ line) × (s.age ≡ age)) ⊎ ((ways ≤ age) × (ways - 1 ≤ s.age))
place_cases ways line age s is = ⊎_elim
    (λ (less : age < ways). inl (less, let e : s.line ≡ line = grind (arith, nat_tests) in e, let e : s.age ≡ age = grind (arith, nat_tests) in e))
    (λ (more : ways ≤ age). inr (more, let e : ways - 1 ≤ s.age = grind (arith, nat_tests) in e))
    (cases_lt age ways)

pub place_exists : (ways : ℕ) (slots : List Slot) (line age : ℕ) → AreSlots ways slots → age ≡ age_in ways slots line → (k : ℕ) × IsPlaceAt ways line age slots k
place_exists ways slots line age held is = ⊎_elim
    (λ (less : age < ways).
    let own = age_found ways slots line (omega (arith, is, less)) in
    (own.0, (own.1, λ d. place_own ways line age (get_or slots own.0 d) less (own.2 d).0 ((own.2 d).1 ∙ sym is))))
    (λ (more : ways ≤ age).
    let free = old_slot (ways - 1) slots (omega (arith, held.some, held.sized, held.counted (ways - 1) (omega arith))) in
    (free.0, (free.1, λ d. place_free ways line age (get_or slots free.0 d) more (free.2 d))))
    (cases_lt age ways)

-- A slot that hides no age of a line.
abbrev Hides : ℕ → ℕ → Slot → Type 0
Hides ways y s = (s.line ≢ y) ⊎ (ways ≤ s.age)

seen_old : (mine : Bool) (s rest : ℕ) → rest ≤ s → seen mine s rest ≡ rest
seen_old true s rest less = omega arith
seen_old false s rest less = refl

seen_hidden : (ways y rest : ℕ) (s : Slot) → Hides ways y s → rest ≤ ways → seen (s.line == y) s.age rest ≡ rest
seen_hidden ways y rest s hides less = ⊎_elim
    (λ (apart : s.line ≢ y). let e : seen (s.line == y) s.age rest ≡ rest = grind (arith, nat_tests) in e)
    (λ (old : ways ≤ s.age). seen_old (s.line == y) s.age rest (omega arith))
    hides

hidden_set : (ways : ℕ) (slots : List Slot) (p : ℕ) (new d : Slot) (y : ℕ) → Hides ways y new → Hides ways y (get_or slots p d) → age_in ways (set slots p new) y ≡ age_in ways slots y
hidden_set ways [] p new d y now was = refl
hidden_set ways (s ∷ slots) zero new d y now was = seen_hidden ways y (age_in ways slots y) new now (age_most ways slots y) ∙ sym (seen_hidden ways y (age_in ways slots y) s was (age_most ways slots y))
hidden_set ways (s ∷ slots) (suc p) new d y now was = ap (seen (s.line == y) s.age) (hidden_set ways slots p new d y now was)

-- Ages after growth.
grown_min : (limit a b : ℕ) → min (grown limit a) (grown limit b) ≡ grown limit (min a b)
grown_min limit a b = grind (arith, nat_tests)

seen_grown : (mine : Bool) (limit s rest : ℕ) → seen mine (grown limit s) (grown limit rest) ≡ grown limit (seen mine s rest)
seen_grown true limit s rest = grown_min limit s rest
seen_grown false limit s rest = refl

grown_age : (ways limit : ℕ) (slots : List Slot) (y : ℕ) → limit ≤ ways → age_in ways (map (older limit) slots) y ≡ grown limit (age_in ways slots y)
grown_age ways limit [] y less = grown_no limit ways less
grown_age ways limit (s ∷ slots) y less = ap (seen (s.line == y) (grown limit s.age)) (grown_age ways limit slots y less) ∙ seen_grown (s.line == y) limit s.age (age_in ways slots y)

pub not_same : (y line : ℕ) → y ≢ line → (y == line) ≡ false
not_same y line apart = grind (arith, nat_tests)

pub same_number : (y line : ℕ) → y ≡ line → (y == line) ≡ true
same_number y line same = grind (arith, nat_tests)

pub aged_other : (limit : ℕ) (age : ℕ → ℕ) (line y : ℕ) → y ≢ line → aged limit age line y ≡ grown limit (age y)
aged_other limit age line y apart = ap (λ (b : Bool). if b then 0 else grown limit (age y)) (not_same y line apart)

pub aged_same : (limit : ℕ) (age : ℕ → ℕ) (line y : ℕ) → y ≡ line → aged limit age line y ≡ 0
aged_same limit age line y same = ap (λ (b : Bool). if b then 0 else grown limit (age y)) (same_number y line same)

-- How many are younger, after growth.
one_low : (k limit a : ℕ) → suc k ≤ limit → one_below (suc k) (grown limit a) ≤ one_below k a
one_low k limit a low = grind (arith, nat_tests)

one_high : (k limit a : ℕ) → limit < k → one_below k (grown limit a) ≤ one_below k a
one_high k limit a high = grind (arith, nat_tests)

younger_map : (k j limit : ℕ) (slots : List Slot) → ((a : ℕ) → one_below k (grown limit a) ≤ one_below j a) → younger k (map (older limit) slots) ≤ younger j slots
younger_map k j limit [] less = omega arith
younger_map k j limit (s ∷ slots) less =
    let new = sum_by-cons (λ (t : Slot). one_below k t.age) (older limit s) (map (older limit) slots) in
    let old = sum_by-cons (λ (t : Slot). one_below j t.age) s slots in
    omega (arith, new, old, less s.age, younger_map k j limit slots less)

nothing_younger : (slots : List Slot) → younger 0 slots ≤ 0
nothing_younger [] = omega arith
nothing_younger (s ∷ slots) = let e = sum_by-cons (λ (t : Slot). one_below 0 t.age) s slots in let n : one_below 0 s.age ≤ 0 = grind (arith, nat_tests) in omega (arith, e, n, nothing_younger slots)

one_most : (k a : ℕ) → one_below k a ≤ 1
one_most k a = grind (arith, nat_tests)

one_here : (k a : ℕ) → a < k → 1 ≤ one_below k a
one_here k a less = grind (arith, nat_tests)

pub grown_most : (limit a ways : ℕ) → limit ≤ ways → a ≤ ways → grown limit a ≤ ways
grown_most limit a ways low less = grind (arith, nat_tests)

-- A line is fetched, and put into the slot at its place.
abbrev own_slot : ℕ → Slot
own_slot line = record { line = line; age = 0 }

pub nobody : Slot
nobody = record { line = 0; age = 0 }

older_at : (ways limit : ℕ) (slots : List Slot) (place : ℕ) → place < length slots → get_or (map (older limit) slots) place nobody ≡ older limit (get_or slots place nobody)
older_at ways limit slots place inside = get_or-map (older limit) slots place nobody nobody inside

hides_grown : (ways limit line y : ℕ) (s : Slot) → y ≢ line → ((limit < ways) × (s.line ≡ line) × (s.age ≡ limit)) ⊎ ((ways ≤ limit) × (ways - 1 ≤ s.age)) → Hides ways y (older limit s)
hides_grown ways limit line y s apart cases = ⊎_elim
    (λ mine. inl (λ (same : s.line ≡ y). apart (sym same ∙ mine.1)))
    (λ leaves. inr (let more : ways ≤ limit = leaves.0 in let last : ways - 1 ≤ s.age = leaves.1 in let e : ways ≤ grown limit s.age = grind (arith, nat_tests) in e))
    cases

pub fetched_age : (ways : ℕ) (slots : List Slot) (line limit place y : ℕ) → limit ≡ age_in ways slots line → place < length slots → ((d : Slot) → is_place ways line limit (get_or slots place d) ≡ true)
    → age_in ways (set (map (older limit) slots) place (own_slot line)) y ≡ aged limit (age_in ways slots) line y
fetched_age ways slots line limit place y is inside right =
    let grew : List Slot = map (older limit) slots in
    let room : place < length grew = omega (arith, length-map slots (older limit)) in
    let low : limit ≤ ways = omega (arith, is, age_most ways slots line) in
    let own : Slot = own_slot line in
    ⊎_elim
    (λ (same : y ≡ line).
    let here : get_or (set grew place own) place nobody ≡ own = get_or-set_same grew place own nobody room in
    let least = age_at ways (set grew place own) place nobody y (omega (arith, length-set grew place own)) (ap (λ (s : Slot). s.line) here ∙ sym same) in
    let zero_age : age_in ways (set grew place own) y ≡ 0 = omega (arith, least, ap (λ (s : Slot). s.age) here) in
    zero_age ∙ sym (aged_same limit (age_in ways slots) line y same))
    (λ (apart : y ≢ line).
    let was : Hides ways y (get_or grew place nobody) = subst (Hides ways y) (sym (older_at ways limit slots place inside)) (hides_grown ways limit line y (get_or slots place nobody) apart (place_cases ways line limit (get_or slots place nobody) (right nobody))) in
    hidden_set ways grew place own nobody y (inl (λ (e : line ≡ y). apart (sym e))) was ∙ grown_age ways limit slots y low ∙ sym (aged_other limit (age_in ways slots) line y apart))
    (cases_eq y line)

counted_low : (ways : ℕ) (slots : List Slot) (line limit place k : ℕ) → AreSlots ways slots → place < length slots → suc k ≤ limit → suc k ≤ ways → younger (suc k) (set (map (older limit) slots) place (own_slot line)) ≤ suc k
counted_low ways slots line limit place k held inside low within =
    let grew : List Slot = map (older limit) slots in
    let room : place < length grew = omega (arith, length-map slots (older limit)) in
    let sum = sum_by-set (λ (t : Slot). one_below (suc k) t.age) grew place (own_slot line) nobody room in
    let fewer = younger_map (suc k) k limit slots (λ a. one_low k limit a low) in
    omega (arith, sum, fewer, held.counted k (omega arith), one_most (suc k) 0)

counted_high : (ways : ℕ) (slots : List Slot) (line limit place k : ℕ) → AreSlots ways slots → place < length slots → (get_or slots place nobody).age ≡ limit → limit < k → k ≤ ways → younger k (set (map (older limit) slots) place (own_slot line)) ≤ k
counted_high ways slots line limit place k held inside at high within =
    let grew : List Slot = map (older limit) slots in
    let room : place < length grew = omega (arith, length-map slots (older limit)) in
    let sum = sum_by-set (λ (t : Slot). one_below k t.age) grew place (own_slot line) nobody room in
    let fewer = younger_map k k limit slots (λ a. one_high k limit a high) in
    let was : (get_or grew place nobody).age ≡ limit = ap (λ (s : Slot). s.age) (older_at ways limit slots place inside) ∙ ap (grown limit) at ∙ sym (grown_no limit limit (omega arith)) in
    let there : 1 ≤ one_below k (get_or grew place nobody).age = one_here k (get_or grew place nobody).age (omega (arith, was, high)) in
    omega (arith, sum, fewer, held.counted k within, one_most k 0, there)

counted_after : (ways : ℕ) (slots : List Slot) (line limit place k : ℕ) → AreSlots ways slots → place < length slots → is_place ways line limit (get_or slots place nobody) ≡ true → k ≤ ways → younger k (set (map (older limit) slots) place (own_slot line)) ≤ k
counted_after ways slots line limit place zero held inside right within = nothing_younger (set (map (older limit) slots) place (own_slot line))
counted_after ways slots line limit place (suc k) held inside right within = ⊎_elim
    (λ (low : limit < suc k). ⊎_elim
    (λ mine. counted_high ways slots line limit place (suc k) held inside mine.2 low within)
    (λ leaves. absurd (omega (arith, leaves.0, low, within)))
    (place_cases ways line limit (get_or slots place nobody) right))
    (λ (high : suc k ≤ limit). counted_low ways slots line limit place k held inside high within)
    (cases_lt limit (suc k))

capped_map : (ways limit : ℕ) (slots : List Slot) → limit ≤ ways → All (λ s. s.age ≤ ways) slots → All (λ s. s.age ≤ ways) (map (older limit) slots)
capped_map ways limit slots low all k d within =
    let inside : k < length slots = omega (arith, within, length-map slots (older limit)) in
    subst (λ (s : Slot). s.age ≤ ways) (sym (get_or-map (older limit) slots k nobody d inside)) (grown_most limit (get_or slots k nobody).age ways low (all k nobody inside))

pub fetched_slots : (ways : ℕ) (slots : List Slot) (line limit place : ℕ) → AreSlots ways slots → limit ≡ age_in ways slots line → place < length slots → ((d : Slot) → is_place ways line limit (get_or slots place d) ≡ true)
    → AreSlots ways (set (map (older limit) slots) place (own_slot line))
fetched_slots ways slots line limit place held is inside right =
    let grew : List Slot = map (older limit) slots in
    record {
      some = held.some;
      few = held.few;
      sized = length-set grew place (own_slot line) ∙ length-map slots (older limit) ∙ held.sized;
      capped = All-set (λ (s : Slot). s.age ≤ ways) grew place (own_slot line) (omega arith) (capped_map ways limit slots (omega (arith, is, age_most ways slots line)) held.capped);
      counted = λ k within. counted_after ways slots line limit place k held inside (right nobody) within;
    }

-- A line whose age is 0 already.
aged_zero : (f y line : ℕ) (same : Bool) → (same ≡ true → f ≡ 0) → f ≡ (if same then 0 else grown 0 f)
aged_zero f y line true zero_age = zero_age refl
aged_zero f y line false zero_age = grown_no 0 f (omega arith)

pub youngest : (age : ℕ → ℕ) (line y limit : ℕ) → limit ≡ age line → limit ≡ 0 → age y ≡ aged limit age line y
youngest age line y limit is none = ⊎_elim
    (λ (same : y ≡ line). ap age same ∙ sym is ∙ none ∙ sym (aged_same limit age line y same))
    (λ (apart : y ≢ line). grown_no limit (age y) (omega (arith, none)) ∙ sym (aged_other limit age line y apart))
    (cases_eq y line)
