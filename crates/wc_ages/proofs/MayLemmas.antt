-- What a may state stands for.
use Rattle.std.proofs.Common.{ℕ, zero, suc, ◌≡◌, ◌≢◌, ◌<◌, ◌≤◌, ◌+◌, ◌*◌, ◌^◌, ◌⊎◌, inl, inr, ⊎_elim, min, Bool, true, false, if◌then◌else◌, List, [], ◌∷◌, ◌++◌, All, length, get_or, set, take, drop, map, refl, sym, ap, subst, ◌∙◌, arith, length-set}
use Rattle.std.specs.List.{sum}
use Rattle.std.proofs.lemmas.Bool.{cases_eq, cases_lt, true≢false}
use Rattle.std.proofs.lemmas.Bool.Decides.{nat_tests}
use Rattle.std.proofs.lemmas.List.{length-map, get_or-map, get_or_past, get_or_default, get_or-set_same, get_or-set_other, set-get_or}
use Rattle.std.proofs.lemmas.List.Edits.{map_over_more}
use Rattle.std.proofs.lemmas.List.Elements.{All-set}
use Rattle.std.proofs.lemmas.List.Sums.{sum_by-set, sum_by-le}
use Rattle.wc_ages.specs.AgeLaws.{grown}
use Rattle.wc_ages.specs.States.{AreAges, IsJoinOf, MayHeld, may_ages, lowered, IsLowering}
use Rattle.wc_ages.proofs.MustLemmas.{same_ages}
use Rattle.wc_ages.proofs.SlotLemmas.{aged_same, aged_other, grown_yes, grown_no, grown_most}
use Rattle.wc_model.specs.Cache.Ages.{Ages, MayPrecise, aged, may_accessed}

-- Growth, one age on.
age_next : (limit : ℕ) (old now : List ℕ) (i : ℕ) → i < length old → now ≡ map (grown limit) (take i old) ++ drop i old → length now ≡ length old → set now i (grown limit (get_or now i 0)) ≡ map (grown limit) (take (i + 1) old) ++ drop (i + 1) old
age_next limit old now i within is long = map_over_more (grown limit) old now i (get_or now i 0) within is (get_or_default now i 0 (get_or now i 0) (omega (arith, long)))

pub ages_yes : (limit : ℕ) (old now : List ℕ) (i : ℕ) → i < length old → now ≡ map (grown limit) (take i old) ++ drop i old → length now ≡ length old → get_or now i 0 < limit → set now i (get_or now i 0 + 1) ≡ map (grown limit) (take (i + 1) old) ++ drop (i + 1) old
ages_yes limit old now i within is long less = ap (set now i) (grown_yes limit (get_or now i 0) less) ∙ age_next limit old now i within is long

pub ages_no : (limit : ℕ) (old now : List ℕ) (i : ℕ) → i < length old → now ≡ map (grown limit) (take i old) ++ drop i old → length now ≡ length old → limit ≤ get_or now i 0 → set now i (get_or now i 0) ≡ map (grown limit) (take (i + 1) old) ++ drop (i + 1) old
ages_no limit old now i within is long more = ap (set now i) (grown_no limit (get_or now i 0) more) ∙ age_next limit old now i within is long

-- A line is fetched.
pub fetched_ages : (ways : ℕ) (ages : List ℕ) (line limit : ℕ) → AreAges ways ages → limit ≤ ways → AreAges ways (set (map (grown limit) ages) line 0)
fetched_ages ways ages line limit held low =
    let grew : List ℕ = map (grown limit) ages in
    record {
      some = held.some;
      few = held.few;
      capped = All-set (λ (a : ℕ). a ≤ ways) grew line 0 (omega arith) (λ k d within.
          let inside : k < length ages = omega (arith, within, length-map ages (grown limit)) in
          subst (λ (a : ℕ). a ≤ ways) (sym (get_or-map (grown limit) ages k 0 d inside)) (grown_most limit (get_or ages k 0) ways low (held.capped k 0 inside)));
      short = omega (arith, length-set grew line (let z : ℕ = 0 in z), length-map ages (grown limit), held.short);
    }

age_grown : (ways limit : ℕ) (ages : List ℕ) (y : ℕ) → limit ≤ ways → get_or (map (grown limit) ages) y ways ≡ grown limit (get_or ages y ways)
age_grown ways limit ages y low = ⊎_elim
    (λ (inside : y < length ages). get_or-map (grown limit) ages y ways ways inside)
    (λ (past : length ages ≤ y). get_or_past (map (grown limit) ages) y ways (omega (arith, length-map ages (grown limit))) ∙ grown_no limit ways low ∙ ap (grown limit) (sym (get_or_past ages y ways past)))
    (cases_lt y (length ages))

age_fetched : (ways : ℕ) (ages : List ℕ) (line limit y : ℕ) → limit ≤ ways → line < length ages → get_or (set (map (grown limit) ages) line 0) y ways ≡ aged limit (λ l. get_or ages l ways) line y
age_fetched ways ages line limit y low inside =
    let grew : List ℕ = map (grown limit) ages in
    let age : ℕ → ℕ = λ l. get_or ages l ways in
    ⊎_elim
    (λ (same : y ≡ line). ap (λ (n : ℕ). get_or (set grew line 0) n ways) same ∙ get_or-set_same grew line 0 ways (omega (arith, length-map ages (grown limit))) ∙ sym (aged_same limit age line y same))
    (λ (apart : y ≢ line). get_or-set_other grew line y 0 ways apart ∙ age_grown ways limit ages y low ∙ sym (aged_other limit age line y apart))
    (cases_eq y line)

pub may_after : (m old : MayHeld) (line limit : ℕ) (new : List ℕ) → old ≡ m → line < length old.ages → limit ≡ min (get_or old.ages line 0 + 1) old.ways → new ≡ set (map (grown limit) old.ages) line 0
    → may_ages (record { ways = old.ways; ages = new }) ≡ may_accessed (may_ages m) line
may_after m old line limit new is inside limit_as new_is =
    let same : limit ≡ min (get_or old.ages line old.ways + 1) old.ways = limit_as ∙ ap (λ (n : ℕ). min (n + 1) old.ways) (get_or_default old.ages line 0 old.ways inside) in
    let low : limit ≤ old.ways = omega (arith, limit_as) in
    subst (λ (x : MayHeld). may_ages (record { ways = old.ways; ages = new }) ≡ may_accessed (may_ages x) line) is
    (same_ages old.ways (λ y. get_or new y old.ways) (may_accessed (may_ages old) line).age (λ y.
    ap (λ (xs : List ℕ). get_or xs y old.ways) new_is ∙ age_fetched old.ways old.ages line limit y low inside ∙ ap (λ (n : ℕ). aged n (λ l. get_or old.ages l old.ways) line y) same))

-- A join.
lowered_none : (ages : List ℕ) → lowered ages [] ≡ ages
lowered_none [] = refl
lowered_none (a ∷ ages) = refl

pub lowered_next : (old other : List ℕ) (i : ℕ) → i < length other → length other ≡ length old
    → set (lowered old (take i other)) i (min (get_or (lowered old (take i other)) i 0) (get_or other i 0)) ≡ lowered old (take (suc i) other)
lowered_next old [] i within long = absurd (omega arith)
lowered_next [] (b ∷ other) i within long = absurd (omega arith)
lowered_next (a ∷ old) (b ∷ other) zero within long = ap (λ (xs : List ℕ). min a b ∷ xs) (sym (lowered_none old))
lowered_next (a ∷ old) (b ∷ other) (suc i) within long = ap (λ (xs : List ℕ). min a b ∷ xs) (lowered_next old other i (omega arith) (omega arith))

pub length-lowered : (old other : List ℕ) → length (lowered old other) ≡ length old
length-lowered [] other = refl
length-lowered (a ∷ old) [] = refl
length-lowered (a ∷ old) (b ∷ other) = ap suc (length-lowered old other)

pub lowered_age : (ways : ℕ) (old other : List ℕ) (y : ℕ) → length other ≡ length old → get_or (lowered old other) y ways ≡ min (get_or old y ways) (get_or other y ways)
lowered_age ways [] [] y long = omega arith
lowered_age ways [] (b ∷ other) y long = absurd (omega arith)
lowered_age ways (a ∷ old) [] y long = absurd (omega arith)
lowered_age ways (a ∷ old) (b ∷ other) zero long = refl
lowered_age ways (a ∷ old) (b ∷ other) (suc y) long = lowered_age ways old other y (omega arith)

pub lowering_more : (other : List ℕ) (i : ℕ) (old now new : List ℕ) (changed one both : Bool) → i < length other → length other ≡ length old → IsLowering other i old now changed
    → new ≡ set now i (min (get_or now i 0) (get_or other i 0)) → (one ≡ false → new ≡ now) → (one ≡ true → get_or other i 0 < get_or now i 0) → both ≡ (if one then true else changed)
    → IsLowering other (i + 1) old new both
lowering_more other i old now new changed one both within long lowering is same less =
    let step : set now i (min (get_or now i 0) (get_or other i 0)) ≡ lowered old (take (i + 1) other) =
    ap (λ (xs : List ℕ). set xs i (min (get_or xs i 0) (get_or other i 0))) lowering.so_far ∙ lowered_next old other i within long ∙ ap (λ (n : ℕ). lowered old (take n other)) (let e : suc i ≡ i + 1 = omega arith in e) in
    let room : i < length now = omega (arith, ap length lowering.so_far, length-lowered old (take i other), long, within) in
    let total = sum_by-set (λ (a : ℕ). a) now i (min (get_or now i 0) (get_or other i 0)) 0 room in
    let lower : one ≡ true → sum new < sum now = λ yes. omega (arith, ap sum is, total, less yes) in
    elim one as (λ b. (b ≡ false → new ≡ now) → (b ≡ true → sum new < sum now) → both ≡ (if b then true else changed) → IsLowering other (i + 1) old new both) [
      | true ↦ λ _ falls all. record {
        so_far = is ∙ step;
        same = λ no. absurd (true≢false (sym all ∙ no));
        falls = λ _. elim changed as (λ b. (b ≡ false → now ≡ old) → (b ≡ true → sum now < sum old) → sum new < sum old) [
          | true ↦ λ _ before. omega (arith, falls refl, before refl)
          | false ↦ λ kept _. omega (arith, falls refl, ap sum (kept refl))
        ] lowering.same lowering.falls;
      }
      | false ↦ λ kept _ all. record {
        so_far = is ∙ step;
        same = λ no. kept refl ∙ lowering.same (sym all ∙ no);
        falls = λ yes. omega (arith, ap sum (kept refl), lowering.falls (sym all ∙ yes));
      }
    ] same lower

pub lowered_ages : (ways : ℕ) (old other new : List ℕ) → AreAges ways old → length other ≡ length old → new ≡ lowered old other → AreAges ways new
lowered_ages ways old other new held long is =
    let count : length new ≡ length old = ap length is ∙ length-lowered old other in
    record {
      some = held.some;
      few = held.few;
      capped = λ k d within.
          let inside : k < length old = omega (arith, within, count) in
          let at : get_or new k ways ≡ min (get_or old k ways) (get_or other k ways) = ap (λ (xs : List ℕ). get_or xs k ways) is ∙ lowered_age ways old other k long in
          omega (arith, get_or_default new k d ways within, at, held.capped k ways inside);
      short = omega (arith, count, held.short);
    }

pub may_joined : (m old other_now other : MayHeld) (new : List ℕ) → old ≡ m → other ≡ other_now → other_now.ways ≡ m.ways → length other.ages ≡ length old.ages → new ≡ lowered old.ages other.ages
    → IsJoinOf MayPrecise (may_ages m) (may_ages other_now) (may_ages (record { ways = old.ways; ages = new }))
may_joined m old other_now other new is other_is same long new_is =
    let now : MayHeld = record { ways = old.ways; ages = new } in
    let ways_are : other.ways ≡ old.ways = ap (λ (x : MayHeld). x.ways) other_is ∙ same ∙ sym (ap (λ (x : MayHeld). x.ways) is) in
    let age : (y : ℕ) → get_or new y old.ways ≡ min (get_or old.ages y old.ways) (get_or other.ages y other.ways) = λ y.
    ap (λ (xs : List ℕ). get_or xs y old.ways) new_is ∙ lowered_age old.ways old.ages other.ages y long ∙ ap (λ (n : ℕ). min (get_or old.ages y old.ways) (get_or other.ages y n)) (sym ways_are) in
    subst (λ (x : MayHeld). IsJoinOf MayPrecise (may_ages x) (may_ages other_now) (may_ages now)) is
    (subst (λ (x : MayHeld). IsJoinOf MayPrecise (may_ages old) (may_ages x) (may_ages now)) other_is (record {
      above_self = (refl, λ y. omega (arith, age y));
      above_other = (ways_are, λ y. omega (arith, age y));
      least = λ s p q. (p.0, λ y. omega (arith, age y, p.1 y, q.1 y));
    }))

pub sum_small : (ways : ℕ) (ages : List ℕ) → AreAges ways ages → sum ages < 2 ^ 36
sum_small ways ages held =
    let each : All (λ (a : ℕ). a ≤ 8) ages = λ k d within. omega (arith, held.few, held.capped k d within) in
    omega (arith, sum_by-le (λ (a : ℕ). a) 8 ages each, held.short)
