-- The seats of the sessions, and the names that they hold.
use Rattle.std.proofs.Common.{◌≡◌, ◌≢◌, ℕ, zero, suc, ◌+◌, ◌*◌, ◌<◌, ◌≤◌, ◌==◌, Bool, true, false, not, cond, if◌then◌else◌, List, [], ◌∷◌, ◌++◌, length, set, Option, None, Some, refl, sym, ap, ◌∙◌, ⊎_elim, arith}
use Rattle.std.specs.List.{filter, list_any}
use Rattle.std.proofs.lemmas.Bool.{eqb-true}
use Rattle.std.proofs.lemmas.List.{get_or-set_same, get_or-set_other}
use Rattle.wc_model.specs.Workspace.Closures.{has_kind}
use Rattle.wc_core.proofs.TestLemmas.{or_cases}
use Rattle.wc_core.specs.Inner.Seats.{KnownSeat, all_names, no_seat, seat_at, with_seat}

pub seat_same : (session : ℕ) (seat : KnownSeat) (seats : List KnownSeat) → session < length seats → seat_at session (with_seat session seat seats) ≡ seat
seat_same session seat seats within = get_or-set_same seats session seat no_seat within

pub seat_other : (s session : ℕ) (seat : KnownSeat) (seats : List KnownSeat) → s ≢ session → seat_at s (with_seat session seat seats) ≡ seat_at s seats
seat_other s session seat seats apart = get_or-set_other seats session s seat no_seat apart

pub length-seats : (session : ℕ) (seat : KnownSeat) (seats : List KnownSeat) → length (with_seat session seat seats) ≡ length seats
length-seats session seat [] = refl
length-seats zero seat (s ∷ ss) = refl
length-seats (suc n) seat (s ∷ ss) = ap (λ m. suc m) (length-seats n seat ss)

pub names_with : (session : ℕ) (seat : KnownSeat) (seats : List KnownSeat) → session < length seats → all_names (with_seat session seat seats) + length (seat_at session seats).names ≡ all_names seats + length seat.names
names_with session seat [] within = absurd (omega arith)
names_with zero seat (s ∷ ss) within = omega arith
names_with (suc n) seat (s ∷ ss) within = omega (arith, names_with n seat ss (omega (arith, within)))

pub names_at : (session : ℕ) (seats : List KnownSeat) → length (seat_at session seats).names ≤ all_names seats
names_at session [] = omega arith
names_at zero (s ∷ ss) = omega arith
names_at (suc n) (s ∷ ss) = omega (arith, names_at n ss)

-- How many kinds of a list aren't had.
abbrev pub lacks : List ℕ → ℕ → Bool
lacks kinds k = not (has_kind k kinds)

abbrev pub count_lacks : List ℕ → List ℕ → ℕ
count_lacks kinds order = length (filter (lacks kinds) order)

count_case : (a b : Bool) (k : ℕ) (xs ys : List ℕ) → (a ≡ true → b ≡ true) → length xs ≤ length ys → length (cond a (k ∷ xs) xs) ≤ length (cond b (k ∷ ys) ys)
count_case true true k xs ys more le = omega (arith, le)
count_case false true k xs ys more le = omega (arith, le)
count_case false false k xs ys more le = le
count_case true false k xs ys more le = let is = more refl in cc

not_more : (a b : Bool) → (a ≡ true → b ≡ true) → not b ≡ true → not a ≡ true
not_more true b more is = let both = more refl in cc
not_more false b more is = refl

-- with more kinds fewer are lacking
pub lacks_fewer : (old new order : List ℕ) → ((k : ℕ) → has_kind k old ≡ true → has_kind k new ≡ true) → count_lacks new order ≤ count_lacks old order
lacks_fewer old new [] more = omega arith
lacks_fewer old new (k ∷ ks) more = count_case (lacks new k) (lacks old k) k (filter (lacks new) ks) (filter (lacks old) ks) (not_more (has_kind k old) (has_kind k new) (more k)) (lacks_fewer old new ks more)

fewer_case : (a b : Bool) (k : ℕ) (xs ys : List ℕ) → (a ≡ true → b ≡ true) → length xs + 1 ≤ length ys → length (cond a (k ∷ xs) xs) + 1 ≤ length (cond b (k ∷ ys) ys)
fewer_case true true k xs ys more le = omega (arith, le)
fewer_case false true k xs ys more le = omega (arith, le)
fewer_case false false k xs ys more le = le
fewer_case true false k xs ys more le = let is = more refl in cc

here_case : (a b : Bool) (k : ℕ) (xs ys : List ℕ) → a ≡ false → b ≡ true → length xs ≤ length ys → length (cond a (k ∷ xs) xs) + 1 ≤ length (cond b (k ∷ ys) ys)
here_case false true k xs ys p q le = omega (arith, le)
here_case true b k xs ys p q le = cc
here_case false false k xs ys p q le = cc

-- and one fewer at least where one that was lacking is had
pub lacks_one : (old new order : List ℕ) (kind : ℕ) → ((k : ℕ) → has_kind k old ≡ true → has_kind k new ≡ true) → has_kind kind order ≡ true → has_kind kind old ≡ false → has_kind kind new ≡ true → count_lacks new order + 1 ≤ count_lacks old order
lacks_one old new [] kind more among lacked had = cc
lacks_one old new (k ∷ ks) kind more among lacked had =
    ⊎_elim (λ (here : (k == kind) ≡ true).
    let at : k ≡ kind = eqb-true k kind here in
    here_case (lacks new k) (lacks old k) k (filter (lacks new) ks) (filter (lacks old) ks) (ap not (ap (λ j. has_kind j new) at ∙ had)) (ap not (ap (λ j. has_kind j old) at ∙ lacked)) (lacks_fewer old new ks more))
    (λ (later : has_kind kind ks ≡ true). fewer_case (lacks new k) (lacks old k) k (filter (lacks new) ks) (filter (lacks old) ks) (not_more (has_kind k old) (has_kind k new) (more k)) (lacks_one old new ks kind more later lacked had))
    (or_cases (k == kind) (has_kind kind ks) among)

-- where none is had all are lacking
pub lacks_all : (order : List ℕ) → count_lacks [] order ≡ length order
lacks_all [] = refl
lacks_all (k ∷ ks) = ap (λ n. suc n) (lacks_all ks)
