-- A name that is taken from a session's seat.
use Rattle.std.proofs.Common.{◌≡◌, ℕ, zero, suc, ◌+◌, ◌<◌, List, [], ◌∷◌, ◌++◌, All, length, get_or, refl, sym, ap, subst, ◌∙◌, arith, length-append}
use Rattle.std.proofs.lemmas.List.{length_push}
use Rattle.wc_core.specs.Inner.Seats.{IsNameTaken, KnownSeat, seat_at, with_seat}
use Rattle.wc_core.proofs.SeatLemmas.{seat_same}

pub with_twice : (session : ℕ) (a b : KnownSeat) (seats : List KnownSeat) → with_seat session a (with_seat session b seats) ≡ with_seat session a seats
with_twice session a b [] = refl
with_twice zero a b (s ∷ ss) = refl
with_twice (suc n) a b (s ∷ ss) = ap (λ l. s ∷ l) (with_twice n a b ss)

abbrev pub IsTakenFrom : ℕ → List KnownSeat → List KnownSeat → List ℕ → Type 0
IsTakenFrom session old new name = (s : KnownSeat) × IsNameTaken (seat_at session old) s name × (new ≡ with_seat session s old)

pub last_all : (P : List ℕ → Type 0) (xs : List (List ℕ)) (y : List ℕ) → All P (xs ++ y ∷ []) → P y
last_all P [] y all = all 0 y (omega arith)
last_all P (x ∷ xs) y all = last_all P xs y (λ k d within. all (suc k) d (omega (arith, within)))

pub front_all : (P : List ℕ → Type 0) (xs : List (List ℕ)) (y : List ℕ) → All P (xs ++ y ∷ []) → All P xs
front_all P [] y all k d within = absurd (omega (arith, within))
front_all P (x ∷ xs) y all zero d within = all 0 d (omega arith)
front_all P (x ∷ xs) y all (suc k) d within = front_all P xs y (λ j e less. all (suc j) e (omega (arith, less))) k d (omega (arith, within))

pub taken_fewer : (old new : KnownSeat) (name : List ℕ) → IsNameTaken old new name → length new.names + 1 ≡ length old.names
taken_fewer old new name taken = omega (arith, ap (λ (ns : List (List ℕ)). length ns) taken.names, length-append new.names (name ∷ []))

module _ (session : ℕ) (old new : List KnownSeat) (name : List ℕ) (place : session < length old) (taken : IsTakenFrom session old new name) where
  pub seat_left : seat_at session new ≡ taken.0
  seat_left = ap (seat_at session) taken.2 ∙ seat_same session taken.0 old place

  pub name_fewer : length (seat_at session new).names + 1 ≡ length (seat_at session old).names
  name_fewer = ap (λ (s : KnownSeat). length s.names + 1) seat_left ∙ taken_fewer (seat_at session old) taken.0 name taken.1

  pub name_is : (own : List ℕ) → All (λ n. n ≡ own) (seat_at session old).names → name ≡ own
  name_is own all = last_all (λ n. n ≡ own) taken.0.names name (subst (λ (ns : List (List ℕ)). All (λ n. n ≡ own) ns) taken.1.names all)
