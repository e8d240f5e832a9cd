-- What the values of `Must` and `May` stand for.
use Rattle.std.specs.Prelude.{ℕ, ◌≡◌, ◌≤◌, ◌<◌, ◌^◌, min, Bool, true, false, nat_lt, List, [], ◌∷◌, All, length, slice_index, slice_index_or, slice_set, take}
use Rattle.std.specs.List.{sum}
use Rattle.wc_ages.specs.declared.slots.Slot.{Slot}
use Rattle.wc_ages.specs.Slots.{age_in, rank_of}
use Rattle.wc_model.specs.Cache.Ages.{Ages, MustPrecise, MayPrecise}

pub record MustHeld : Type 0 where
  pub ways : ℕ
  pub slots : List Slot

pub record MayHeld : Type 0 where
  pub ways : ℕ
  pub ages : List ℕ

abbrev pub must_ages : MustHeld → Ages
must_ages m = record { ways = m.ways; age = age_in m.ways m.slots }

-- of the lines from 0 on; those past the last one are absent
abbrev pub may_ages : MayHeld → Ages
may_ages m = record { ways = m.ways; age = λ line. slice_index_or m.ages line m.ways }

abbrev pub holds_line : Ages → ℕ → Bool
holds_line a line = nat_lt (a.age line) a.ways

abbrev pub must_rank : MustHeld → ℕ
must_rank m = rank_of m.ways m.slots

abbrev pub may_rank : MayHeld → ℕ
may_rank m = sum m.ages

pub record AreAges (ways : ℕ) (ages : List ℕ) : Type 0 where
  pub some : 1 ≤ ways
  pub few : ways ≤ 8
  pub capped : All (λ age. age ≤ ways) ages
  pub short : length ages < 2 ^ 32

-- the most precise state that is at most as precise as both
module _ (precise : Ages → Ages → Type 0) where
  pub record IsJoinOf (a b joined : Ages) : Type 0 where
    pub above_self : precise a joined
    pub above_other : precise b joined
    pub least : (c : Ages) → precise a c → precise b c → precise joined c

abbrev pub IsMustJoin : MustHeld → MustHeld → MustHeld → Type 0
IsMustJoin old other new = IsJoinOf MustPrecise (must_ages old) (must_ages other) (must_ages new)

abbrev pub IsMayJoin : MayHeld → MayHeld → MayHeld → Type 0
IsMayJoin old other new = IsJoinOf MayPrecise (may_ages old) (may_ages other) (may_ages new)

-- each age and the other one at its place: the smaller one
abbrev pub lowered : List ℕ → List ℕ → List ℕ
lowered [] other = []
lowered (a ∷ ages) [] = a ∷ ages
lowered (a ∷ ages) (b ∷ other) = min a b ∷ lowered ages other

-- one age is lowered to the other one
pub record IsLoweredAt (other : List ℕ) (place : ℕ) (old new : List ℕ) (changed : Bool) : Type 0 where
  pub ages : new ≡ slice_set old place (min (slice_index old place) (slice_index other place))
  pub same : changed ≡ false → new ≡ old
  pub less : changed ≡ true → slice_index other place < slice_index old place

-- a join went over the first ages, `number` of them
pub record IsLowering (other : List ℕ) (number : ℕ) (old new : List ℕ) (changed : Bool) : Type 0 where
  pub so_far : new ≡ lowered old (take number other)
  pub same : changed ≡ false → new ≡ old
  pub falls : changed ≡ true → sum new < sum old
