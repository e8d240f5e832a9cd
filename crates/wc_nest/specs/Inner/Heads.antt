-- What the first two heads of each class are, of the members so far.
use Rattle.std.specs.Prelude.{ℕ, ◌≡◌, ◌<◌, ◌≤◌, Bool, true, List, ◌++◌, Option, None, Some, Contains, slice_get, slice_index_or, length}
use Rattle.wc_model.specs.declared.graphs.Head.{Head}
use Rattle.wc_nest.specs.declared.heads.Pair.{Pair}
use Rattle.wc_nest.specs.declared.marking.Mark.{Mark}
use Rattle.wc_nest.specs.Inner.Levels.{class_number, is_entered, is_looped, no_heads, Listed}

module _ (marks : List Mark) (entered : List Bool) (start : ℕ) where
  -- an entered member of a class
  abbrev pub EntersIn : List ℕ → ℕ → ℕ → Type 0
  EntersIn members c h = Contains members h × (class_number marks h ≡ c) × (is_entered entered start h ≡ true)

  abbrev pub Noted : List ℕ → ℕ → Option ℕ → Option ℕ → Type 0
  Noted members c None second = (second ≡ None) × ((h : ℕ) → EntersIn members c h → ⊥)
  Noted members c (Some h) None = EntersIn members c h × ((r : ℕ) → EntersIn members c r → r ≡ h)
  Noted members c (Some h) (Some q) = EntersIn members c h × EntersIn members c q × (h < q) × ((r : ℕ) → r < q → EntersIn members c r → r ≡ h)

  abbrev pub AreNoted : List ℕ → List Pair → Type 0
  AreNoted members pairs = (c : ℕ) (pair : Pair) → slice_get pairs c ≡ Some pair → Noted members c pair.first pair.second

abbrev pub pair_at : List Pair → ℕ → Pair
pair_at pairs c = slice_index_or pairs c no_heads

module _ (marks : List Mark) (looped : List Bool) (pairs : List Pair) (old : Listed) where
  abbrev pub IsLeastOf : List ℕ → ℕ → ℕ → Type 0
  IsLeastOf members c p = Contains members p × (class_number marks p ≡ c) × ((q : ℕ) → Contains members q → class_number marks q ≡ c → p ≤ q)

  -- the class's head is listed at place `i`, inside of the loop that its least member was in
  pub record IsPlaceOf (members : List ℕ) (heads : List Head) (c i : ℕ) : Type 0 where
    pub later : length old.heads ≤ i
    pub least : ℕ
    pub is_least : IsLeastOf members c least
    pub loop : is_looped marks looped least ≡ true
    pub node : ℕ
    pub first : (pair_at pairs c).first ≡ Some node
    pub head_is : slice_get heads i ≡ Some (record { node = node; parent = slice_index_or old.inside least None })

  -- what is listed of the members so far
  pub record AreListed (members : List ℕ) (l : Listed) : Type 0 where
    pub grown : (added : List Head) × (l.heads ≡ old.heads ++ added)
    pub classes : length l.places ≡ length old.places
    pub nodes : length l.inside ≡ length old.inside
    pub place_of : (c i : ℕ) → slice_get l.places c ≡ Some (Some i) → IsPlaceOf members l.heads c i
    pub of_member : (p : ℕ) → Contains members p → is_looped marks looped p ≡ true → (i : ℕ) × (slice_get l.places (class_number marks p) ≡ Some (Some i))
    pub of_head : (i : ℕ) (x : Head) → length old.heads ≤ i → slice_get l.heads i ≡ Some x → (c : ℕ) × (slice_get l.places c ≡ Some (Some i))
    pub ordered : (c d i j p q : ℕ) → slice_get l.places c ≡ Some (Some i) → slice_get l.places d ≡ Some (Some j) → i < j → IsLeastOf members c p → IsLeastOf members d q → p < q
    pub in_loop : (p : ℕ) → Contains members p → is_looped marks looped p ≡ true → slice_get l.inside p ≡ slice_get l.places (class_number marks p)
    pub outside : (p : ℕ) → (Contains members p → is_looped marks looped p ≡ true → ⊥) → slice_get l.inside p ≡ slice_get old.inside p
