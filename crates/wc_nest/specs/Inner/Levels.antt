-- What is done at a level once its classes are known, as recursions over its ways and members.
use Rattle.std.specs.Prelude.{ℕ, replicate, ◌≡◌, ◌<◌, ◌==◌, ◌&&◌, ◌||◌, not, Bool, true, false, if◌then◌else◌, List, [], ◌∷◌, ◌++◌, Option, None, Some, All, AllPairs, Contains, slice_get, slice_index_or, slice_set, length}
use Rattle.wc_model.specs.declared.graphs.Head.{Head}
use Rattle.wc_model.specs.declared.graphs.Step.{Step}
use Rattle.wc_model.specs.Flow.Walks.{AreSteps}
use Rattle.wc_nest.specs.declared.heads.Pair.{Pair}
use Rattle.wc_nest.specs.declared.listing.Listing.{Listing}
use Rattle.wc_nest.specs.declared.marking.Mark.{Mark}
use Rattle.wc_nest.specs.declared.marking.Mark.TheVariants.{New, Open, Done}
use Rattle.wc_nest.specs.declared.ways.Way.{Way}
use Rattle.wc_nest.specs.Inner.Classes.{AreEnds}
use Rattle.wc_nest.specs.Inner.Ways.{way_ends}

-- A level of the nest.

pub record IsWayOf (steps : List Step) (w : Way) : Type 0 where
  pub step : Step
  pub at : slice_get steps w.place ≡ Some step
  pub from : step.source ≡ w.source
  pub to : step.target ≡ Some w.target

-- `Leads` are the steps of a level: the ways stand for them, and the members, by rising number, are their ends
pub record IsLevel (nodes : ℕ) (Leads : ℕ → Option ℕ → Type 0) (steps : List Step) (members : List ℕ) (ways : List Way) : Type 0 where
  pub fine : AreSteps way_ends nodes ways
  pub rises : AllPairs (λ p q. p < q) members
  pub known : All (λ p. p < nodes) members
  pub ends : AreEnds ways members
  pub sound : (w : Way) → Contains ways w → IsWayOf steps w × Leads w.source (Some w.target)
  pub all : (i : ℕ) (s : Step) (q : ℕ) → slice_get steps i ≡ Some s → s.target ≡ Some q → Leads s.source (Some q) → (w : Way) × Contains ways w × (w.place ≡ i)

-- Flags: set at the place of each element that passes a test.

abbrev pub flag_one : {X : Type 0} → (X → Bool) → (X → ℕ) → List Bool → X → List Bool
flag_one test place flags x = if test x then slice_set flags (place x) true else flags

abbrev pub flag_all : {X : Type 0} → (X → Bool) → (X → ℕ) → List Bool → List X → List Bool
flag_all test place flags [] = flags
flag_all test place flags (x ∷ xs) = flag_all test place (flag_one test place flags x) xs

-- Where a class is entered.

abbrev pub number_of : Option Mark → ℕ
number_of None = 0
number_of (Some New) = 0
number_of (Some (Open _)) = 0
number_of (Some (Done c)) = c

-- the number of a node's class
abbrev pub class_number : List Mark → ℕ → ℕ
class_number marks p = number_of (slice_get marks p)

-- the way stays inside of a class
abbrev pub stays : List Mark → Way → Bool
stays marks w = class_number marks w.source == class_number marks w.target

abbrev pub enter_way : List Mark → List Bool → Way → List Bool
enter_way marks = flag_one (λ w. not (stays marks w)) (λ w. w.target)

abbrev pub enter_ways : List Mark → List Bool → List Way → List Bool
enter_ways marks = flag_all (λ w. not (stays marks w)) (λ w. w.target)

-- a node that is entered from outside of its class, or the start
abbrev pub is_entered : List Bool → ℕ → ℕ → Bool
is_entered entered start p = p == start || slice_index_or entered p false

-- Which classes have a way inside.

abbrev pub loop_way : List Mark → List Bool → Way → List Bool
loop_way marks = flag_one (stays marks) (λ w. class_number marks w.source)

abbrev pub loop_ways : List Mark → List Bool → List Way → List Bool
loop_ways marks = flag_all (stays marks) (λ w. class_number marks w.source)

abbrev pub is_looped : List Mark → List Bool → ℕ → Bool
is_looped marks looped p = slice_index_or looped (class_number marks p) false

-- The first two heads of each class.

abbrev pub no_heads : Pair
no_heads = record { first = None; second = None }

abbrev pub with_node : ℕ → Option ℕ → Option ℕ → Pair
with_node p None second = record { first = Some p; second = None }
with_node p (Some h) None = record { first = Some h; second = Some p }
with_node p (Some h) (Some q) = record { first = Some h; second = Some q }

abbrev pub note_node : List Mark → List Bool → ℕ → List Pair → ℕ → List Pair
note_node marks entered start pairs p =
    if is_entered entered start p then slice_set pairs (class_number marks p) (with_node p (slice_index_or pairs (class_number marks p) no_heads).first (slice_index_or pairs (class_number marks p) no_heads).second) else pairs

abbrev pub note_nodes : List Mark → List Bool → ℕ → List Pair → List ℕ → List Pair
note_nodes marks entered start pairs [] = pairs
note_nodes marks entered start pairs (p ∷ ps) = note_nodes marks entered start (note_node marks entered start pairs p) ps

-- the second head of the first member whose class has one
abbrev pub or_next : Option ℕ → Option ℕ → Option ℕ
or_next None next = next
or_next (Some q) next = Some q

abbrev pub second_of : List Mark → List Pair → List ℕ → Option ℕ
second_of marks pairs [] = None
second_of marks pairs (p ∷ ps) = or_next (slice_index_or pairs (class_number marks p) no_heads).second (second_of marks pairs ps)

-- The heads in order, and the place of the head of each member's class.

pub record Listed : Type 0 where
  pub heads : List Head
  pub inside : List (Option ℕ)
  pub places : List (Option ℕ)

abbrev pub listed : Listing → Listed
listed l = record { heads = l.heads.items; inside = l.inside.items; places = l.places.items }

-- the first member of a class lists its head, inside of the loop that it was in before
abbrev pub with_head : Listed → ℕ → ℕ → Option ℕ → Option ℕ → Listed
with_head l c p first (Some i) = l
with_head l c p None None = l
with_head l c p (Some h) None = record { heads = l.heads ++ (record { node = h; parent = slice_index_or l.inside p None }) ∷ []; inside = l.inside; places = slice_set l.places c (Some (length l.heads)) }

abbrev pub put_inside : Listed → ℕ → ℕ → Listed
put_inside l c p = record { heads = l.heads; inside = slice_set l.inside p (slice_index_or l.places c None); places = l.places }

abbrev pub list_class : Listed → ℕ → ℕ → Option ℕ → Listed
list_class l c p first = put_inside (with_head l c p first (slice_index_or l.places c None)) c p

abbrev pub list_node : List Mark → List Bool → List Pair → Listed → ℕ → Listed
list_node marks looped pairs l p =
    if is_looped marks looped p then list_class l (class_number marks p) p (slice_index_or pairs (class_number marks p) no_heads).first else l

abbrev pub list_nodes : List Mark → List Bool → List Pair → Listed → List ℕ → Listed
list_nodes marks looped pairs l [] = l
list_nodes marks looped pairs l (p ∷ ps) = list_nodes marks looped pairs (list_node marks looped pairs l p) ps

-- The back steps, and the ways of the next level.

abbrev pub is_back : List Mark → List Bool → ℕ → Way → Bool
is_back marks entered start w = stays marks w && is_entered entered start w.target

abbrev pub back_way : List Mark → List Bool → ℕ → List Bool → Way → List Bool
back_way marks entered start = flag_one (is_back marks entered start) (λ w. w.place)

abbrev pub back_ways : List Mark → List Bool → ℕ → List Bool → List Way → List Bool
back_ways marks entered start = flag_all (is_back marks entered start) (λ w. w.place)

abbrev pub is_inner : List Mark → List Bool → ℕ → Way → Bool
is_inner marks entered start w = stays marks w && not (is_entered entered start w.target)

-- a head at a class's place, and what a listing is with a member, and with all
abbrev pub add_head : Listed → ℕ → ℕ → Option ℕ → Listed
add_head l class p first = with_head l class p first (slice_index_or l.places class None)

abbrev pub Lists : List Mark → List Bool → List Pair → Listing → Listing → ℕ → Type 0
Lists marks looped pairs old new p = listed new ≡ list_node marks looped pairs (listed old) p

abbrev pub ListsAll : List Mark → List Bool → List Pair → Listing → Listing → List ℕ → Type 0
ListsAll marks looped pairs old new members = listed new ≡ list_nodes marks looped pairs (listed old) members

-- the first two heads of so many classes
abbrev pub first_heads : List Mark → List Bool → ℕ → ℕ → List ℕ → List Pair
first_heads marks entered start count members = note_nodes marks entered start (replicate count no_heads) members
