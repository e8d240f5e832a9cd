-- That a part of a text of flow facts was read: the tokens behind it give there what all tokens gave before it.
use Rattle.std.specs.Prelude.{◌≡◌, ℕ, ◌<◌, Bool, if◌then◌else◌, List, [], ◌∷◌, ◌++◌, length, Option, IfOk, Result, Vec}
use Rattle.std.specs.declared.alloc.Global.{Global}
use Rattle.wc_model.specs.declared.flow_facts.Fact.{Fact}
use Rattle.wc_model.specs.declared.flow_facts.Term.{Term}
use Rattle.wc_f4.specs.declared.lookups.Lookup.{Lookup}
use Rattle.wc_f4.specs.declared.readers.Reader.{Reader}
use Rattle.wc_f4.specs.declared.stops.Stop.{Stop}
use Rattle.wc_f4.specs.Grammar.{Names}
use Rattle.wc_f4.specs.Places.{Answer, Goes, Owner, Part, Place, Side, address, after_address, after_term, answer, at_closing, behind, bound, bounded, ended, finish, first, listed, start, term, turn, whole, with_term, with_terms, within}
use Rattle.wc_f4.specs.Tokens.{Token, Placed}
use Rattle.wc_f4.specs.Views.{ahead, known, left}

-- the names, and the tokens to come
abbrev pub State : Type 0
State = Names × List Placed

-- something was taken from the tokens
abbrev pub Shortens : {X : Type 0} → Result X Stop → List Placed → List Placed → Type 0
Shortens result old new = IfOk result (λ _. length new < length old)

-- a part that stands at a place was read, and what follows stands behind it
abbrev pub Reads : {X : Type 0} → Place → (X → Place) → Result X Stop → State → State → Type 0
Reads place next result old new =
    (later : Place) (facts : List Fact) → Goes result (answer old.0 later place facts old.1) (λ x. answer new.0 later (next x) facts new.1)

-- the rest of a fact was read
abbrev pub ReadsFact : Place → Result Fact Stop → State → State → Type 0
ReadsFact place result old new =
    (later : Place) (facts : List Fact) → Goes result (answer old.0 later place facts old.1) (λ fact. answer new.0 later later (facts ++ fact ∷ []) new.1)

-- the end of a fact was read, at any place where nothing else may stand
abbrev pub ReadsEnd : Fact → Result Fact Stop → State → State → Type 0
ReadsEnd fact result old new = (place : Place) → ((t : Token) → turn old.0 place t ≡ at_closing fact t) → ReadsFact place result old new

-- the bound of any loop was read
abbrev pub ReadsBound : Result (Option ℕ) Stop → State → State → Type 0
ReadsBound result old new = (at : ℕ) → Reads (behind (bound at)) (λ most. behind (within (bounded at most))) result old new

-- the address of any fact was read
abbrev pub ReadsAddress : (Part → Place) → Result ℕ Stop → State → State → Type 0
ReadsAddress place result old new = (part : Part) → Reads (place part) (λ at. behind (after_address part at)) result old new

-- what stands behind one address of a list
abbrev pub after_one : Owner → List ℕ → Bool → Place
after_one owner addresses more = if more then address (listed owner addresses) else whole owner addresses

-- what stands behind one term of a sum
abbrev pub after_one_term : Side → List Term → Bool → Place
after_one_term side terms more = if more then term (with_terms side terms) else ended (with_terms side terms)

-- where a list of addresses begins, and where a call string may
abbrev pub before_list : Owner → Place
before_list owner = address (listed owner [])

abbrev pub before_within : Owner → Place
before_within owner = behind (within owner)

-- ---- the same of a look-up and a reader, as they were before the part and as they are behind it

abbrev pub TakesFact : Place → Result Fact Stop → Lookup → Reader → Lookup → Reader → Type 0
TakesFact place result names reader names' reader' = ReadsFact place result (ahead names reader) (ahead names' reader')

abbrev pub TakesAddress : (Part → Place) → Result ℕ Stop → Lookup → Reader → Lookup → Reader → Type 0
TakesAddress place result names reader names' reader' = ReadsAddress place result (ahead names reader) (ahead names' reader')

-- a term of either side was read
abbrev pub TakesTerm : (Side → Place) → Result Term Stop → Lookup → Reader → Lookup → Reader → Type 0
TakesTerm place result names reader names' reader' =
    (side : Side) → Reads (place side) (λ t. after_term (with_term side t)) result (ahead names reader) (ahead names' reader')

-- the terms of either side were read
abbrev pub TakesSum : Result (List Term) Stop → Lookup → Reader → Lookup → Reader → Type 0
TakesSum result names reader names' reader' =
    (side : Side) → Reads (term side) (λ terms. ended (with_terms side terms)) result (ahead names reader) (ahead names' reader')

-- a list of addresses was read, whatever it belongs to
abbrev pub TakesList : (Owner → Place) → Result (List ℕ) Stop → Lookup → Reader → Lookup → Reader → Type 0
TakesList place result names reader names' reader' =
    (owner : Owner) → Reads (place owner) (whole owner) result (ahead names reader) (ahead names' reader')

-- one more address of a list was read, and whether another one follows
abbrev pub AddsAddress : Vec ℕ Global → Vec ℕ Global → Result Bool Stop → Lookup → Reader → Lookup → Reader → Type 0
AddsAddress old new result names reader names' reader' =
    (owner : Owner) → Reads (address (listed owner old.items)) (after_one owner new.items) result (ahead names reader) (ahead names' reader')

-- one more term of a sum was read, and whether another one follows
abbrev pub AddsTerm : Vec Term Global → Vec Term Global → Result Bool Stop → Lookup → Reader → Lookup → Reader → Type 0
AddsTerm old new result names reader names' reader' =
    (side : Side) → Reads (term (with_terms side old.items)) (after_one_term side new.items) result (ahead names reader) (ahead names' reader')

-- one more fact of a text was read
abbrev pub AddsFact : {X : Type 0} → Vec Fact Global → Vec Fact Global → Result X Stop → Lookup → Reader → Lookup → Reader → Type 0
AddsFact old new result names reader names' reader' =
    Goes result (answer (known names) start start old.items (left reader)) (λ _. answer (known names') start start new.items (left reader'))

-- ---- what a whole text gives

abbrev pub all_of : State → Answer
all_of state = answer state.0 start start [] state.1

-- a fact alone
abbrev pub one_of : State → Answer
one_of state = answer state.0 finish first [] state.1
