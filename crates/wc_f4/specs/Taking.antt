-- Tokens that are read one at a time.
use Rattle.std.specs.Prelude.{◌≡◌, ℕ, Bool, true, false, List, ◌∷◌, Option, None, Some, Result, Ok, Err}
use Rattle.wc_f4.specs.declared.stops.Stop.{Stop}
use Rattle.wc_f4.specs.declared.stops.Stop.TheVariants.{Bad}
use Rattle.wc_f4.specs.Tokens.{Token, Placed, text_end}

-- the token stands first, at the place
abbrev pub Heads : Token → ℕ → List Placed → Type 0
Heads t place ts = (rest : List Placed) × (ts ≡ (t, place) ∷ rest)

-- a token of another kind stands first, at the place
abbrev pub IsOther : {X : Type 0} → (X → Token) → ℕ → List Placed → Type 0
IsOther is place old = (t : Token) × Heads t place old × ((x : _) → t ≡ is x → ⊥)

-- the first token is read, or isn't of the kind that is wanted
abbrev pub Takes : {X : Type 0} → (X → Token) → Result X Stop → List Placed → List Placed → Type 0
Takes is (Ok x) old new = (place : ℕ) × (old ≡ (is x, place) ∷ new)
Takes is (Err (Bad place)) old new = IsOther is place old
Takes is (Err _) old new = ⊥

-- the first token is read, if it is of the kind
abbrev pub TakesAny : {X : Type 0} → (X → Token) → Option X → List Placed → List Placed → Type 0
TakesAny is (Some x) old new = (place : ℕ) × (old ≡ (is x, place) ∷ new)
TakesAny is None old new = (new ≡ old) × ((place : ℕ) × IsOther is place old)

-- the first token is read, if it is this one
abbrev pub TakesThis : Token → Bool → List Placed → List Placed → Type 0
TakesThis wanted true old new = (place : ℕ) × (old ≡ (wanted, place) ∷ new)
TakesThis wanted false old new = (new ≡ old) × ((place : ℕ) × IsOther {X = Unit {0}} (λ _. wanted) place old)

-- the end of the text stands first
abbrev pub StandsAtEnd : Bool → List Placed → Type 0
StandsAtEnd true ts = (place : ℕ) × Heads text_end place ts
StandsAtEnd false ts = (t : Token) × (place : ℕ) × Heads t place ts × (t ≡ text_end → ⊥)

abbrev pub map_ok : {X Y : Type 0} → (X → Y) → Result X Stop → Result Y Stop
map_ok f (Ok x) = Ok (f x)
map_ok f (Err stop) = Err stop
