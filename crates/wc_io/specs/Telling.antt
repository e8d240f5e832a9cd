-- Which files a house tells, and which places are out.
use Rattle.std.specs.Prelude.{◌≡◌, ◌≢◌, ℕ, Bool, List, [], ◌∷◌, ◌++◌, Option, Some, IfSome, IsSome, IsTrue, ◌⊎◌, Result, Ok, Err, IfOk}
use Rattle.wc_io.specs.Rows.{Row, path_of}

-- the house tells all its files, or it tells this one
abbrev pub TellsFile : Bool → Option (List ℕ) → Type 0
TellsFile tells told = IsTrue tells ⊎ IsSome told

-- a house that tells all its files has this one
abbrev pub IsThere : Bool → Option (List ℕ) → Type 0
IsThere tells told = IsTrue tells → IsSome told

-- told bytes are what a source has left, or what a file is from now on
abbrev pub Gives : Option (List ℕ) → Option (List ℕ) → Type 0
Gives told left = IfSome told (λ bytes. left ≡ Some bytes)

-- of a file that the house tells, there is nothing now
abbrev pub IsEmptied : Bool → Option (List ℕ) → Option (List ℕ) → Type 0
IsEmptied tells told now = TellsFile tells told → now ≡ Some []

-- a new sink of such a file holds nothing
abbrev pub OpensEmpty : {T E : Type 0} → (T → Option (List ℕ)) → Result T E → Bool → Option (List ℕ) → Type 0
OpensEmpty held result tells told = IfOk result (λ s. IsEmptied tells told (held s))

-- the file of a path is emptied
abbrev pub Empties : Bool → List ℕ → (List ℕ → Option (List ℕ)) → (List ℕ → Option (List ℕ)) → Type 0
Empties tells path old new = IsEmptied tells (old path) (new path)

-- a told file is what its sink holds, where that is told
abbrev pub IsFilled : Option (List ℕ) → Option (List ℕ) → Option (List ℕ) → Type 0
IsFilled told held now = IfSome told (λ _. Gives held now)

-- no file has changed but that of the path
abbrev pub KeepsOthers : List ℕ → (List ℕ → Option (List ℕ)) → (List ℕ → Option (List ℕ)) → Type 0
KeepsOthers path old new = (p : List ℕ) → p ≢ path → new p ≡ old p

-- no file has changed but that of the row of a place
abbrev pub KeepsRest : ℕ → List Row → (List ℕ → Option (List ℕ)) → (List ℕ → Option (List ℕ)) → Type 0
KeepsRest place rows old new = KeepsOthers (path_of place rows) old new

-- The places of the sources and sinks that are out, as a fact on lists of them: it holds of the list that it is, in any house that
-- knows it. A new place comes to the front.
abbrev pub GoesOut : ℕ → (List ℕ → Type 0) → (List ℕ → Type 0) → Type 0
GoesOut place old new = (places : List ℕ) → old places → new (place ∷ places)

abbrev pub StaysOut : (List ℕ → Type 0) → (List ℕ → Type 0) → Type 0
StaysOut old new = (places : List ℕ) → old places → new places

abbrev pub ComesBack : ℕ → (List ℕ → Type 0) → (List ℕ → Type 0) → Type 0
ComesBack place old new = (before after : List ℕ) → old (before ++ place ∷ after) → new (before ++ after)

-- a call brings a source or a sink out, or leaves what is out
abbrev pub Brings : {T E : Type 0} → (T → ℕ) → Result T E → (List ℕ → Type 0) → (List ℕ → Type 0) → Type 0
Brings place (Ok t) old new = GoesOut (place t) old new
Brings place (Err _) old new = StaysOut old new
