-- The grammar of flow facts, with what each part of a text states.
use Rattle.std.specs.Prelude.{◌≡◌, ℕ, ◌+◌, ◌<◌, ◌^◌, ◌⊎◌, List, [], ◌∷◌, ◌++◌, length, Option, None, Some}
use Rattle.wc_model.specs.declared.flow_facts.Fact.{Fact}
use Rattle.wc_model.specs.declared.flow_facts.Fact.TheVariants.{Loop, Multibranch, Multicall, Noreturn, Checksum, Limit}
use Rattle.wc_model.specs.declared.flow_facts.Term.{Term}
use Rattle.wc_model.specs.declared.flow_facts.Term.TheVariants.{Constant, Visits}
use Rattle.wc_f4.specs.declared.tokens.Mark.TheVariants as sign
use Rattle.wc_f4.specs.declared.tokens.Word.{Word}
use Rattle.wc_f4.specs.declared.tokens.Word.TheVariants as keyword
use Rattle.wc_f4.specs.Tokens.{Token, word, number, quoted, mark, text_end}

-- the address that a name stands for, if it is found
abbrev pub Names : Type 0
Names = List ℕ → Option ℕ

-- number | string | string "+" number | string "-" number
pub data IsAddress (names : Names) (ts : List Token) (at : ℕ) : Type 0 where
  plain : ts ≡ number at ∷ [] → IsAddress names ts at
  named : (name : List ℕ) → ts ≡ quoted name ∷ [] → names name ≡ Some at → IsAddress names ts at
  above : (name : List ℕ) (base n : ℕ) → ts ≡ quoted name ∷ mark sign.Plus ∷ number n ∷ [] → names name ≡ Some base → at ≡ base + n → at < 2 ^ 32 → IsAddress names ts at
  below : (name : List ℕ) (base n : ℕ) → ts ≡ quoted name ∷ mark sign.Minus ∷ number n ∷ [] → names name ≡ Some base → base ≡ at + n → IsAddress names ts at

-- one part, or several with a token between two of them
abbrev pub AreJoined : {X : Type 0} → (List Token → X → Type 0) → Token → List Token → List X → Type 0
AreJoined Is between ts [] = ⊥
AreJoined Is between ts (x ∷ []) = Is ts x
AreJoined Is between ts (x ∷ y ∷ xs) = (us : List Token) × (vs : List Token) × (ts ≡ us ++ between ∷ vs) × Is us x × AreJoined Is between vs (y ∷ xs)

-- number | "?"
abbrev pub IsBound : Token → Option ℕ → Type 0
IsBound t None = t ≡ mark sign.Question
IsBound t (Some n) = t ≡ number n

-- addr { "," addr }
abbrev pub AreAddresses : Names → List Token → List ℕ → Type 0
AreAddresses names ts addresses = AreJoined (IsAddress names) (mark sign.Comma) ts addresses

-- [ "in" addr { "," addr } ]: without it there is no address
abbrev pub IsWithin : Names → List Token → List ℕ → Type 0
IsWithin names ts [] = ts ≡ []
IsWithin names ts (at ∷ more) = (us : List Token) × (ts ≡ word keyword.In ∷ us) × AreAddresses names us (at ∷ more)

-- "[" addr [ within ] "]"
abbrev pub bracketed : List Token → List Token → List Token
bracketed us vs = mark sign.Open ∷ us ++ (vs ++ mark sign.Close ∷ [])

-- number | "[" addr [ within ] "]" | number "*" "[" addr [ within ] "]"
abbrev pub IsTerm : Names → List Token → Term → Type 0
IsTerm names ts (Constant n) = ts ≡ number n ∷ []
IsTerm names ts (Visits times at within) =
    (us : List Token) × (vs : List Token) × IsAddress names us at × IsWithin names vs within
    × (((times ≡ 1) × (ts ≡ bracketed us vs)) ⊎ (ts ≡ number times ∷ mark sign.Star ∷ bracketed us vs))

-- term { "+" term }
abbrev pub IsSum : Names → List Token → List Term → Type 0
IsSum names ts terms = AreJoined (IsTerm names) (mark sign.Plus) ts terms

-- addr "to" addr { "," addr } ";", behind the fact's word
abbrev pub IsBranching : Names → Word → List Token → ℕ → List ℕ → Type 0
IsBranching names w ts at to =
    (us : List Token) × (vs : List Token) × (ts ≡ word w ∷ us ++ (word keyword.To ∷ vs ++ mark sign.Semicolon ∷ []))
    × IsAddress names us at × AreAddresses names vs to

abbrev pub IsFact : Names → List Token → Fact → Type 0
IsFact names ts (Loop at bound within) =
    (us : List Token) × (t : Token) × (vs : List Token) × (ts ≡ word keyword.Loop ∷ us ++ (t ∷ (vs ++ mark sign.Semicolon ∷ [])))
    × IsAddress names us at × IsBound t bound × IsWithin names vs within
IsFact names ts (Multibranch at to) = IsBranching names keyword.Multibranch ts at to
IsFact names ts (Multicall at to) = IsBranching names keyword.Multicall ts at to
IsFact names ts (Noreturn at) =
    (us : List Token) × (ts ≡ word keyword.Noreturn ∷ us ++ mark sign.Semicolon ∷ []) × IsAddress names us at
IsFact names ts (Checksum name value) =
    ts ≡ word keyword.Checksum ∷ quoted name ∷ number value ∷ mark sign.Semicolon ∷ []
IsFact names ts (Limit left right) =
    (us : List Token) × (vs : List Token) × (ts ≡ word keyword.Limit ∷ us ++ (mark sign.AtMost ∷ vs ++ mark sign.Semicolon ∷ [])) × IsSum names us left × IsSum names vs right

-- { fact }, and the end of the text
abbrev pub IsText : Names → List Token → List Fact → Type 0
IsText names ts [] = ts ≡ text_end ∷ []
IsText names ts (f ∷ fs) = (us : List Token) × (vs : List Token) × (ts ≡ us ++ vs) × IsFact names us f × IsText names vs fs

-- how many facts a text may have
pub data Wanted : Type 0 where
  any : Wanted
  one : Wanted

abbrev pub HasWanted : Wanted → List Fact → Type 0
HasWanted any facts = Unit {0}
HasWanted one facts = length facts ≡ 1

abbrev pub IsWhole : Wanted → Names → List Token → List Fact → Type 0
IsWhole wanted names ts facts = IsText names ts facts × HasWanted wanted facts

-- some text of the grammar begins so
abbrev pub Begins : Wanted → Names → List Token → Type 0
Begins wanted names ts = (more : List Token) × (facts : List Fact) × IsWhole wanted names (ts ++ more) facts
