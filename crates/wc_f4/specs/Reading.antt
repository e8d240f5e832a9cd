-- What reading a text of flow facts answers: the facts that it states, or the fault of its first wrong token.
use Rattle.std.specs.Prelude.{◌≡◌, ℕ, ◌%◌, ◌^◌, List, [], ◌∷◌, ◌++◌, bytes_eq, if◌then◌else◌, Option, None, Some, Result, Ok, Err}
use Rattle.wc_base.specs.declared.faults.Fault.{Fault}
use Rattle.wc_base.specs.declared.faults.Fault.TheVariants.{BadFact, UnknownLabel}
use Rattle.wc_base.specs.declared.troubles.Trouble.{Trouble}
use Rattle.wc_base.specs.declared.troubles.Trouble.TheVariants.{Fault as Refused, Memory}
use Rattle.wc_model.specs.Program.Words.{find_of}
use Rattle.wc_model.specs.declared.elf_image.Image.{Image}
use Rattle.wc_model.specs.declared.flow_facts.Fact.{Fact}
use Rattle.wc_f4.specs.declared.stops.Stop.{Stop}
use Rattle.wc_f4.specs.declared.stops.Stop.TheVariants.{Bad, Unknown, Memory as NoMemory}
use Rattle.wc_f4.specs.Grammar.{Names, Wanted, any, one, Begins, IsWhole}
use Rattle.wc_f4.specs.Tokens.{Token, Placed, quoted, line_at, placed_tokens, tokens_of}

-- an address has 32 bits, as each number of an image has by its type
abbrev pub found : Result ℕ Fault → Option ℕ
found (Ok at) = Some (at % 2 ^ 32)
found (Err _) = None

-- the names of an image
abbrev pub names_of : Image → Names
names_of image name = found (find_of image name)

-- the names, and beside them one that stands for an address
abbrev pub with_name : List ℕ → Names → Names
with_name added names name = if bytes_eq name added then Some 0 else names name

-- The token is a string in an address, and isn't found: behind the front it would fit, were it a name.
abbrev pub IsUnknown : Wanted → Names → List Token → Token → Type 0
IsUnknown wanted names front (quoted name) = (names name ≡ None) × Begins wanted (with_name name names) (front ++ quoted name ∷ [])
IsUnknown wanted names front _ = ⊥

abbrev pub IsFaultOf : Wanted → Names → List Token → Token → ℕ → Fault → Type 0
IsFaultOf wanted names front t line (UnknownLabel l) = (l ≡ line) × IsUnknown wanted names front t
IsFaultOf wanted names front t line (BadFact l) = (l ≡ line) × (IsUnknown wanted names front t → ⊥)
IsFaultOf wanted names front t line _ = ⊥

-- The tokens before a token begin a text, those up to it begin none, and the fault is this token's.
pub record IsFirstWrong (wanted : Wanted) (names : Names) (text : List ℕ) (fault : Fault) : Type 0 where
  pub front : List Placed
  pub token : Token
  pub place : ℕ
  pub behind : List Placed
  pub tokens : placed_tokens text ≡ front ++ (token, place) ∷ behind
  pub right : Begins wanted names (tokens_of front)
  pub wrong : Begins wanted names (tokens_of front ++ token ∷ []) → ⊥
  pub fault_of : IsFaultOf wanted names (tokens_of front) token (line_at text place) fault

abbrev pub Refuses : Wanted → Names → List ℕ → Trouble → Type 0
Refuses wanted names text (Refused fault) = IsFirstWrong wanted names text fault
Refuses wanted names text (Memory _) = Unit {0}

-- reading gives it back, unless memory runs out
abbrev pub GivesBack : {X : Type 0} → X → Result X Trouble → Type 0
GivesBack stated (Ok read) = read ≡ stated
GivesBack stated (Err (Refused _)) = ⊥
GivesBack stated (Err (Memory _)) = Unit {0}

abbrev pub ReadsFacts : Names → List ℕ → Result (List Fact) Trouble → Type 0
ReadsFacts names text (Ok facts) = IsWhole any names (tokens_of (placed_tokens text)) facts
ReadsFacts names text (Err trouble) = Refuses any names text trouble

-- the facts that a text states are given back, unless memory runs out
abbrev pub GivesAll : Names → List ℕ → Result (List Fact) Trouble → Type 0
GivesAll names text result = (facts : List Fact) → IsWhole any names (tokens_of (placed_tokens text)) facts → GivesBack facts result

abbrev pub ReadsOne : Names → List ℕ → Result Fact Trouble → Type 0
ReadsOne names text (Ok fact) = IsWhole one names (tokens_of (placed_tokens text)) (fact ∷ [])
ReadsOne names text (Err trouble) = Refuses one names text trouble

-- the trouble of a place where reading stopped
abbrev pub trouble_of : List ℕ → Stop → Trouble
trouble_of text (Bad place) = Refused (BadFact (line_at text place))
trouble_of text (Unknown place) = Refused (UnknownLabel (line_at text place))
trouble_of text (NoMemory error) = Memory error

abbrev pub map_value : {X Y : Type 0} → (X → Y) → Result X Trouble → Result Y Trouble
map_value f (Ok x) = Ok (f x)
map_value f (Err trouble) = Err trouble

-- a text that reads as the fact, under any names
abbrev pub IsReadAs : List ℕ → Fact → Type 0
IsReadAs text fact = (names : Names) (read : Result Fact Trouble) → ReadsOne names text read → GivesBack fact read
