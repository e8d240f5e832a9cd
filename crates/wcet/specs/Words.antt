-- The words of the command line.
use Rattle.std.specs.Prelude.{◌≡◌, ◌≢◌, ℕ, List, [], ◌∷◌, codes, Option, None, Some, IfSome, option_map}
use Rattle.wcet.specs.declared.words.InputPaths.{InputPaths}

-- the paths of a call's files, of which the hardware's and the facts' may be left out
pub record Paths : Type 0 where
  pub binary : List ℕ
  pub hardware : Option (List ℕ)
  pub facts : Option (List ℕ)

abbrev pub paths_in : InputPaths → Paths
paths_in p = record { binary = p.binary.now; hardware = option_map (λ path. path.now) p.hardware; facts = option_map (λ path. path.now) p.facts }

-- a word for a file that may be left out: `-` leaves it out, and every other word is its path
abbrev pub optional_word : Option (List ℕ) → List ℕ
optional_word None = codes "-"
optional_word (Some path) = path

-- `bound BINARY FACTS HARDWARE FUNCTION`, with a name for the function
pub record IsBoundCall (words : List (List ℕ)) (paths : Paths) (name : List ℕ) : Type 0 where
  pub form : words ≡ codes "bound" ∷ paths.binary ∷ optional_word paths.facts ∷ optional_word paths.hardware ∷ name ∷ []
  pub facts : IfSome paths.facts (λ path. path ≢ codes "-")
  pub hardware : IfSome paths.hardware (λ path. path ≢ codes "-")
  pub named : name ≢ []

-- the words are of no known form
abbrev pub IsFaultyCall : List (List ℕ) → Type 0
IsFaultyCall words = (paths : Paths) (name : List ℕ) → IsBoundCall words paths name → ⊥

-- `serve BINARY FACTS HARDWARE IN OUT`, where OUT is no other path of the line
pub record IsServeCall (words : List (List ℕ)) (paths : Paths) (input output : List ℕ) : Type 0 where
  pub form : words ≡ codes "serve" ∷ paths.binary ∷ optional_word paths.facts ∷ optional_word paths.hardware ∷ input ∷ output ∷ []
  pub facts : IfSome paths.facts (λ path. (path ≢ codes "-") × (output ≢ path))
  pub hardware : IfSome paths.hardware (λ path. (path ≢ codes "-") × (output ≢ path))
  pub apart : (output ≢ paths.binary) × (output ≢ input)

-- the words are of another form
abbrev pub IsFaultyServe : List (List ℕ) → Type 0
IsFaultyServe words = (paths : Paths) (input output : List ℕ) → IsServeCall words paths input output → ⊥
