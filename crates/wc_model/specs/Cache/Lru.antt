-- A cache that drops what was used least recently. After Ferdinand and Wilhelm 1999.
use Rattle.std.specs.Prelude.{ℕ, ◌≡◌, ◌≤◌, ◌==◌, Bool, if◌then◌else◌, List, [], ◌∷◌, length, take, AllPairs, Option, None, Some}
use Rattle.std.specs.List.{list_any}
use Rattle.wc_model.specs.declared.machine.Cache.{Cache}
use Rattle.wc_model.specs.declared.machine.StartState.{StartState}
use Rattle.wc_model.specs.declared.machine.StartState.TheVariants.{Empty, Any}
use Rattle.wc_model.specs.Cache.Lines.{line_of, set_of}

-- One set: at most `ways` lines, each once, the youngest first.
pub record IsSet (ways : ℕ) (lines : List ℕ) : Type 0 where
  pub few : length lines ≤ ways
  pub apart : AllPairs (λ a b. a ≡ b → ⊥) lines

abbrev pub has_line : List ℕ → ℕ → Bool
has_line lines line = list_any (λ l. l == line) lines

-- the other lines, in their order
abbrev pub without : ℕ → List ℕ → List ℕ
without line [] = []
without line (l ∷ lines) = if l == line then lines else l ∷ without line lines

-- an access moves or puts its line to the front, and what is past `ways` leaves
abbrev pub line_fetched : ℕ → ℕ → List ℕ → List ℕ
line_fetched ways line lines = take ways (line ∷ without line lines)

-- The whole cache: what each set holds, by its number.
abbrev pub Held : Type 0
Held = ℕ → List ℕ

-- a fetch at an address
abbrev pub is_hit : Cache → ℕ → Held → Bool
is_hit cache pc held = has_line (held (set_of cache pc)) (line_of cache pc)

abbrev pub cache_fetched : Cache → ℕ → Held → Held
cache_fetched cache pc held s = if s == set_of cache pc then line_fetched cache.ways (line_of cache pc) (held s) else held s

-- what the cache may hold at the start: nothing, or anything
abbrev pub MayHold : StartState → ℕ → List ℕ → Type 0
MayHold Empty ways lines = lines ≡ []
MayHold Any ways lines = IsSet ways lines

-- without a cache there is nothing to ask
abbrev pub IsAllowed : Option Cache → Held → Type 0
IsAllowed None held = Unit {0}
IsAllowed (Some cache) held = (s : ℕ) → MayHold cache.start cache.ways (held s)
