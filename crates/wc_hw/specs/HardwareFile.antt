-- The hardware file: what a JSON value says of the processor's timing, and which of its names is wrong first.
use Rattle.std.specs.Prelude.{◌≡◌, ℕ, Bool, true, false, not, ◌&&◌, ◌||◌, nat_le, if◌then◌else◌, List, codes, bytes_eq, Option, Some, None, option_and_then, unwrap_or, is_none}
use Rattle.serde_json.specs.Data.{Data, Members, no_members, member}
use Rattle.serde_json.specs.Find.{get, as_null, as_number, as_object, as_str, as_u64}
use Rattle.wc_base.specs.declared.faults.FieldWord.{FieldWord}
use Rattle.wc_base.specs.declared.faults.FieldWord.TheVariants as word
use Rattle.wc_model.specs.Cache.Ranges.{is_line_size, is_set_count, is_way_count}
use Rattle.wc_model.specs.declared.machine.Cache.{Cache}
use Rattle.wc_model.specs.declared.machine.Cycles.{Cycles}
use Rattle.wc_model.specs.declared.machine.Hardware.{Hardware}
use Rattle.wc_model.specs.declared.machine.StartState.{StartState}
use Rattle.wc_model.specs.declared.machine.StartState.TheVariants.{Empty, Any}

abbrev pub is_root_key : List ℕ → Bool
is_root_key k = bytes_eq k (codes "cycles") || bytes_eq k (codes "icache")

abbrev pub is_class_key : List ℕ → Bool
is_class_key k = bytes_eq k (codes "alu") || bytes_eq k (codes "mul") || bytes_eq k (codes "div") || bytes_eq k (codes "load") || bytes_eq k (codes "store")
    || bytes_eq k (codes "multi") || bytes_eq k (codes "branch") || bytes_eq k (codes "system") || bytes_eq k (codes "taken") || bytes_eq k (codes "per_register")

abbrev pub is_cache_key : List ℕ → Bool
is_cache_key k = bytes_eq k (codes "sets") || bytes_eq k (codes "ways") || bytes_eq k (codes "line") || bytes_eq k (codes "hit") || bytes_eq k (codes "miss")
    || bytes_eq k (codes "start")

abbrev pub keys_pass : (List ℕ → Bool) → Members → Bool
keys_pass is_key no_members = true
keys_pass is_key (member k d ms) = is_key k && keys_pass is_key ms

abbrev pub holds : {T : Type 0} → (T → Bool) → Option T → Bool
holds test None = false
holds test (Some x) = test x

-- the value where it passes
abbrev pub checked : (ℕ → Bool) → Option ℕ → Option ℕ
checked test n = option_and_then (λ x. if test x then Some x else None) n

-- an object without other keys
abbrev pub is_object_with : (List ℕ → Bool) → Data → Bool
is_object_with is_key d = holds (keys_pass is_key) (as_object d)

-- a number that is written as a whole one, from 0 to 2^64 - 1
abbrev pub whole : Data → Option ℕ
whole d = option_and_then as_u64 (as_number d)

abbrev pub is_cost : ℕ → Bool
is_cost n = nat_le n 65535

-- the member of a part of the file
abbrev pub member_of : List ℕ → List ℕ → Data → Option Data
member_of part name d = option_and_then (get name) (get part d)

-- the cycles of a class, which are the default where the name is missing
abbrev pub cycles_in : ℕ → Option Data → Option ℕ
cycles_in default None = Some default
cycles_in default (Some d) = checked is_cost (whole d)

abbrev pub cycles_of : List ℕ → ℕ → Data → Option ℕ
cycles_of name default d = cycles_in default (member_of (codes "cycles") name d)

abbrev pub cache_number : List ℕ → Data → Option ℕ
cache_number name d = option_and_then whole (member_of (codes "icache") name d)

abbrev pub sets_of : Data → Option ℕ
sets_of d = checked is_set_count (cache_number (codes "sets") d)

abbrev pub ways_of : Data → Option ℕ
ways_of d = checked is_way_count (cache_number (codes "ways") d)

abbrev pub line_of : Data → Option ℕ
line_of d = checked is_line_size (cache_number (codes "line") d)

abbrev pub hit_of : Data → Option ℕ
hit_of d = checked is_cost (cache_number (codes "hit") d)

-- a miss costs at least a hit
abbrev pub miss_of : Data → Option ℕ
miss_of d = checked (λ n. is_cost n && nat_le (unwrap_or (hit_of d) 0) n) (cache_number (codes "miss") d)

abbrev pub state_named : List ℕ → Option StartState
state_named text = if bytes_eq text (codes "empty") then Some Empty else (if bytes_eq text (codes "any") then Some Any else None)

abbrev pub start_of : Data → Option StartState
start_of d = option_and_then state_named (option_and_then as_str (member_of (codes "icache") (codes "start") d))

-- an instruction cache is stated
abbrev pub has_cache : Data → Bool
has_cache d = holds (λ part. is_none (as_null part)) (get (codes "icache") d)

abbrev pub cycles_are_wrong : Data → Bool
cycles_are_wrong d = holds (λ part. not (is_object_with is_class_key part)) (get (codes "cycles") d)

abbrev pub icache_is_wrong : Data → Bool
icache_is_wrong d = holds (λ part. is_none (as_null part) && not (is_object_with is_cache_key part)) (get (codes "icache") d)

abbrev pub wrong_class : Data → Option FieldWord
wrong_class d =
    if is_none (cycles_of (codes "alu") 1 d) then Some word.Alu else (if is_none (cycles_of (codes "mul") 1 d) then Some word.Mul else
    (if is_none (cycles_of (codes "div") 1 d) then Some word.Div else (if is_none (cycles_of (codes "load") 1 d) then Some word.Load else
    (if is_none (cycles_of (codes "store") 1 d) then Some word.Store else (if is_none (cycles_of (codes "multi") 1 d) then Some word.Multi else
    (if is_none (cycles_of (codes "branch") 1 d) then Some word.Branch else (if is_none (cycles_of (codes "system") 1 d) then Some word.System else
    (if is_none (cycles_of (codes "taken") 0 d) then Some word.Taken else (if is_none (cycles_of (codes "per_register") 0 d) then Some word.PerRegister else None)))))))))

abbrev pub wrong_cache_field : Data → Option FieldWord
wrong_cache_field d =
    if is_none (sets_of d) then Some word.Sets else (if is_none (ways_of d) then Some word.Ways else (if is_none (line_of d) then Some word.Line else
    (if is_none (hit_of d) then Some word.Hit else (if is_none (miss_of d) then Some word.Miss else (if is_none (start_of d) then Some word.Start else None)))))

abbrev pub or_else : {T : Type 0} → Option T → Option T → Option T
or_else None later = later
or_else (Some x) later = Some x

-- the first name that is wrong
abbrev pub first_wrong : Data → Option FieldWord
first_wrong d =
    if not (is_object_with is_root_key d) then Some word.Root else (if cycles_are_wrong d then Some word.Cycles else
    or_else (wrong_class d) (if icache_is_wrong d then Some word.Icache else (if has_cache d then wrong_cache_field d else None)))

pub record AreCycles (c : Cycles) (d : Data) : Type 0 where
  pub alu : cycles_of (codes "alu") 1 d ≡ Some c.alu
  pub mul : cycles_of (codes "mul") 1 d ≡ Some c.mul
  pub div : cycles_of (codes "div") 1 d ≡ Some c.div
  pub load : cycles_of (codes "load") 1 d ≡ Some c.load
  pub store : cycles_of (codes "store") 1 d ≡ Some c.store
  pub multi : cycles_of (codes "multi") 1 d ≡ Some c.multi
  pub branch : cycles_of (codes "branch") 1 d ≡ Some c.branch
  pub system : cycles_of (codes "system") 1 d ≡ Some c.system
  pub taken : cycles_of (codes "taken") 0 d ≡ Some c.taken
  pub per_register : cycles_of (codes "per_register") 0 d ≡ Some c.per_register

pub record IsCache (hits misses : ℕ) (c : Cache) (d : Data) : Type 0 where
  pub sets : sets_of d ≡ Some c.sets
  pub ways : ways_of d ≡ Some c.ways
  pub line : line_of d ≡ Some c.line
  pub hit : hit_of d ≡ Some hits
  pub miss : miss_of d ≡ Some misses
  pub start : start_of d ≡ Some c.start

-- the cache that is stated, or none, and then no cycles of a fetch
abbrev pub IsCacheOf : ℕ → ℕ → Option Cache → Data → Type 0
IsCacheOf hit miss None d = (has_cache d ≡ false) × (hit ≡ 0) × (miss ≡ 0)
IsCacheOf hit miss (Some c) d = (has_cache d ≡ true) × IsCache hit miss c d

-- the hardware that a value states
pub record IsHardware (h : Hardware) (d : Data) : Type 0 where
  pub right : first_wrong d ≡ None
  pub cycles : AreCycles h.cycles d
  pub cache : IsCacheOf h.cycles.hit h.cycles.miss h.cache d
