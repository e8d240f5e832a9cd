-- The cycles of a path from a state of the cache.
use Rattle.std.specs.Prelude.{ℕ, ◌≡◌, ◌+◌, Bool, true, false, List, [], ◌∷◌, map, Option, None, Some, Contains, slice_get}
use Rattle.std.specs.List.{AllZip}
use Rattle.std.specs.Option.{option_map}
use Rattle.wc_model.specs.declared.elf_image.Image.{Image}
use Rattle.wc_model.specs.declared.graphs.Graph.{Graph}
use Rattle.wc_model.specs.declared.graphs.Node.{Node}
use Rattle.wc_model.specs.declared.graphs.Step.{Step as NumberedStep}
use Rattle.wc_model.specs.declared.machine.Cache.{Cache}
use Rattle.wc_model.specs.declared.machine.Cycles.{Cycles}
use Rattle.wc_model.specs.declared.machine.Hardware.{Hardware}
use Rattle.wc_model.specs.Cache.Lru.{Held, cache_fetched, is_hit}
use Rattle.wc_model.specs.Program.Paths.{known_cycles}
use Rattle.wc_model.specs.Program.Steps.{Step, insn_at}

-- a step as timing sees it: the address that it fetches, and what it costs beside that fetch
pub record Timed : Type 0 where
  pub base : ℕ
  pub pc : ℕ

abbrev pub fetch_cycles : Cycles → Bool → ℕ
fetch_cycles c true = c.hit
fetch_cycles c false = c.miss

-- steps one after the other, each with one fetch
abbrev pub cached_cycles : Cache → Cycles → Held → List Timed → ℕ
cached_cycles cache c held [] = 0
cached_cycles cache c held (s ∷ steps) = s.base + fetch_cycles c (is_hit cache s.pc held) + cached_cycles cache c (cache_fetched cache s.pc held) steps

abbrev pub uncached_cycles : List Timed → ℕ
uncached_cycles [] = 0
uncached_cycles (s ∷ steps) = s.base + uncached_cycles steps

abbrev pub cycles_from : Option Cache → Cycles → Held → List Timed → ℕ
cycles_from None c held steps = uncached_cycles steps
cycles_from (Some cache) c held steps = cached_cycles cache c held steps

-- A path of positions.
abbrev pub timed_move : Image → Cycles → Step → Timed
timed_move image c s = record { base = known_cycles c s.taken (insn_at image s.source.pc); pc = s.source.pc }

abbrev pub path_cycles : Image → Hardware → Held → List Step → ℕ
path_cycles image hardware held path = cycles_from hardware.cache hardware.cycles held (map (timed_move image hardware.cycles) path)

-- A path of numbered steps through a graph.
abbrev pub pc_of : Option Node → ℕ
pc_of None = 0
pc_of (Some n) = n.pc

abbrev pub pc_at : Graph → ℕ → ℕ
pc_at graph p = pc_of (slice_get graph.nodes p)

abbrev pub timed_step : Graph → Cycles → NumberedStep → Timed
timed_step graph c s = record { base = known_cycles c s.taken (option_map (λ (n : Node). n.insn) (slice_get graph.nodes s.source)); pc = pc_at graph s.source }

-- from a node, `Some p`, to the exit, `None`: each step leaves where the one before led
abbrev pub IsGraphWalk : List NumberedStep → Option ℕ → List NumberedStep → Type 0
IsGraphWalk steps at [] = at ≡ None
IsGraphWalk steps at (s ∷ walk) = Contains steps s × (at ≡ Some s.source) × IsGraphWalk steps s.target walk

-- a path by the places of its steps
pub record IsPathOfPlaces (graph : Graph) (places : List ℕ) (path : List NumberedStep) : Type 0 where
  pub steps_there : AllZip (λ k s. slice_get graph.steps k ≡ Some s) places path
  pub walk : IsGraphWalk graph.steps (Some graph.start) path

-- the cycles of the path at these places, and nothing exactly where there is no such path
abbrev pub AreCyclesOf : Graph → List ℕ → Option Cache → Cycles → Held → Option ℕ → Type 0
AreCyclesOf graph places cache c held None = (path : List NumberedStep) → IsPathOfPlaces graph places path → ⊥
AreCyclesOf graph places cache c held (Some n) = (path : List NumberedStep) × IsPathOfPlaces graph places path × (n ≡ cycles_from cache c held (map (timed_step graph c) path))
