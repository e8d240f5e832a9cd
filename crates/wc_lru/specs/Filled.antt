-- A cache with what it holds, and what paths cost from there.
use Rattle.std.specs.Prelude.{ℕ, ◌+◌, List, [], Option, None, Some, slice_index_or}
use Rattle.wc_model.specs.declared.graphs.Graph.{Graph}
use Rattle.wc_model.specs.declared.machine.Cache.{Cache}
use Rattle.wc_model.specs.declared.machine.Cycles.{Cycles}
use Rattle.wc_model.specs.Cache.Lru.{Held, cache_fetched, is_hit}
use Rattle.wc_model.specs.Cache.Timing.{AreCyclesOf, Timed, cached_cycles, fetch_cycles}

pub record Filled : Type 0 where
  pub cache : Cache
  pub sets : List (List ℕ)

abbrev pub held_in : Filled → Held
held_in filled s = slice_index_or filled.sets s []

-- of an optional one; without a cache nothing is held
abbrev pub cache_in : Option Filled → Option Cache
cache_in None = None
cache_in (Some filled) = Some filled.cache

abbrev pub held_by : Option Filled → Held
held_by None s = []
held_by (Some filled) s = held_in filled s

-- a fetch
abbrev pub fetched_from : Filled → ℕ → Held
fetched_from filled pc = cache_fetched filled.cache pc (held_in filled)

-- the cycles of a step, of steps one after the other, and of the path at these places, if there is one
abbrev pub step_from : Filled → Cycles → Timed → ℕ
step_from filled c s = s.base + fetch_cycles c (is_hit filled.cache s.pc (held_in filled))

abbrev pub steps_from : Filled → Cycles → List Timed → ℕ
steps_from filled c steps = cached_cycles filled.cache c (held_in filled) steps

abbrev pub AreCyclesFrom : Graph → List ℕ → Cycles → Option Filled → Option ℕ → Type 0
AreCyclesFrom graph places c filled cycles = AreCyclesOf graph places (cache_in filled) c (held_by filled) cycles
