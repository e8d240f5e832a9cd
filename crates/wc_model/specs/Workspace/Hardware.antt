-- The default hardware, and whether two descriptions of hardware state the same cycles and the same cache.
use Rattle.std.specs.Prelude.{ℕ, Bool, true, false, ◌&&◌, ◌==◌, nat_eq, List, [], ◌∷◌, Option, None, Some, refl}
use Rattle.std.specs.Cmp.Lexicographic.{pointwise}
use Rattle.std.proofs.Common.{lit≤}
use Rattle.wc_model.specs.declared.machine.Cycles.{Cycles}
use Rattle.wc_model.specs.declared.machine.Cache.{Cache}
use Rattle.wc_model.specs.declared.machine.StartState.{StartState}
use Rattle.wc_model.specs.declared.machine.StartState.TheVariants.{Empty, Any}
use Rattle.wc_model.specs.declared.machine.Hardware.{Hardware}

-- Every class takes one cycle, nothing else takes any, and there is no cache.
abbrev pub default_cycles : Cycles
default_cycles =
    record {
      alu = 1;
      mul = 1;
      div = 1;
      load = 1;
      store = 1;
      multi = 1;
      branch = 1;
      system = 1;
      taken = 0;
      per_register = 0;
      hit = 0;
      miss = 0;
      hit_is_least = lit≤ tt;
    }

abbrev pub default_hardware : Hardware
default_hardware = record { cycles = default_cycles; cache = None; uncached = refl }

abbrev pub cycle_numbers : Cycles → List ℕ
cycle_numbers c =
    c.alu ∷ c.mul ∷ c.div ∷ c.load ∷ c.store ∷ c.multi ∷ c.branch ∷ c.system
    ∷ c.taken ∷ c.per_register ∷ c.hit ∷ c.miss ∷ []

abbrev pub same_cycles : Cycles → Cycles → Bool
same_cycles a b = pointwise nat_eq (cycle_numbers a) (cycle_numbers b)

abbrev pub same_start : StartState → StartState → Bool
same_start Empty Empty = true
same_start Any Any = true
same_start _ _ = false

abbrev pub same_cache : Option Cache → Option Cache → Bool
same_cache None None = true
same_cache (Some a) (Some b) = a.sets == b.sets && a.ways == b.ways && a.line == b.line && same_start a.start b.start
same_cache _ _ = false
