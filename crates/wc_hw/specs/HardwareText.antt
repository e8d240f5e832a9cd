-- The hardware as JSON, with all names in their order and without blanks.
use Rattle.std.specs.Prelude.{ℕ, List, [], ◌∷◌, ◌++◌, Option, Some, None, codes, decimal}
use Rattle.wc_model.specs.declared.machine.Cache.{Cache}
use Rattle.wc_model.specs.declared.machine.Cycles.{Cycles}
use Rattle.wc_model.specs.declared.machine.Hardware.{Hardware}
use Rattle.wc_model.specs.declared.machine.StartState.{StartState}
use Rattle.wc_model.specs.declared.machine.StartState.TheVariants.{Empty, Any}

-- the texts one behind the other
abbrev pub joined : List (List ℕ) → List ℕ
joined [] = []
joined (t ∷ ts) = t ++ joined ts

abbrev pub cycles_text : Cycles → List ℕ
cycles_text c = joined (codes "{\"cycles\":{\"alu\":" ∷ decimal c.alu ∷ codes ",\"mul\":" ∷ decimal c.mul ∷ codes ",\"div\":" ∷ decimal c.div
    ∷ codes ",\"load\":" ∷ decimal c.load ∷ codes ",\"store\":" ∷ decimal c.store ∷ codes ",\"multi\":" ∷ decimal c.multi
    ∷ codes ",\"branch\":" ∷ decimal c.branch ∷ codes ",\"system\":" ∷ decimal c.system ∷ codes ",\"taken\":" ∷ decimal c.taken
    ∷ codes ",\"per_register\":" ∷ decimal c.per_register ∷ codes "},\"icache\":" ∷ [])

abbrev pub start_text : StartState → List ℕ
start_text Empty = codes ",\"start\":\"empty\"}}"
start_text Any = codes ",\"start\":\"any\"}}"

abbrev pub cache_text : Cache → Cycles → List ℕ
cache_text c y = joined (codes "{\"sets\":" ∷ decimal c.sets ∷ codes ",\"ways\":" ∷ decimal c.ways ∷ codes ",\"line\":" ∷ decimal c.line
    ∷ codes ",\"hit\":" ∷ decimal y.hit ∷ codes ",\"miss\":" ∷ decimal y.miss ∷ start_text c.start ∷ [])

abbrev pub icache_text : Cycles → Option Cache → List ℕ
icache_text y None = codes "null}"
icache_text y (Some c) = cache_text c y

abbrev pub hardware_text : Hardware → List ℕ
hardware_text h = cycles_text h.cycles ++ icache_text h.cycles h.cache
