-- The greatest cost of a step, as its node's category allows it. After Li and Malik 1995, and Ferdinand and Wilhelm 1999.
use Rattle.std.specs.Prelude.{ℕ, ◌≡◌, ◌+◌, List, [], ◌∷◌, map, slice_index_or}
use Rattle.wc_model.specs.declared.graphs.Category.{Category}
use Rattle.wc_model.specs.declared.graphs.Category.TheVariants.{Hit, Miss, Unclassified, NoCache}
use Rattle.wc_model.specs.declared.graphs.Costs.{Costs}
use Rattle.wc_model.specs.declared.graphs.Graph.{Graph}
use Rattle.wc_model.specs.declared.graphs.Step.{Step}
use Rattle.wc_model.specs.declared.machine.Cycles.{Cycles}
use Rattle.wc_model.specs.declared.machine.Hardware.{Hardware}
use Rattle.wc_model.specs.Cache.Categories.{AreCategories}
use Rattle.wc_model.specs.Cache.Timing.{timed_step}

abbrev pub fetch_upper : Cycles → Category → ℕ
fetch_upper c Hit = c.hit
fetch_upper c Miss = c.miss
fetch_upper c Unclassified = c.miss
fetch_upper c NoCache = 0

abbrev pub upper : Graph → List Category → Cycles → Step → ℕ
upper graph categories c s = (timed_step graph c s).base + fetch_upper c (slice_index_or categories s.source NoCache)

-- of each step
abbrev pub upper_costs : Graph → List Category → Cycles → List ℕ
upper_costs graph categories c = map (upper graph categories c) graph.steps

-- of steps one after the other
abbrev pub upper_cycles : Graph → List Category → Cycles → List Step → ℕ
upper_cycles graph categories c [] = 0
upper_cycles graph categories c (s ∷ path) = upper graph categories c s + upper_cycles graph categories c path

-- the costs of a graph's steps on a hardware
abbrev pub AreCosts : Graph → Hardware → Costs → Type 0
AreCosts graph hardware costs = (categories : List Category) × AreCategories graph hardware.cache categories × (costs.of ≡ upper_costs graph categories hardware.cycles)
