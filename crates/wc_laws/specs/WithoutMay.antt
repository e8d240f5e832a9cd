-- What costs are found from: may isn't needed, since a fetch that surely misses costs as much as one of which nothing is
-- known.
use Rattle.std.specs.Prelude.{◌≡◌, List, Option, length}
use Rattle.wc_model.specs.declared.graphs.Category.{Category}
use Rattle.wc_model.specs.declared.graphs.Costs.{Costs}
use Rattle.wc_model.specs.declared.graphs.Flags.{Flags}
use Rattle.wc_model.specs.declared.graphs.Graph.{Graph}
use Rattle.wc_model.specs.declared.machine.Cache.{Cache}
use Rattle.wc_model.specs.declared.machine.Hardware.{Hardware}
use Rattle.wc_model.specs.Cache.Ages.{AreMayFlags, AreMustFlags}
use Rattle.wc_model.specs.Cache.Categories.{categories_of}
use Rattle.wc_model.specs.Cache.Costs.{AreCosts, upper_costs}
use Rattle.wc_model.specs.Program.Graphs.{IsGraph}

-- every graph has flags of may
abbrev pub MayFlagsExist : Type 0
MayFlagsExist = (graph : Graph) (cache : Option Cache) → IsGraph graph → (flags : Flags) × AreMayFlags graph cache flags

-- the categories without may: a fetch that isn't surely a hit counts as a miss
abbrev pub AreMustCategories : Graph → Option Cache → List Category → Type 0
AreMustCategories graph cache categories = (must : Flags) × AreMustFlags graph cache must × (categories ≡ categories_of (length graph.nodes) must.yes must.yes)

-- the costs of these categories are those of the graph's steps
abbrev pub CostsNeedNoMay : Type 0
CostsNeedNoMay =
    (graph : Graph) (hardware : Hardware) (categories : List Category) (costs : Costs)
    → IsGraph graph → AreMustCategories graph hardware.cache categories
    → costs.of ≡ upper_costs graph categories hardware.cycles → AreCosts graph hardware costs
