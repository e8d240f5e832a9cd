-- What is known of the fetch at a node. After Ferdinand and Wilhelm 1999.
use Rattle.std.specs.Prelude.{ℕ, ◌≡◌, ◌==◌, ◌&&◌, ◌||◌, Bool, true, false, List, [], ◌∷◌, length, map, replicate, Option}
use Rattle.std.specs.List.{zip}
use Rattle.wc_model.specs.declared.graphs.Category.{Category}
use Rattle.wc_model.specs.declared.graphs.Category.TheVariants.{Hit, Miss, Unclassified, NoCache}
use Rattle.wc_model.specs.declared.graphs.Flags.{Flags}
use Rattle.wc_model.specs.declared.graphs.Graph.{Graph}
use Rattle.wc_model.specs.declared.machine.Cache.{Cache}
use Rattle.wc_model.specs.Cache.Ages.{AreMustFlags, AreMayFlags}

-- the line is in must; else it isn't in may; else nothing is known
abbrev pub category_of : Bool → Bool → Category
category_of true may = Hit
category_of false false = Miss
category_of false true = Unclassified

-- both lists are empty, or both have an item for each node
abbrev pub are_flags_for : ℕ → List Bool → List Bool → Bool
are_flags_for nodes must may = length must == length may && (length must == 0 || length must == nodes)

-- what flags say, node by node; without flags there is no cache
abbrev pub categories_of : ℕ → List Bool → List Bool → List Category
categories_of nodes [] may = replicate nodes NoCache
categories_of nodes (m ∷ must) may = map (λ (flags : Bool × Bool). category_of flags.0 flags.1) (zip (m ∷ must) may)

-- the categories of a graph's nodes
abbrev pub AreCategories : Graph → Option Cache → List Category → Type 0
AreCategories graph cache categories = (must may : Flags) × AreMustFlags graph cache must × AreMayFlags graph cache may × (categories ≡ categories_of (length graph.nodes) must.yes may.yes)
