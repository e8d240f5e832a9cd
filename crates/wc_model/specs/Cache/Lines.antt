-- Lines of memory and the sets that they belong to. After Ferdinand and Wilhelm 1999.
use Rattle.std.specs.Prelude.{ℕ, ◌/◌, ◌%◌, [], map, Option, None, Some}
use Rattle.wc_model.specs.declared.graphs.Graph.{Graph}
use Rattle.wc_model.specs.declared.graphs.LineMap.{LineMap}
use Rattle.wc_model.specs.declared.graphs.Node.{Node}
use Rattle.wc_model.specs.declared.machine.Cache.{Cache}

-- the line that an address lies in, and its set
abbrev pub line_of : Cache → ℕ → ℕ
line_of cache pc = pc / cache.line

abbrev pub set_of : Cache → ℕ → ℕ
set_of cache pc = line_of cache pc % cache.sets

-- those of each node; both lists are empty where there is no cache
abbrev pub line_map : Graph → Option Cache → LineMap
line_map graph None = record { line = []; set = [] }
line_map graph (Some cache) = record { line = map (λ (n : Node). line_of cache n.pc) graph.nodes; set = map (λ (n : Node). set_of cache n.pc) graph.nodes }
