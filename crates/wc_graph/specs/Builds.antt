-- What `build` gives: the graph of the function, or why there is none.
use Rattle.std.specs.Prelude.{ℕ, List, Result, Ok, Err}
use Rattle.wc_base.specs.declared.troubles.Trouble.{Trouble}
use Rattle.wc_base.specs.declared.troubles.Trouble.TheVariants.{Fault as Refused, Memory}
use Rattle.wc_model.specs.declared.elf_image.Image.{Image}
use Rattle.wc_model.specs.declared.flow_facts.Fact.{Fact}
use Rattle.wc_model.specs.declared.graphs.Graph.{Graph}
use Rattle.wc_model.specs.Program.Graphs.{IsGraphFault, IsGraphOf}

abbrev pub Builds : Image → List Fact → ℕ → Result Graph Trouble → Type 0
Builds image facts entry (Ok graph) = IsGraphOf image facts entry graph
Builds image facts entry (Err (Refused fault)) = IsGraphFault image facts entry fault
Builds image facts entry (Err (Memory error)) = Unit {0}
