use Rattle.std.proofs.Common.{sym, ◌∙◌}
use Rattle.wc_lru.specs.Inner.Places.{steps_at}
use Rattle.wc_lru.proofs.PathLemmas.{no_path, path_found}
use Rattle.wc_lru.proofs.sums.cycles.Goals as goal

-- src/sums.rt:26:9
pub returns-then-not-is_path : goal.returns-then-not-is_path
returns-then-not-is_path c = no_path c.args.graph.now c.args.path.now (sym c.is_path.ensures ∙ c.if-not-is_path.true)

-- src/sums.rt:16:1
pub returns-in-Some : goal.returns-in-Some
returns-in-Some c = (steps_at c.args.graph.now.steps c.args.path.now, path_found c.args.graph.now c.args.path.now (sym c.is_path.ensures ∙ c.if-not-is_path.false), rw c.in-Some.is c.cached_cycles.ensures)

-- src/sums.rt:16:1
pub returns-in-None : goal.returns-in-None
returns-in-None c = (steps_at c.args.graph.now.steps c.args.path.now, path_found c.args.graph.now c.args.path.now (sym c.is_path.ensures ∙ c.if-not-is_path.false), rw c.in-None.is c.uncached_cycles.ensures)
