use Rattle.std.proofs.Common.{[], ◌∷◌, ◌++◌, Option, sym, subst, ◌∙◌}
use Rattle.std.proofs.lemmas.Bool.{false≢true}
use Rattle.wc_graph.specs.declared.faults.Faulty.{Faulty}
use Rattle.wc_graph.specs.Inner.Faults.{IsLeast}
use Rattle.wc_graph.proofs.FaultLemmas.{first_fault, new_least, still_least}
use Rattle.wc_graph.proofs.faults.lesser.Goals as goal

pub returns-in_default : goal.returns-in_default
returns-in_default c = λ faults is. first_fault faults c.args.faulty c.args.least c.in_default.is is

pub returns-then-counts_first : goal.returns-then-counts_first
returns-then-counts_first c = λ faults is. new_least faults c.args.faulty c.in-Some.other c.args.least c.in-Some.is (c.counts_first.ensures.0 c.if-counts_first.true) is

pub returns : goal.returns
returns c = λ faults is. subst (λ (o : Option Faulty). IsLeast (faults ++ c.args.faulty ∷ []) o) c.in-Some.is (still_least faults c.args.faulty c.in-Some.other c.args.least c.in-Some.is (λ up. false≢true (sym c.if-counts_first.false ∙ c.counts_first.ensures.1 up)) is)
