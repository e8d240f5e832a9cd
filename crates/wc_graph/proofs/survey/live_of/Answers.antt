use Rattle.std.proofs.Common.{ℕ, List, length, sym, subst}
use Rattle.wc_graph.specs.Inner.Lists.{Inside}
use Rattle.wc_graph.specs.Inner.Spreads.{IsSpread}
use Rattle.wc_graph.proofs.SourceLemmas.{sources_inside, exits_inside}
use Rattle.wc_graph.proofs.ResultLemmas.{if_ok}
use Rattle.wc_graph.proofs.survey.live_of.Goals as goal

pub spread-requires-clause-lists : goal.spread-requires-clause-lists
spread-requires-clause-lists c = sources_inside c.args.leaps.now c.in_ok-sources.sources c.in_ok-sources.ensures

pub spread-requires-clause-from : goal.spread-requires-clause-from
spread-requires-clause-from c = subst (Inside (length c.in_ok-sources.sources.into)) (sym c.as_slice.ensures.value) (exits_inside c.args.leaps.now c.in_ok-sources.sources c.in_ok-sources.ensures)

pub returns : goal.returns
returns c = if_ok c.spread.result c.spread.ensures (λ v is. record {
  sources = c.in_ok-sources.sources;
  are = c.in_ok-sources.ensures;
  spread = subst (λ (ys : List ℕ). IsSpread c.in_ok-sources.sources.into ys v.items) c.as_slice.ensures.value is;
})
