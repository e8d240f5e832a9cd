use Rattle.wc_nest.proofs.ClassLemmas.{spreads_then}
use Rattle.wc_nest.proofs.search.Search.run.Goals as goal

pub loop-place-preserved : goal.loop-place-preserved
loop-place-preserved c =
    let round = c.in_ok-advance.ensures in
    record {
      search = round.search;
      spreads = spreads_then c.args.ways.now c.args.self.now.marks.items c.loop-place.self.marks.items c.advance.new.self.marks.items c.loop-place.invariant.spreads round.spreads;
    }
