use Rattle.std.proofs.Common.{◌∙◌, ap, arith, sym}
use Rattle.wc_simplex.proofs.CodeLemmas.{inner_end, inner_more, inner_stop}
use Rattle.wc_simplex.proofs.potentials.inner_potentials.Goals as goal

pub returns-in-None : goal.returns-in-None
returns-in-None c =
    record {
      counted = tt;
      inner =
          inner_stop c.args.system.now c.args.scale.now c.args.prices.now c.args.columns.now c.loop-place.place c.loop-place.inner.items c.chain.new.inner.items c.index-columns-place.result c.items.result.now c.chain.result
          c.loop-place.invariant c.loop-place-test.true c.loop-place.auto.place c.items.ensures c.index-columns-place.is c.chain.ensures.learnt c.in-None.is;
    }

pub loop-place-preserved : goal.loop-place-preserved
loop-place-preserved c =
    inner_more c.args.system.now c.args.scale.now c.args.prices.now c.args.columns.now c.loop-place.place c.loop-place.inner.items c.chain.new.inner.items c.index-columns-place.result c.items.result.now c.chain.result
    c.loop-place.invariant c.loop-place-test.true c.loop-place.auto.place c.items.ensures c.index-columns-place.is c.chain.ensures.learnt c.in-Some.field-0 c.in-Some.is c.chain.ensures.kept

pub returns : goal.returns
returns c =
    record {
      counted = c.loop-place.invariant.counted;
      inner = inner_end c.args.system.now c.args.scale.now c.args.prices.now c.args.columns.now c.loop-place.place c.loop-place.inner.items c.loop-place.invariant c.loop-place-test.false;
    }
