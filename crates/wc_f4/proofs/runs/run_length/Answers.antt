use Rattle.std.proofs.Common.{◌∙◌, sym, arith}
use Rattle.wc_f4.proofs.RunLemmas.{run_next, run_stops, run_ends}
use Rattle.wc_f4.proofs.runs.run_length.Goals as goal

pub loop-count-preserved : goal.loop-count-preserved
loop-count-preserved c = record {
  inside = omega arith;
  value = sym (run_next c.args.kind c.args.bytes.now c.loop-count.count c.loop-count-test.true (sym c.is_of.ensures ∙ c.if-is_of.true)) ∙ c.loop-count.invariant.value;
}

pub returns-else-is_of-clause-value : goal.returns-else-is_of-clause-value
returns-else-is_of-clause-value c =
    omega (arith, run_stops c.args.kind c.args.bytes.now c.loop-count.count c.loop-count-test.true (sym c.is_of.ensures ∙ c.if-is_of.false), c.loop-count.invariant.value)

pub returns-after-loop-count-clause-value : goal.returns-after-loop-count-clause-value
returns-after-loop-count-clause-value c =
    omega (arith, run_ends c.args.kind c.args.bytes.now c.loop-count.count c.loop-count-test.false, c.loop-count.invariant.value)
