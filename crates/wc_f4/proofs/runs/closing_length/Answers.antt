use Rattle.std.proofs.Common.{◌∙◌, sym, arith}
use Rattle.wc_f4.proofs.RunLemmas.{closes_here, closes_later, closes_never}
use Rattle.wc_f4.proofs.runs.closing_length.Goals as goal

pub returns-then-closes-clause-value : goal.returns-then-closes-clause-value
returns-then-closes-clause-value c =
    closes_here c.args.bytes.now c.loop-count.count c.loop-count-test.true (sym c.closes.ensures ∙ c.if-closes.true) ∙ c.loop-count.invariant.value

pub loop-count-preserved : goal.loop-count-preserved
loop-count-preserved c = record {
  inside = omega arith;
  value = closes_later c.args.bytes.now c.loop-count.count c.loop-count-test.true (sym c.closes.ensures ∙ c.if-closes.false) ∙ c.loop-count.invariant.value;
}

pub returns-clause-value : goal.returns-clause-value
returns-clause-value c = closes_never c.args.bytes.now c.loop-count.count c.loop-count-test.false ∙ c.loop-count.invariant.value
