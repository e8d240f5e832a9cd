use Rattle.std.proofs.Common.{arith, ap}
use Rattle.wc_f4.specs.Bytes.{is_of}
use Rattle.wc_f4.specs.declared.runs.Kind.TheVariants.{Line}
use Rattle.wc_f4.proofs.RunLemmas.{run_some}
use Rattle.wc_f4.proofs.pieces.comment_at.Goals as goal

pub returns-then-has_at-clause-inside : goal.returns-then-has_at-clause-inside
returns-then-has_at-clause-inside c =
    let some = run_some Line c.args.rest.now c.requires.some (ap (is_of Line) c.requires.slash) in
    (omega (arith, some, c.run_length.ensures.value), c.run_length.ensures.inside)
