use Rattle.std.proofs.Common.{arith}
use Rattle.wc_f4.specs.declared.runs.Kind.TheVariants.{Letter}
use Rattle.wc_f4.proofs.RunLemmas.{run_some}
use Rattle.wc_f4.proofs.pieces.word_at.Goals as goal

pub returns-clause-inside : goal.returns-clause-inside
returns-clause-inside c =
    let some = run_some Letter c.args.rest.now c.requires.some c.requires.letter in
    (omega (arith, some, c.run_length-length.ensures.value), c.run_length-length.ensures.inside)
