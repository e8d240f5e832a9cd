use Rattle.std.proofs.Common.{◌≡◌, length, drop, ap, ◌∙◌, arith}
use Rattle.std.proofs.lemmas.Slice.{between_to_end}
use Rattle.std.specs.List.{between}
use Rattle.wc_f4.specs.Bytes.{run_length}
use Rattle.wc_f4.specs.declared.runs.Kind.TheVariants.{Decimal, Hexadecimal}
use Rattle.wc_f4.proofs.RunLemmas.{decimal_digit, hexadecimal_digit, run_behind, run_front, run_some}
use Rattle.wc_f4.proofs.pieces.number_at.Goals as goal

pub number_of-requires-clause-digits : goal.number_of-requires-clause-digits
number_of-requires-clause-digits c =
    let rest : between 2 (length c.args.rest.now) c.args.rest.now ≡ drop 2 c.args.rest.now = between_to_end c.args.rest.now 2 (length c.args.rest.now) (omega arith) in
    run_behind Hexadecimal 16 hexadecimal_digit c.args.rest.now 2 c.run_length-digits.result (c.run_length-digits.ensures.value ∙ ap (run_length Hexadecimal) rest) c.if-digits-gt0.true
    (omega (arith, ap length rest, c.run_length-digits.ensures.inside))

pub number_of-requires-2-clause-digits : goal.number_of-requires-2-clause-digits
number_of-requires-2-clause-digits c =
    let some = run_some Decimal c.args.rest.now c.requires.some c.requires.digit in
    run_front Decimal 10 decimal_digit c.args.rest.now c.run_length-digits-2.result c.run_length-digits-2.ensures.value (omega (arith, some, c.run_length-digits-2.ensures.value)) c.run_length-digits-2.ensures.inside

pub returns-clause-inside : goal.returns-clause-inside
returns-clause-inside c =
    let some = run_some Decimal c.args.rest.now c.requires.some c.requires.digit in
    (omega (arith, some, c.run_length-digits-2.ensures.value), c.run_length-digits-2.ensures.inside)
