use Rattle.std.proofs.Common.{◌++◌, refl}
use Rattle.std.specs.Prelude.{codes}
use Rattle.wc_base.specs.FaultTexts.{address}
use Rattle.wc_f4.proofs.PrintingLemmas.{Writes_item}
use Rattle.wc_f4.proofs.printing.write_more_addresses.Goals as goal

pub returns-in_err-write_pieces-clause-text : goal.returns-in_err-write_pieces-clause-text
returns-in_err-write_pieces-clause-text g c =
    Writes_item _ (g.K.Sink.held c.loop-address.sink) _ c.from_residual.result (λ x. codes ", " ++ address x) c.args.addresses.now c.loop-address.address-index _ 0
    c.from_residual.ensures.0 c.loop-address-test.true refl c.loop-address.invariant.written c.in_err-write_pieces.ensures.text
