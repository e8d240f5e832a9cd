use Rattle.wc_io.specs.Texts.{text_of}
use Rattle.wc_io.proofs.WritingLemmas.{WritesTo_pieces}
use Rattle.wc_io.proofs.texts.write_pieces.Goals as goal

pub returns-in-Err : goal.returns-in-Err
returns-in-Err g c =
    WritesTo_pieces g.K.Sink _ c.loop-piece.sink _ _ _ _ text_of c.args.pieces.now c.loop-piece.piece-index _ c.loop-piece-test.true c.loop-piece.invariant c.in-Err.ensures
