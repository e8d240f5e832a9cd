use Rattle.std.proofs.Common.{take, flat_map, Ok}
use Rattle.wc_io.specs.Texts.{text_of}
use Rattle.wc_io.specs.Writing.{WritesTo}
use Rattle.wc_io.specs.declared.streams.Failed.{Failed}
use Rattle.wc_io.proofs.texts.write_pieces.Given as goal

abbrev pub invariant-loop-piece : goal.invariant-loop-piece
invariant-loop-piece g l = WritesTo {E = Failed} g.K.Sink l.fn.sink l.sink (Ok tt) (flat_map text_of (take l.piece-index l.pieces))
