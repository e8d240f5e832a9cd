-- The texts that pieces stand for.
use Rattle.std.specs.Prelude.{ℕ, List, decimal}
use Rattle.wc_base.specs.FaultTexts.{address, fault_text}
use Rattle.wc_io.specs.declared.texts.Piece.{Piece}
use Rattle.wc_io.specs.declared.texts.Piece.TheVariants as piece

abbrev pub text_of : Piece → List ℕ
text_of (piece.Bytes bytes) = bytes.now
text_of (piece.Decimal n) = decimal n
text_of (piece.Address at) = address at
text_of (piece.Fault f) = fault_text f
