-- The place that stands behind a fault's number and name.
use Rattle.std.specs.Prelude.{ℕ, List, [], decimal}
use Rattle.wc_base.specs.FaultTexts.{address}
use Rattle.wc_io.specs.declared.fault_texts.Tail.{Tail}
use Rattle.wc_io.specs.declared.fault_texts.Tail.TheVariants as tail

abbrev pub tail_text : Tail → List ℕ
tail_text tail.Nothing = []
tail_text (tail.Number n) = decimal n
tail_text (tail.Address at) = address at
tail_text (tail.Name name) = name.now
