use Rattle.wc_base.proofs.DigitLemmas.{digits_text}
use Rattle.wc_base.proofs.decimals.read_number.Goals as goal

pub returns-in_default : goal.returns-in_default
returns-in_default c = λ n is. absurd (c.in_default.ensures.cases.0 (digits_text c.args.base c.args.digits.now c.requires.few is.0.1))
