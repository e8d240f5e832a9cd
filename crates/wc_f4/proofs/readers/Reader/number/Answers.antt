use Rattle.wc_f4.specs.declared.tokens.Token.TheVariants.{Number}
use Rattle.wc_f4.specs.Views.{left}
use Rattle.wc_f4.proofs.TokenLemmas.{read_on}
use Rattle.wc_f4.proofs.readers.Reader.number.Goals as goal

pub returns-in-Number : goal.returns-in-Number
returns-in-Number c =
    (c.args.self.now.next.place, read_on c.args.self.now (Number c.in-Number.number) (left c.advance.new.self) c.in-Number.is c.advance.ensures)
