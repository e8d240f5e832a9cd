use Rattle.wc_f4.specs.declared.tokens.Token.TheVariants.{Quoted}
use Rattle.wc_f4.specs.Views.{left}
use Rattle.wc_f4.proofs.TokenLemmas.{read_on}
use Rattle.wc_f4.proofs.readers.Reader.quoted.Goals as goal

pub returns-in-Quoted : goal.returns-in-Quoted
returns-in-Quoted c =
    (c.args.self.now.next.place, read_on c.args.self.now (Quoted c.in-Quoted.quoted) (left c.advance.new.self) c.in-Quoted.is c.advance.ensures)
