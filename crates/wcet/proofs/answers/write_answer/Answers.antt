use Rattle.wcet.proofs.answers.write_answer.Goals as goal

pub returns-in-ReadFault-clause-text : goal.returns-in-ReadFault-clause-text
returns-in-ReadFault-clause-text g c = rw c.in-ReadFault.is c.write_pieces-in-ReadFault.ensures.text
