use Rattle.std.proofs.Common.{ap, ◌∙◌}
use Rattle.wc_session_next.proofs.AnswerLemmas.{answer_of, followed, unread}
use Rattle.wc_session_next.proofs.serving.answer_line.Goals as goal

pub returns-in-Ok-clause-answer : goal.returns-in-Ok-clause-answer
returns-in-Ok-clause-answer g c = followed _ _ _ _ c.in-Ok.command _ _ c.in-Ok.ensures c.follow.ensures.reply c.follow.ensures.end

pub returns-in-Err-clause-answer : goal.returns-in-Err-clause-answer
returns-in-Err-clause-answer g c = unread _ _ _ c.in-Err.trouble _ c.in-Err.ensures (c.of.ensures ∙ ap answer_of c.from.ensures)
