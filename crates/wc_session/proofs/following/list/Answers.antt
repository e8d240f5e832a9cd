use Rattle.wc_session.proofs.ListLemmas.{follows_list}
use Rattle.wc_session.proofs.following.list.Goals as goal

pub returns-in-Ok-clause-reply : goal.returns-in-Ok-clause-reply
returns-in-Ok-clause-reply g c = follows_list _ _ _ c.in-Ok.ensures.answer
