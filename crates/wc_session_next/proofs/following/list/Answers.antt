use Rattle.wc_session_next.proofs.FollowLemmas.{follows_listed}
use Rattle.wc_session_next.proofs.following.list.Goals as goal

pub returns-in-Ok-clause-reply : goal.returns-in-Ok-clause-reply
returns-in-Ok-clause-reply g c = follows_listed _ _ _ _ c.in-Ok.ensures.answer
