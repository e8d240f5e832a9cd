use Rattle.std.proofs.Common.{sym, subst}
use Rattle.wc_session.specs.Answered.{IsSilent}
use Rattle.wc_session_next.proofs.FollowLemmas.{follows_silent}
use Rattle.wc_session_next.proofs.following.follow.Goals as goal

pub returns-in-Quit-clause-reply : goal.returns-in-Quit-clause-reply
returns-in-Quit-clause-reply g c = follows_silent _ _ c.silent.result _ (subst IsSilent (sym c.in-Quit.is) tt) c.silent.ensures

pub returns-in-Blank-clause-reply : goal.returns-in-Blank-clause-reply
returns-in-Blank-clause-reply g c =
    follows_silent _ _ c.silent-in-Blank.result _ (subst IsSilent (sym c.in-Blank.is) tt) c.silent-in-Blank.ensures
