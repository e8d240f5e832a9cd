use Rattle.wc_session.proofs.CommandLemmas.{after_cases}
use Rattle.wc_session.proofs.commands.after.Goals as goal

pub returns : goal.returns
returns c = after_cases _ _ _ _ c.strip_prefix.ensures.cases
