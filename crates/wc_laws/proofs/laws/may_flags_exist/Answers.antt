use Rattle.wc_laws.proofs.MayFlags.{may_flags_exist}
use Rattle.wc_laws.proofs.laws.may_flags_exist.Goals as goal

pub returns : goal.returns
returns c = may_flags_exist
