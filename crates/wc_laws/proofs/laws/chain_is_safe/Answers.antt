use Rattle.wc_laws.proofs.SafeLemmas.{chain_is_safe as law}
use Rattle.wc_laws.proofs.laws.chain_is_safe.Goals as goal

pub returns : goal.returns
returns c = law
