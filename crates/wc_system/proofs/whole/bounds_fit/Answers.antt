use Rattle.std.proofs.Common.{rules}
use Rattle.wc_system.proofs.whole.bounds_fit.Goals as goal

pub returns : goal.returns
returns c = λ k. (c.type_inv.bounds k).fits
