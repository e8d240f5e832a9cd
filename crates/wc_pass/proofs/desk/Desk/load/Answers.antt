use Rattle.std.proofs.Common.{◌∙◌, sym, arith}
use Rattle.wc_pass.proofs.Steps.{loads}
use Rattle.wc_pass.proofs.desk.Desk.load.Goals as goal

pub load-requires : goal.load-requires
load-requires c = (c.requires ∙ sym c.self.view_is, omega arith, loads _ _ _)
