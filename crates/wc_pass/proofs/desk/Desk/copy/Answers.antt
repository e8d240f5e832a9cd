use Rattle.std.proofs.Common.{◌∙◌, sym, arith}
use Rattle.wc_pass.proofs.Steps.{splits_copy}
use Rattle.wc_pass.proofs.desk.Desk.copy.Goals as goal

pub split_seat-requires : goal.split_seat-requires
split_seat-requires c = (c.requires ∙ sym c.self.view_is, omega arith, splits_copy _ _)
