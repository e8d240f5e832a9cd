use Rattle.std.proofs.Common.{◌∙◌, sym, arith}
use Rattle.wc_pass.proofs.Steps.{splits_role}
use Rattle.wc_pass.proofs.desk.Desk.split_role.Goals as goal

pub split_seat-requires : goal.split_seat-requires
split_seat-requires c = (c.requires.0 ∙ sym c.self.view_is, omega arith, splits_role _ _ c.requires.1)
