use Rattle.std.proofs.Common.{◌∙◌, sym, arith}
use Rattle.wc_pass.proofs.Steps.{splits_pass}
use Rattle.wc_pass.proofs.desk.Desk.new_pass.Goals as goal

pub split_seat-requires : goal.split_seat-requires
split_seat-requires c = (c.requires.0 ∙ sym c.self.view_is, omega arith, splits_pass _ _ c.requires.1)
