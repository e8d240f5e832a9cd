use Rattle.std.proofs.Common.{◌∙◌, sym, arith}
use Rattle.wc_pass.proofs.Steps.{joins_copy}
use Rattle.wc_pass.proofs.desk.Desk.take_copy.Goals as goal

pub join_seat-requires : goal.join_seat-requires
join_seat-requires c = (c.requires.seat.0 ∙ sym c.self.view_is, c.requires.copy.0 ∙ sym c.self.view_is, c.requires.copy.2, omega arith, joins_copy _ _ _ _ c.requires.seat.1 c.requires.copy.1)
