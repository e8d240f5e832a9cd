use Rattle.std.proofs.Common.{◌∙◌, sym, arith}
use Rattle.wc_pass.proofs.Steps.{joins_role}
use Rattle.wc_pass.proofs.desk.Desk.join_role.Goals as goal

pub join_seat-requires : goal.join_seat-requires
join_seat-requires c = (c.requires.seat.0 ∙ sym c.self.view_is, c.requires.role.0 ∙ sym c.self.view_is, c.requires.role.2, omega arith, joins_role _ _ _ _ c.requires.seat.1 c.requires.role.1)
