use Rattle.std.proofs.Common.{◌∙◌, ap, sym, arith}
use Rattle.wc_model.specs.Workspace.Entries.{session_of}
use Rattle.wc_pass.proofs.Steps.{adds}
use Rattle.wc_pass.proofs.desk.Desk.store.Goals as goal

pub store-requires : goal.store-requires
store-requires g c = (c.requires.seat.0 ∙ sym c.self.view_is, omega arith, adds _ _ _ _ _ c.requires.seat.1 c.requires.seat.2 (ap session_of (sym c.requires.entry.0) ∙ c.requires.entry.1) (omega arith))
