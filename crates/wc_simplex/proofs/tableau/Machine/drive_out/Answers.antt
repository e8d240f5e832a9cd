use Rattle.std.proofs.Common.{arith}
use Rattle.wc_simplex.proofs.DriveLemmas.{driven_all, passed_goes, stopped_ends}
use Rattle.wc_simplex.proofs.PhaseLemmas.{keeps_trans}
use Rattle.std.proofs.Common.{sym, ◌∙◌}
use Rattle.wc_simplex.specs.Inner.Machines.{seen, shape_of}
use Rattle.wc_simplex.proofs.tableau.Machine.drive_out.Goals as goal

pub returns-in_default : goal.returns-in_default
returns-in_default c =
    let i = c.loop-place.invariant in
    let e = c.in_ok-stopped.ensures in
    record {
      ending =
          stopped_ends c.args.self.now c.loop-place.self c.drive_at.new.self c.loop-place.left c.loop-place.place _ c.in_ok-stopped.stopped i.1 (omega arith) i.2
          e.ending c.in_default.not-Reached;
      regular = e.regular;
      shape = keeps_trans c.args.self.now c.loop-place.self c.drive_at.new.self i.1 e.shape;
    }

pub loop-place-preserved : goal.loop-place-preserved
loop-place-preserved c =
    let i = c.loop-place.invariant in
    let e = c.in_ok-stopped.ensures in (
      e.regular,
      keeps_trans c.args.self.now c.loop-place.self c.drive_at.new.self i.1 e.shape,
      passed_goes c.args.self.now c.loop-place.self c.drive_at.new.self c.loop-place.left c.loop-place.place c.in-Reached.fewer _ c.in_ok-stopped.stopped i.1
          (omega arith) i.2 e.ending c.in-Reached.is,
    )

pub returns-clause-ending : goal.returns-clause-ending
returns-clause-ending c =
    let i = c.loop-place.invariant in
    sym i.2 ∙ driven_all (shape_of c.args.self.now) c.loop-place.left c.loop-place.place (seen c.loop-place.self) c.args.self.now.rows.items (omega arith)
