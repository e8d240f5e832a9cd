use Rattle.std.proofs.Common.{◌+◌, refl}
use Rattle.std.specs.List.{slice_index}
use Rattle.wc_model.proofs.Leaving.{rises, are_steps_of}
use Rattle.wc_model.proofs.walks.places.steps_from.Goals as goal

pub slice_bounds-result-count : goal.slice_bounds-result-count
slice_bounds-result-count g c =
    let starts = c.args.starts.now in
    rises g.S.Arrow.ends c.args.steps.now starts c.args.node (slice_index starts c.args.node) (slice_index starts (c.args.node + 1)) c.requires.starts c.requires.known refl refl

pub slice_bounds-result-start : goal.slice_bounds-result-start
slice_bounds-result-start g c =
    let starts = c.args.starts.now in
    rises g.S.Arrow.ends c.args.steps.now starts c.args.node (slice_index starts c.args.node) (slice_index starts (c.args.node + 1)) c.requires.starts c.requires.known refl refl

pub returns : goal.returns
returns g c =
    let starts = c.args.starts.now in
    are_steps_of g.S.Arrow.ends c.args.steps.now starts c.args.node (slice_index starts c.args.node) (slice_index starts (c.args.node + 1)) c.requires.starts c.requires.known refl refl
