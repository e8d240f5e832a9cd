use Rattle.std.proofs.Common.{◌≡◌, false, true, Some, length, refl, ap, ◌∙◌}
use Rattle.std.specs.List.{slice_get}
use Rattle.std.specs.Vec.{with_item}
use Rattle.std.proofs.lemmas.Option.{slice_get_read}
use Rattle.wc_graph.proofs.SpreadLemmas.{marks_one}
use Rattle.wc_graph.proofs.live.Marked.mark.Goals as goal

pub returns : goal.returns
returns c =
    let old = c.args.self.now in
    let n = c.args.number in
    let at : slice_get old.marks.items n ≡ Some false = slice_get_read old.marks.items (length old.marks.items) n c.index.result.now refl c.requires c.index.ensures ∙ ap Some c.if-index.false in
    marks_one old (record { marks = with_item old.marks n true; work = c.push.new.self }) n at refl c.in_ok-push.ensures.items
