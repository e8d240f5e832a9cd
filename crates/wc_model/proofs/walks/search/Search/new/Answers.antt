use Rattle.wc_model.proofs.Searching.{search_begin}
use Rattle.wc_model.proofs.walks.search.Search.new.Goals as goal

pub returns-clause-search : goal.returns-clause-search
returns-clause-search g c =
    let e = c.in_ok-enter.ensures in
    rw (e.start, e.marks, e.next, e.path, e.done, c.in_ok-new_marks.ensures, c.new.ensures.items, c.new-2.ensures.items) (search_begin g.S.Arrow.ends c.args.nodes c.args.steps.now c.in_ok-starts.field-0.items c.args.start c.requires.steps c.in_ok-starts.ensures c.requires.start)
