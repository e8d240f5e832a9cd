use Rattle.std.proofs.Common.{◌≡◌, Some}
use Rattle.std.specs.List.{slice_get, slice_index_or}
use Rattle.std.proofs.lemmas.Option.{slice_get-get_or}
use Rattle.wc_nest.specs.declared.ways.Way.{Way}
use Rattle.wc_nest.proofs.ClassLemmas.{first_new}
use Rattle.wc_nest.proofs.classes.note_first.Goals as goal

pub returns-then-is_first-clause-first : goal.returns-then-is_first-clause-first
returns-then-is_first-clause-first c = λ old.
    let ways = c.args.ways.now in
    let way : Way = slice_index_or ways c.args.index (record { source = 0; target = 0; place = 0 }) in
    let at : slice_get ways c.args.index ≡ Some way = slice_get-get_or ways c.args.index (record { source = 0; target = 0; place = 0 }) c.requires.inside in
    first_new ways c.requires.sorted c.args.index way at c.args.next.now.items old (rw c.if-is_first.true at c.is_first.ensures) (c.requires.known c.args.index (record { source = 0; target = 0; place = 0 }) c.requires.inside)
