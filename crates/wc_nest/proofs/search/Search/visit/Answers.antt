use Rattle.std.proofs.Common.{◌≡◌, List, Some, length, refl, ap, subst, inl, ◌∙◌}
use Rattle.std.specs.List.{slice_get}
use Rattle.std.proofs.lemmas.Option.{slice_get_read}
use Rattle.wc_nest.specs.declared.marking.Mark.{Mark}
use Rattle.wc_nest.specs.declared.marking.Mark.TheVariants.{New}
use Rattle.wc_nest.specs.Inner.Searches.{Spreads}
use Rattle.wc_nest.proofs.ClassLemmas.{enters_first, visited}
use Rattle.wc_nest.proofs.search.Search.visit.Goals as goal

pub run-requires-clause-search : goal.run-requires-clause-search
run-requires-clause-search c =
    let s = c.args.self.now in
    let e = c.in_ok-enter-in-New.ensures in
    let new : slice_get s.marks.items c.args.node ≡ Some New = slice_get_read s.marks.items (length s.marks.items) c.args.node c.index.result.now refl c.requires.known c.index.ensures ∙ ap Some c.in-New.is in
    rw (e.marks, e.next, e.stack, e.path, e.bounds, e.roots) (enters_first c.args.ways.now s c.requires.rested c.args.node new)

pub returns-in_ok-run-in-New : goal.returns-in_ok-run-in-New
returns-in_ok-run-in-New c =
    let s = c.args.self.now in
    let run = c.in_ok-run-in-New.ensures in
    visited c.args.ways.now c.args.node (length s.stack.items) s c.run.new.self c.requires.known run.rested (subst (λ (ms : List Mark). Spreads c.args.ways.now ms c.run.new.self.marks.items) c.in_ok-enter-in-New.ensures.marks run.spreads)

pub returns-in_default : goal.returns-in_default
returns-in_default c =
    let s = c.args.self.now in
    let at : slice_get s.marks.items c.args.node ≡ Some c.index.result.now = slice_get_read s.marks.items (length s.marks.items) c.args.node c.index.result.now refl c.requires.known c.index.ensures in
    record {
      rested = c.requires.rested;
      sized = refl;
      kept = λ p is. is;
      led = λ p is. inl is;
      marked = (c.index.result.now, at, c.in_default.not-New);
    }
