use Rattle.std.proofs.Common.{◌≡◌, ◌<◌, ◌↔◌, List, Some, true, length, refl, sym, ap, subst, ◌∙◌, arith}
use Rattle.std.specs.List.{slice_get}
use Rattle.std.proofs.lemmas.Option.{slice_get_read}
use Rattle.wc_graph.specs.Inner.Opened.{reopens}
use Rattle.wc_graph.proofs.OpenedLemmas.{call_test, test_is}
use Rattle.wc_graph.specs.declared.keys.Branch.{Branch}
use Rattle.wc_graph.specs.Inner.Keys.{AreBranches, IsIn}
use Rattle.wc_graph.proofs.opened.Opened.reopens_one.Goals as goal

pub has-requires-clause-are : goal.has-requires-clause-are
has-requires-clause-are c = subst AreBranches (sym c.as_slice.ensures.value) c.requires.opened.are

pub has-requires-clause-inside : goal.has-requires-clause-inside
has-requires-clause-inside c =
    let rs = c.args.self.now.roots.items in
    let at : slice_get rs c.args.frame ≡ Some c.index-root.result.now = slice_get_read rs (length rs) c.args.frame c.index-root.result.now refl c.requires.inside c.index-root.ensures in
    let short : c.index-root.result.now < length c.args.self.now.branches.items = c.requires.opened.inside c.args.frame c.index-root.result.now at in
    omega (arith, short, ap length c.as_slice.ensures.value)

pub returns-in-Call : goal.returns-in-Call
returns-in-Call c = λ entry calls stack.
    let rs = c.args.self.now.roots.items in
    let bs = c.args.self.now.branches.items in
    let root = c.index-root.result.now in
    let callee = c.in-Call.callee in
    let at : slice_get rs c.args.frame ≡ Some root = slice_get_read rs (length rs) c.args.frame root refl c.requires.inside c.index-root.ensures in
    let both : c.has.result ≡ true ↔ IsIn bs callee callee (Some root) = subst (λ (xs : List Branch). c.has.result ≡ true ↔ IsIn xs callee callee (Some root)) c.as_slice.ensures.value (test_is c.has.result (IsIn c.as_slice.result.now callee callee (Some root)) c.has.ensures) in
    call_test c.args.frames.now bs rs entry c.args.frame root callee c.in-Call.returns calls c.has.result c.requires.frames c.requires.opened at both stack ∙ ap (reopens entry calls) (sym c.in-Call.is)
