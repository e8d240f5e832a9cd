use Rattle.std.proofs.Common.{List, subst}
use Rattle.wc_graph.specs.declared.frames.Frame.{Frame}
use Rattle.wc_graph.specs.declared.frames.Turn.{Turn}
use Rattle.wc_graph.specs.Inner.Opened.{AreOpened}
use Rattle.wc_graph.specs.Inner.Ways.{AreTurns}
use Rattle.wc_graph.proofs.SearchLemmas.{skip_on, add_on}
use Rattle.wc_graph.proofs.ResultLemmas.{if_ok}
use Rattle.wc_graph.proofs.search.Search.expand.Goals as goal

pub returns-in-Some : goal.returns-in-Some
returns-in-Some c =
    let old = c.args.self.now in
    let opened = c.turns_of.new.opened in
    let turns : List Turn = c.turns_of.new.turns.items in
    let keys = c.as_slice-frames.ensures.keys in
    skip_on c.args.image.now c.args.stated.now old opened c.args.place c.requires.ready c.requires.next
    (subst (λ (fs : List Frame). AreOpened fs opened) keys c.in_ok-told.ensures.opened)
    c.skip.new.self turns c.in-Some.fault
    (λ facts are. subst (AreTurns c.args.image.now facts old.code.frames.keys c.args.place turns) c.in-Some.is (subst (λ (fs : List Frame). AreTurns c.args.image.now facts fs c.args.place turns c.in_ok-told.told) keys (c.in_ok-told.ensures.turns facts are)))
    c.in_ok-skip.ensures

pub returns : goal.returns
returns c =
    let old = c.args.self.now in
    let opened = c.turns_of.new.opened in
    let turns : List Turn = c.turns_of.new.turns.items in
    let keys = c.as_slice-frames.ensures.keys in
    if_ok c.add.result c.add.ensures (λ more adds.
    add_on c.args.image.now c.args.stated.now old opened c.args.place c.requires.ready c.requires.next
    (subst (λ (fs : List Frame). AreOpened fs opened) keys c.in_ok-told.ensures.opened)
    c.add.new.self turns more
    (λ facts are. subst (AreTurns c.args.image.now facts old.code.frames.keys c.args.place turns) c.in_default.is (subst (λ (fs : List Frame). AreTurns c.args.image.now facts fs c.args.place turns c.in_ok-told.told) keys (c.in_ok-told.ensures.turns facts are)))
    adds)
