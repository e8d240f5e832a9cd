use Rattle.std.proofs.Common.{ℕ, ◌<◌, List, [], ◌∷◌, take, length, get_or, sym, subst, arith}
use Rattle.std.proofs.lemmas.List.{take_more}
use Rattle.wc_graph.specs.Inner.Spreads.{Marks}
use Rattle.wc_graph.proofs.SpreadLemmas.{at_has, marks_more}
use Rattle.wc_graph.proofs.live.Marked.mark_all.Goals as goal

pub mark-requires : goal.mark-requires
mark-requires c =
    let numbers : List ℕ = c.args.numbers.now in
    let i = c.loop-number.number-index in
    let inside : get_or numbers i 0 < length c.args.self.now.marks.items = c.requires (get_or numbers i 0) (at_has numbers i 0 (omega arith)) in
    omega (arith, inside, c.loop-number.invariant.count)

pub loop-number-preserved : goal.loop-number-preserved
loop-number-preserved c =
    let numbers : List ℕ = c.args.numbers.now in
    let i = c.loop-number.number-index in
    let less : i < length numbers = omega arith in
    subst (λ (xs : List ℕ). Marks xs c.args.self.now c.mark.new.self) (sym (take_more numbers i 0 less)) (marks_more (take i numbers) (get_or numbers i 0 ∷ []) c.args.self.now c.loop-number.self c.mark.new.self c.loop-number.invariant c.in_ok-mark.ensures)
