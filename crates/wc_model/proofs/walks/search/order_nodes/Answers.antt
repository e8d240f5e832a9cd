use Rattle.std.proofs.Common.{ℕ, ◌≡◌, ◌-◌, List, Some, length, ap, ◌∙◌, subst}
use Rattle.std.specs.List.{slice_get}
use Rattle.wc_model.specs.Flow.Walks.{Joins, IsOrder}
use Rattle.wc_model.proofs.Searching.{search_ends}
use Rattle.wc_model.proofs.walks.search.order_nodes.Goals as goal

pub returns : goal.returns
returns g c =
    let s = c.loop-node.search in
    let no_last : (p : ℕ) → slice_get s.path.items (length s.path.items - 1) ≡ Some p → ⊥ = λ p at. c.in_default.not-Some p (c.copied.ensures ∙ c.last.ensures.value ∙ ap (λ (xs : List ℕ). slice_get xs (length xs - 1)) c.deref.ensures.value ∙ at) in
    subst (λ (n : ℕ). IsOrder (Joins g.S.Arrow.ends c.args.steps.now) n s.done.items) c.loop-node.invariant.start (search_ends g.S.Arrow.ends c.args.steps.now s.start s.marks.items s.next.items s.path.items s.done.items c.loop-node.invariant.search no_last)
