use Rattle.std.proofs.Common.{◌≡◌, [], ◌∷◌, ◌++◌, List, length, refl, sym, ap, subst, ◌∙◌, append-nil, append_assoc, arith, rules}
use Rattle.std.specs.List.{All}
use Rattle.std.proofs.lemmas.List.Elements.{All-push}
use Rattle.std.specs.Vec.Iter.{into_iter_items}
use Rattle.wc_pass.specs.Known.{Known as KnownPen, KnownPass}
use Rattle.wc_flight.specs.Closing.{IsWhole}
use Rattle.wc_flight.proofs.closing.show_to.Goals as goal

nothing_left : (l : List KnownPass) → length l ≡ 0 → l ≡ []
nothing_left [] h = refl
nothing_left (x ∷ xs) h = absurd (omega arith)

pub loop-pass-preserved : goal.loop-pass-preserved
loop-pass-preserved c =
    let at = c.loop-pass in
    let x = c.in-Some.pass in
    let pen = at.invariant.2 in
    let W : KnownPen → Type 0 = λ p. IsWhole p.seen x in
    let steps : into_iter_items at.pass-iterator ≡ x ∷ into_iter_items c.next.new.self = c.in-Some.ensures.steps.0 in (
      search rules,
      search rules,
      search rules,
      append_assoc at.yielded (x ∷ []) _ ∙ rw (← steps) at.invariant.3,
      (let was = at.invariant.4 in let gone = c.in-Some.ensures.steps.1 in let short = ap length steps in omega arith),
      All-push (IsWhole c.args.pen.now.seen) at.yielded x at.invariant.5 (subst W pen (record { before = c.meet.ensures.before; entries = c.meet.ensures.own })),
    )

pub returns-clause-whole : goal.returns-clause-whole
returns-clause-whole c =
    let at = c.loop-pass in
    let none = c.in-None.ensures.steps in
    let empty : into_iter_items at.pass-iterator ≡ [] = nothing_left _ (sym at.invariant.4 ∙ none.0) in
    let all = sym (append-nil at.yielded) ∙ rw empty at at.invariant.3 in
    subst (λ l. All (IsWhole c.args.pen.now.seen) l) all at.invariant.5
