use Rattle.std.proofs.Common.{List, [], ◌∷◌, ◌++◌, Bool, refl, ap, subst, ◌∙◌}
use Rattle.wc_graph.specs.declared.frames.Leap.{Leap}
use Rattle.wc_graph.specs.declared.frames.Turn.{Turn}
use Rattle.wc_graph.specs.Inner.Exploring.{Expands, HasExpanded}
use Rattle.wc_graph.proofs.search.Search.add.Goals as goal

pub returns : goal.returns
returns c =
    let old = c.args.self.now.code in
    let mid = c.expand.new.self in
    let turns : List Turn = c.args.own.now.turns.items in
    let more : List Leap = c.expand.new.leaps.items in
    let told : Expands old mid c.args.place turns more c.in_ok-expand.field-0 = subst (λ (ts : List Turn). Expands old mid c.args.place ts more c.in_ok-expand.field-0) c.as_slice-turns.ensures.value c.in_ok-expand.ensures.expanded in
    let has : HasExpanded old mid c.args.place turns more = subst (λ (b : Bool). Expands old mid c.args.place turns more b) c.if-not-branch.false told in
    record {
      more = more;
      expanded = record { turned = record { is = has.turned.is; stays = has.turned.stays; follows = has.turned.follows }; few = has.few };
      leaps = c.in_ok-push.ensures ∙ ap (λ (xs : List Leap). mid.leaps ++ xs ∷ []) c.as_slice.ensures.value ∙ ap (λ (xs : List (List Leap)). xs ++ more ∷ []) c.in_ok-expand.ensures.leaps;
      opened = refl;
      least = refl;
    }
