use Rattle.std.proofs.Common.{◌≡◌, List, map, refl, sym, ap, ap₂, subst, ◌∙◌}
use Rattle.std.specs.List.{All}
use Rattle.atomic_table.specs.Seated.{TableId}
use Rattle.wc_model.specs.declared.entries.Entry.{Entry}
use Rattle.wc_pass.specs.Known.{Known as KnownPen, KnownPass}
use Rattle.wc_pass.proofs.NewPasses.{new_passes-desk}
use Rattle.wc_flight.specs.Openings.{shown}
use Rattle.wc_flight.proofs.OpeningLemmas.{opened_by_none, prepared}
use Rattle.wc_flight.proofs.preparing.prepare.Goals as goal

pub publish_all-requires-clause-opening : goal.publish_all-requires-clause-opening
publish_all-requires-clause-opening g c = opened_by_none _ _ _ _ c.history.ensures.history c.in_ok-core.ensures

pub show_all-requires : goal.show_all-requires
show_all-requires g c =
    let own : TableId = c.in_ok-desk.desk in (
      ap (λ (p : KnownPen). p.desk) (c.publish_all.ensures) ∙ ap (λ (p : KnownPen). p.desk) c.in_ok-desk.ensures.pen,
      subst (λ (ps : List KnownPass). All (λ (p : KnownPass). p.desk ≡ own) ps) (sym c.in_ok-desk.ensures.passes) (new_passes-desk own c.args.sessions),
    )

pub invariant_of-result : goal.invariant_of-result
invariant_of-result g c =
    let own : TableId = c.in_ok-desk.desk in
    let history : List Entry = c.history.result.now in
    let made : List KnownPass = c.in_ok-desk.passes.items in
    let pen : c.publish_all.new.pen ≡ record { desk = own; seen = history } =
    c.publish_all.ensures ∙ ap (λ (p : KnownPen). record p { seen = history }) c.in_ok-desk.ensures.pen in
    let told = c.history.ensures.history in
    let pen_is = c.show_all.ensures.same ∙ pen ∙ ap (λ (h : List Entry). record { desk = own; seen = h }) told in
    let passes_are = c.in_ok-passes.ensures.seen ∙ ap₂ (λ (h : List Entry) (ps : List KnownPass). map (shown h) ps) (ap (λ (p : KnownPen). p.seen) pen ∙ told) c.in_ok-desk.ensures.passes in
    prepared g.W.Work.chain own c.in_ok-core.core _ c.show_all.new.pen c.in_ok-passes.passes.items c.args.sessions c.in_ok-core.ensures refl pen_is passes_are
