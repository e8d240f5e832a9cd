use Rattle.std.proofs.Common.{length, subst, ⊎_elim, arith}
use Rattle.wc_model.specs.Flow.Places.{number_at}
use Rattle.wc_dual.specs.Inner.Blocks.{Adds}
use Rattle.wc_dual.specs.Inner.Lines.{AreStarts, HasWideBound, HasWideFactor, HasWideStart, back_term, entry_term, limit_term, listed}
use Rattle.wc_dual.specs.Inner.Passes.{CannotSum, IsPass, added_by}
use Rattle.wc_dual.proofs.LineLemmas.{lines_or_wide, wide_back, wide_bound, wide_entry, wide_start}
use Rattle.wc_dual.proofs.prices.lines_of.Goals as goal

pub returns-then-not-open_lines : goal.returns-then-not-open_lines
returns-then-not-open_lines c = λ scale.
    wide_start c.args.system.now (listed c.args.prices.now) scale c.args.first (length c.args.sums.now) c.requires.inside
    (subst (λ steps. HasWideStart steps (number_at c.args.prices.now.u.now)) c.items-steps.ensures c.if-not-open_lines.ensures)

pub returns-then-not-add_backs : goal.returns-then-not-add_backs
returns-then-not-add_backs c = λ scale.
    ⊎_elim (λ none. absurd none)
    (λ cannot. wide_back c.args.system.now (listed c.args.prices.now) scale c.args.first (length c.args.sums.now) c.requires.inside c.open_lines.new.sums (omega arith)
    (subst (λ steps. AreStarts steps (number_at c.args.prices.now.u.now) c.args.first (length c.args.sums.now) c.open_lines.new.sums) c.items-steps.ensures c.if-not-open_lines.ensures)
    (subst (λ loops. CannotSum (back_term (number_at c.args.prices.now.v.now)) loops c.args.first c.open_lines.new.sums) c.items-loops.ensures cannot))
    c.if-not-add_backs.ensures

pub returns-then-not-add_entries : goal.returns-then-not-add_entries
returns-then-not-add_entries c = λ scale.
    let inside = c.requires.inside in
    let starts = subst (λ steps. AreStarts steps (number_at c.args.prices.now.u.now) c.args.first (length c.args.sums.now) c.open_lines.new.sums) c.items-steps.ensures c.if-not-open_lines.ensures in
    let backs = subst (λ loops. Adds c.args.first (added_by (back_term (number_at c.args.prices.now.v.now)) loops) c.open_lines.new.sums c.add_backs.new.sums) c.items-loops.ensures c.if-not-add_backs.ensures in
    ⊎_elim
    (λ wide. wide_bound c.args.system.now (listed c.args.prices.now) scale c.args.first (length c.args.sums.now) inside
    (subst (λ loops. HasWideBound loops (number_at c.args.prices.now.v.now)) c.items-loops.ensures wide))
    (λ cannot. wide_entry c.args.system.now (listed c.args.prices.now) scale c.args.first (length c.args.sums.now) inside c.open_lines.new.sums (omega arith) starts c.add_backs.new.sums backs
    (subst (λ loops. CannotSum (entry_term (number_at c.args.prices.now.v.now)) loops c.args.first c.add_backs.new.sums) c.items-loops.ensures cannot))
    c.if-not-add_entries.ensures

pub returns : goal.returns
returns c =
    let starts = subst (λ steps. AreStarts steps (number_at c.args.prices.now.u.now) c.args.first (length c.args.sums.now) c.open_lines.new.sums) c.items-steps.ensures c.if-not-open_lines.ensures in
    let backs = subst (λ loops. Adds c.args.first (added_by (back_term (number_at c.args.prices.now.v.now)) loops) c.open_lines.new.sums c.add_backs.new.sums) c.items-loops.ensures c.if-not-add_backs.ensures in
    let entries = subst (λ loops. Adds c.args.first (added_by (entry_term (number_at c.args.prices.now.v.now)) loops) c.add_backs.new.sums c.add_entries.new.sums) c.items-loops.ensures c.if-not-add_entries.ensures in
    let pass = subst (λ steps. IsPass (HasWideFactor steps c.items.result.now (number_at c.args.prices.now.w.now)) (limit_term steps (number_at c.args.prices.now.w.now)) c.items.result.now c.args.first c.add_entries.new.sums
    c.add_limits.new.sums c.add_limits.result) c.items-steps.ensures c.add_limits.ensures in
    lines_or_wide c.args.system.now (listed c.args.prices.now) c.args.first (length c.args.sums.now) c.requires.inside c.open_lines.new.sums (omega arith) starts c.add_backs.new.sums backs c.add_entries.new.sums entries
    c.add_limits.new.sums _ c.items.ensures c.add_limits.result pass
