use Rattle.std.proofs.Common.{Global, Option, Vec, ◌≡◌, ◌∙◌, ℤ, ap, ap₂, length, pos, subst}
use Rattle.std.specs.Option.{option_map}
use Rattle.std.proofs.lemmas.Result.{IfOk-weaker}
use Rattle.wc_model.specs.Flow.Exact.{each_of}
use Rattle.wc_model.specs.Flow.RowResults.{counts_of}
use Rattle.wc_simplex.specs.Inner.Counts.{AreColumnsAt, counted}
use Rattle.wc_simplex.specs.Inner.Machines.{seen, shape_of}
use Rattle.wc_simplex.proofs.CodeLemmas.{counts_at}
use Rattle.wc_simplex.proofs.counts.step_counts.Goals as goal

pub returns : goal.returns
returns c =
    let s = c.args.system.now in
    let m = c.args.machine.now in
    let columns_at = subst (λ n. AreColumnsAt n c.args.columns.now 0 c.in_ok-at.at.items) (ap length c.items.ensures) c.in_ok-at.ensures in
    IfOk-weaker c.count_steps.result (λ (o : Option (Vec ℤ Global)). option_map (λ v. v.items) o ≡ each_of (counted m c.args.den c.deref.result.now) c.deref-2.result.now)
    (λ (o : Option (Vec ℤ Global)). option_map (λ v. v.items) o ≡ counts_of s (shape_of m) (seen m) c.args.columns.now (pos c.args.den))
    (λ o is. is ∙ ap₂ (λ rs xs. each_of (counted m c.args.den rs) xs) c.deref.ensures.value c.deref-2.ensures.value
    ∙ counts_at s m c.args.den c.args.columns.now c.in_ok-rows.rows.items c.in_ok-at.at.items c.in_ok-rows.ensures columns_at c.requires.few) c.count_steps.ensures
