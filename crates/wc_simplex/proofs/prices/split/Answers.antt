use Rattle.std.proofs.Common.{◌≡◌, ◌-◌, ◌+◌, ◌∙◌, ℕ, List, ap, ap₂, drop, length, take, arith, sym}
use Rattle.std.proofs.lemmas.List.{length-drop, take_all}
use Rattle.wc_model.specs.Flow.Cells.{row_nodes}
use Rattle.wc_simplex.proofs.PricedLemmas.{split_is}
use Rattle.wc_simplex.proofs.prices.split.Goals as goal

pub returns : goal.returns
returns c =
    split_is c.args.system.now c.args.passed.now c.args.all.now (record { nodes = c.in_ok-node_prices.field-0; loops = c.in_ok-part.field-0; limits = c.in_ok-part-2.field-0 }) c.requires.passed
    c.requires.all c.in_ok-node_prices.ensures loops_are limits_are
  where
    rest : ℕ
    rest = length c.args.all.now - length c.items-limits.result.now - length c.items-loops.result.now

    loops_same : length c.items-loops.result.now ≡ length c.args.system.now.loops
    loops_same = ap length c.items-loops.ensures

    limits_same : length c.items-limits.result.now ≡ length c.args.system.now.limits
    limits_same = ap length c.items-limits.ensures

    first : rest ≡ length (row_nodes c.args.system.now)
    first = omega (arith, c.requires.all, loops_same, limits_same)

    second : rest + length c.items-loops.result.now ≡ length (row_nodes c.args.system.now) + length c.args.system.now.loops
    second = ap₂ (λ m n. m + n) first loops_same

    loops_are : c.in_ok-part.field-0.items ≡ take (length c.args.system.now.loops) (drop (length (row_nodes c.args.system.now)) c.args.all.now)
    loops_are = c.in_ok-part.ensures ∙ ap₂ (λ m n. take m (drop n c.args.all.now)) loops_same first

    limits_are : c.in_ok-part-2.field-0.items ≡ drop (length (row_nodes c.args.system.now) + length c.args.system.now.loops) c.args.all.now
    limits_are =
        c.in_ok-part-2.ensures ∙ ap₂ (λ m n. take m (drop n c.args.all.now)) limits_same second
        ∙ take_all (length c.args.system.now.limits) (drop (length (row_nodes c.args.system.now) + length c.args.system.now.loops) c.args.all.now)
        (omega (arith, c.requires.all, length-drop (length (row_nodes c.args.system.now) + length c.args.system.now.loops) c.args.all.now))
