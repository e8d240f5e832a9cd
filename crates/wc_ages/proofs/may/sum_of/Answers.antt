use Rattle.std.proofs.Common.{ℕ, ◌≤◌, All, get_or, arith}
use Rattle.std.proofs.lemmas.List.{get_or_default}
use Rattle.std.proofs.lemmas.List.Sums.{sum_by_more_le, sum_by-le}
use Rattle.wc_ages.proofs.may.sum_of.Goals as goal

pub overflow_add-sum : goal.overflow_add-sum
overflow_add-sum c =
    let ages = c.args.ages.now in
    let each : All (λ (a : ℕ). a ≤ 255) ages = λ k d within. omega (arith, get_or_default ages k d 0 within, c.type_inv.ages k) in
    omega (arith, c.loop-age.invariant, sum_by_more_le (λ (a : ℕ). a) ages c.loop-age.age-index 0 c.loop-age-test.true, sum_by-le (λ (a : ℕ). a) 255 ages each, c.requires)
