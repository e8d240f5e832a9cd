use Rattle.std.proofs.Common.{◌≡◌, ◌<◌, ℕ, ap, subst, length, ◌∙◌}
use Rattle.std.specs.Prelude.{slice_index}
use Rattle.wc_model.specs.Flow.Ceiling.{dearest}
use Rattle.wc_system.specs.Inner.Capped.{AreRounds}
use Rattle.wc_system.proofs.CeilingLemmas.{ceiling_is}
use Rattle.wc_system.proofs.ceiling.capped_ceiling.Goals as goal

pub returns : goal.returns
returns c =
    let costs = c.in_ok-dearest.dearest.items in
    let rounds = c.in_ok-rounds.rounds.items in
    let whole = ceiling_is c.args.nest.now c.args.bounds.now c.args.steps.now rounds costs c.requires.parents
    (subst (λ hs. AreRounds hs c.args.bounds.now (length hs) rounds) c.items.ensures c.in_ok-rounds.ensures.rounds)
    (c.in_ok-dearest.ensures.counted ∙ ap length c.items-inside.ensures)
    (subst (λ xs. (p : ℕ) → p < length xs → slice_index costs p ≡ dearest c.args.steps.now p) c.items-inside.ensures c.in_ok-dearest.ensures.dearest)
    c.requires.inside in
    c.total.ensures ∙ rw (c.as_slice.ensures.value, c.as_slice-2.ensures.value, c.items-inside.ensures) whole
