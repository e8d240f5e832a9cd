use Rattle.std.proofs.Common.{◌≡◌, ◌<◌, ◌≤◌, ◌∙◌, ℕ, List, length, pos, subst, sym}
use Rattle.std.specs.List.{All, range_with_len}
use Rattle.wc_model.specs.declared.flow_system.SystemLimit.{SystemLimit}
use Rattle.wc_model.specs.Flow.Cells.{cells_of}
use Rattle.wc_model.specs.Flow.Certificates.{ArePrices, Prices, scaled}
use Rattle.wc_model.specs.Flow.Ends.{system_ends}
use Rattle.wc_model.specs.Flow.Systems.{IsSystem, named_by}
use Rattle.wc_model.specs.Flow.Walks.{Joins}
use Rattle.wc_model.specs.Program.Reaching.{IsLive}
use Rattle.wc_simplex.proofs.TwoLoopLemmas.{by_ends, made_live, made_priced, made_small, made_sound}
use Rattle.wc_simplex.proofs.tests.two_loops.Goals as goal

pub returns-clause-system : goal.returns-clause-system
returns-clause-system c =
    by_ends IsSystem c.args.first c.args.second _ (λ c0 c1 c2 c3 c4 c5 c6 c7 c8. made_sound c0 c1 c2 c3 c4 c5 c6 c7 c8 c.args.first c.args.second _ c.in_ok-loops.ensures.small.0 c.in_ok-loops.ensures.small.1
    (subst (All (λ (l : SystemLimit). named_by l ≡ range_with_len 0 6)) (sym c.new-3.ensures) c.requires.named))
    _ _ _ c.in_ok-steps.ensures.sources c.in_ok-steps.ensures.targets c.new.ensures (c.new-2.ensures ∙ c.in_ok-loops.ensures.items)

pub returns-clause-small : goal.returns-clause-small
returns-clause-small c =
    by_ends (λ s. cells_of s ≤ 250000) c.args.first c.args.second _ (λ c0 c1 c2 c3 c4 c5 c6 c7 c8. made_small c0 c1 c2 c3 c4 c5 c6 c7 c8 c.args.first c.args.second _
    (subst (λ (l : List SystemLimit). length l ≤ 4) (sym c.new-3.ensures) c.requires.few))
    _ _ _ c.in_ok-steps.ensures.sources c.in_ok-steps.ensures.targets c.new.ensures (c.new-2.ensures ∙ c.in_ok-loops.ensures.items)

pub returns-clause-live : goal.returns-clause-live
returns-clause-live c =
    by_ends (λ s. (p : ℕ) → p < s.nodes → IsLive (Joins system_ends s.steps) s.start p) c.args.first c.args.second c.new-3.result
    (λ c0 c1 c2 c3 c4 c5 c6 c7 c8. made_live c0 c1 c2 c3 c4 c5 c6 c7 c8 c.args.first c.args.second c.new-3.result)
    _ _ _ c.in_ok-steps.ensures.sources c.in_ok-steps.ensures.targets c.new.ensures (c.new-2.ensures ∙ c.in_ok-loops.ensures.items)

pub returns-clause-priced : goal.returns-clause-priced
returns-clause-priced c =
    by_ends (λ s. (prices : Prices) × ArePrices s (scaled (pos 1)) prices) c.args.first c.args.second _
    (λ c0 c1 c2 c3 c4 c5 c6 c7 c8. made_priced c0 c1 c2 c3 c4 c5 c6 c7 c8 c.args.first c.args.second _)
    _ _ _ c.in_ok-steps.ensures.sources c.in_ok-steps.ensures.targets c.new.ensures (c.new-2.ensures ∙ c.in_ok-loops.ensures.items)
