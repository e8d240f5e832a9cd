use Rattle.std.proofs.Common.{ℕ, ◌≡◌, ◌<◌, List, All, map, sym, subst, ap, ◌∙◌}
use Rattle.wc_model.specs.Workspace.Closures.{order_of}
use Rattle.wc_core.proofs.BeginLemmas.{below_all}
use Rattle.wc_core.proofs.opening.Opened.new.Goals as goal

pub returns-clause-below : goal.returns-clause-below
returns-clause-below c =
    let keys = c.in_ok-first_keys.ensures.keys ∙ ap (map (λ k. (k, 0))) c.order.ensures.listed in
    below_all (order_of c.args.registry.now) (subst (λ (ks : List (ℕ × ℕ)). All (λ k. k.0 < 65) ks) keys c.in_ok-first_keys.ensures.below)
