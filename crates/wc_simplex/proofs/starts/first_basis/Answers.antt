use Rattle.std.proofs.Common.{◌++◌, ◌+◌, ◌∷◌, ◌∙◌, [], ap}
use Rattle.wc_simplex.proofs.CodeLemmas.{range_push}
use Rattle.wc_simplex.proofs.starts.first_basis.Goals as goal

pub loop-place-preserved : goal.loop-place-preserved
loop-place-preserved c =
    c.in_ok-push.ensures.items ∙ ap (λ l. l ++ (c.args.real + c.loop-place.place) ∷ []) c.loop-place.invariant ∙ range_push c.args.real c.loop-place.place
