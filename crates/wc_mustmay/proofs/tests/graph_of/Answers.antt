use Rattle.std.proofs.Common.{◌≡◌, ℕ, ◌≤◌, ◌==◌, ◌++◌, Bool, false, List, [], ◌∷◌, None, length, refl, sym, ap, subst, ◌∙◌, arith}
use Rattle.std.proofs.lemmas.Bool.Decides.{nat_tests}
use Rattle.wc_model.specs.declared.graphs.Context.{Context}
use Rattle.wc_mustmay.specs.Inner.LineGraphs.{AreOfOneStack, IsLine}
use Rattle.wc_mustmay.proofs.LineGraphLemmas.{line_graph}
use Rattle.wc_mustmay.proofs.tests.graph_of.Goals as goal

some_there : (b : Bool) (n : ℕ) → b ≡ false → b ≡ (n == 0) → 1 ≤ n
some_there b n empty_not is = grind (arith, nat_tests)

pub returns : goal.returns
returns c =
    let count : ℕ = length c.args.pcs.now in
    let empty : Context = record { parent = None; returns = 0; callee = 0 } in
    let contexts = c.new.ensures ∙ c.in_ok-push.ensures.items ∙ ap (λ (xs : List Context). xs ++ empty ∷ []) c.new-contexts.ensures.items in
    line_graph (record { contexts = c.new.result; nodes = c.new-2.result; steps = c.new-3.result; start = 0 }) empty count refl contexts
    (subst (AreOfOneStack count) (sym c.new-2.ensures) c.in_ok-nodes_of.ensures) (subst (IsLine count count) (sym c.new-3.ensures) c.in_ok-steps.ensures)
    refl (some_there c.is_empty.result count c.if-is_empty.false c.is_empty.ensures) (omega (arith, c.if-pcs-gt100.false))
