use Rattle.std.proofs.Common.{ℕ, ◌≡◌, ◌<◌, List, Bool, true, [], length, sym, ap, subst, ◌∙◌, arith}
use Rattle.std.specs.Prelude.{◌↔◌, IsTrue}
use Rattle.std.specs.List.{Contains, list_any, slice_index_or}
use Rattle.wc_model.specs.declared.kinds.Describe.{Describe}
use Rattle.wc_model.specs.Workspace.Closures.{closure}
use Rattle.wc_model.specs.Workspace.Registry.{IsInClosure, Requires}
use Rattle.wc_registry.specs.Inner.KindSets.{holds}
use Rattle.wc_registry.specs.Inner.Required.{reads_for}
use Rattle.wc_registry.proofs.ClosureLemmas.{answer_is}
use Rattle.wc_registry.proofs.FaultLemmas.{row_at}
use Rattle.wc_registry.proofs.registries.Registry.reads.Goals as goal

pub returns : goal.returns
returns c =
    let kinds : List Describe = c.self.inside.kinds.items in
    let sets = c.self.inside.required.items in
    let within : c.number.result < length sets = omega (arith, c.self.invariant.required.counted) in
    let row : c.index-required.result.now ≡ slice_index_or sets c.args.kind [] = row_at sets c.number.result c.args.kind c.index-required.result.now c.number.ensures within c.index-required.ensures in
    let less : c.args.kind < 65 = omega (arith, c.number.ensures, c.self.invariant.required.counted) in
    let are = λ (j : ℕ). subst (λ (set : List Bool). (holds set j ≡ true) ↔ Requires kinds c.args.kind j) (sym row) (c.self.invariant.required.are c.args.kind j less) in
    let answer = answer_is kinds c.self.invariant.sound c.self.inside.order.items c.self.invariant.ordered c.self.invariant.listed c.args.kind c.index-required.result.now are c.args.part c.any_reads.result (c.any_reads.ensures ∙ ap (λ ds. list_any (reads_for c.args.kind c.index-required.result.now c.args.part) ds) c.deref.ensures.value) in
    record {
      closure = subst (λ (ds : List Describe). IsTrue c.any_reads.result ↔ IsInClosure ds c.args.kind c.args.part) c.self.view_is answer.0;
      listed = subst (λ (ds : List Describe). IsTrue c.any_reads.result ↔ Contains (closure ds c.args.kind) c.args.part) c.self.view_is answer.1;
    }
