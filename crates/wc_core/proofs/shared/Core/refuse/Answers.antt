use Rattle.std.proofs.Common.{◌≡◌, ◌≤◌, ◌+◌, [], ◌∷◌, ◌++◌, length, vec_capacity, arith, sym, ap, ◌∙◌}
use Rattle.wc_model.specs.declared.entries.Entry.TheVariants.{NoFact}
use Rattle.wc_core.proofs.QuietLemmas.{goes_nofact}
use Rattle.wc_core.proofs.shared.Core.refuse.Goals as goal

pub invariant_of-self-2 : goal.invariant_of-self-2
invariant_of-self-2 g c =
    let i = c.self.inside in
    let entries = c.push_reserved.ensures.items ∙ ap (λ l. l ++ NoFact c.args.session c.args.number i.count ∷ []) c.reserve.ensures.items in
    let within : length i.history.items + 1 + i.owed ≤ vec_capacity c.reserve.new.self = omega (arith, c.in_ok-reserve.ensures.ok, c.reserve.ensures.len, i.history.ok) in
    let goes = goes_nofact g.W.Work.chain g.W.Work.is_feature _ _ _ _ c.self.view_is c.self.invariant.0 c.args.session (vec_capacity c.reserve.new.self) c.requires.free c.push_reserved.new.self.items c.args.number c.requires.dead entries within in
    rw c.push_reserved.ensures.capacity (goes.core, c.self.invariant.1, c.self.invariant.2)

pub returns-clause-goes : goal.returns-clause-goes
returns-clause-goes g c =
    let i = c.self.inside in
    let entries = c.push_reserved.ensures.items ∙ ap (λ l. l ++ NoFact c.args.session c.args.number i.count ∷ []) c.reserve.ensures.items in
    let within : length i.history.items + 1 + i.owed ≤ vec_capacity c.reserve.new.self = omega (arith, c.in_ok-reserve.ensures.ok, c.reserve.ensures.len, i.history.ok) in
    let goes = goes_nofact g.W.Work.chain g.W.Work.is_feature _ _ _ _ c.self.view_is c.self.invariant.0 c.args.session (vec_capacity c.reserve.new.self) c.requires.free c.push_reserved.new.self.items c.args.number c.requires.dead entries within in
    goes.advances

pub returns-clause-free : goal.returns-clause-free
returns-clause-free g c =
    let i = c.self.inside in
    let entries = c.push_reserved.ensures.items ∙ ap (λ l. l ++ NoFact c.args.session c.args.number i.count ∷ []) c.reserve.ensures.items in
    let within : length i.history.items + 1 + i.owed ≤ vec_capacity c.reserve.new.self = omega (arith, c.in_ok-reserve.ensures.ok, c.reserve.ensures.len, i.history.ok) in
    let goes = goes_nofact g.W.Work.chain g.W.Work.is_feature _ _ _ _ c.self.view_is c.self.invariant.0 c.args.session (vec_capacity c.reserve.new.self) c.requires.free c.push_reserved.new.self.items c.args.number c.requires.dead entries within in
    goes.free
