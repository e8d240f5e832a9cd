use Rattle.std.proofs.Common.{◌≡◌, ◌≤◌, ◌+◌, ◌-◌, [], ◌∷◌, ◌++◌, IfSome, is_some, length, vec_capacity, arith, refl, sym, ap, ap₂, subst, ◌∙◌}
use Rattle.wc_model.specs.declared.entries.Entry.TheVariants.{Finish}
use Rattle.wc_model.specs.Workspace.Closures.{closure}
use Rattle.wc_model.specs.Workspace.Edits.{AgreeOnAll, setting_of}
use Rattle.wc_model.specs.Workspace.States.{Opening, has_key}
use Rattle.wc_core.specs.Answers.{Advances, IsGiven}
use Rattle.wc_core.specs.Inner.Ends.{end_for}
use Rattle.wc_core.specs.Inner.Gifts.{IsGift}
use Rattle.wc_core.specs.Inner.Moves.{settled}
use Rattle.wc_core.specs.Views.{KnownLanded, KnownTicket}
use Rattle.wc_core.proofs.CoreLemmas.{known}
use Rattle.wc_core.proofs.GiveLemmas.{given_is, gives, landed_view}
use Rattle.wc_core.proofs.shared.Core.give.Goals as goal

pub bring-name-requires-after_bounds : goal.bring-name-requires-after_bounds
bring-name-requires-after_bounds g c κs within =
    let i = c.self.inside in
    let t : KnownTicket g.row.W-Value.Denot = record { session = c.ticket.inside.session; name = c.ticket.inside.job.name.value; at = c.ticket.inside.at; inputs = setting_of c.ticket.inside.job.inputs.value; had = c.ticket.inside.given; memory = c.ticket.inside.memory } in
    let same = ap (λ x. landed_view x (g.W.Work.kind_of c.landed.inside.work) c.landed.inside.stamp (g.W.Work.runs_of c.landed.inside.work) c.landed.inside.sessions c.landed.inside.gave) c.ticket.view_is ∙ c.landed.view_is in
    let gift = subst (λ x. IfSome c.landed.inside.gave (IsGift c.landed.inside.sessions x.session x.name)) (sym c.ticket.view_is) c.landed.invariant in
    let now = c.is_current-current.ensures ∙ ap₂ (λ k ks. has_key k c.landed.inside.stamp ks) c.kind-kind.ensures c.as_slice.ensures.value in
    let can = gives g.W.Work.chain g.W.Work.is_feature _ _ _ _ c.self.view_is c.self.invariant.0 t (g.W.Work.kind_of c.landed.inside.work) c.landed.inside.stamp (g.W.Work.runs_of c.landed.inside.work) c.landed.inside.sessions c.landed.inside.gave c.is_current-current.result c.args.landed (λ k a b name v agree f. g.met.W.Work.stable k a b name v (subst (λ ds. AgreeOnAll a b (closure ds k)) c.self.invariant.1 agree) f) same c.requires gift now in
    (can.run, can.flies)

pub settle-requires : goal.settle-requires
settle-requires g c =
    let i = c.self.inside in
    let t : KnownTicket g.row.W-Value.Denot = record { session = c.ticket.inside.session; name = c.ticket.inside.job.name.value; at = c.ticket.inside.at; inputs = setting_of c.ticket.inside.job.inputs.value; had = c.ticket.inside.given; memory = c.ticket.inside.memory } in
    let same = ap (λ x. landed_view x (g.W.Work.kind_of c.landed.inside.work) c.landed.inside.stamp (g.W.Work.runs_of c.landed.inside.work) c.landed.inside.sessions c.landed.inside.gave) c.ticket.view_is ∙ c.landed.view_is in
    let gift = subst (λ x. IfSome c.landed.inside.gave (IsGift c.landed.inside.sessions x.session x.name)) (sym c.ticket.view_is) c.landed.invariant in
    let now = c.is_current-current.ensures ∙ ap₂ (λ k ks. has_key k c.landed.inside.stamp ks) c.kind-kind.ensures c.as_slice.ensures.value in
    let can = gives g.W.Work.chain g.W.Work.is_feature _ _ _ _ c.self.view_is c.self.invariant.0 t (g.W.Work.kind_of c.landed.inside.work) c.landed.inside.stamp (g.W.Work.runs_of c.landed.inside.work) c.landed.inside.sessions c.landed.inside.gave c.is_current-current.result c.args.landed (λ k a b name v agree f. g.met.W.Work.stable k a b name v (subst (λ ds. AgreeOnAll a b (closure ds k)) c.self.invariant.1 agree) f) same c.requires gift now in
    can.settles

pub invariant_of-self : goal.invariant_of-self
invariant_of-self g c =
    let i = c.self.inside in
    let t : KnownTicket g.row.W-Value.Denot = record { session = c.ticket.inside.session; name = c.ticket.inside.job.name.value; at = c.ticket.inside.at; inputs = setting_of c.ticket.inside.job.inputs.value; had = c.ticket.inside.given; memory = c.ticket.inside.memory } in
    let same = ap (λ x. landed_view x (g.W.Work.kind_of c.landed.inside.work) c.landed.inside.stamp (g.W.Work.runs_of c.landed.inside.work) c.landed.inside.sessions c.landed.inside.gave) c.ticket.view_is ∙ c.landed.view_is in
    let gift = subst (λ x. IfSome c.landed.inside.gave (IsGift c.landed.inside.sessions x.session x.name)) (sym c.ticket.view_is) c.landed.invariant in
    let now = c.is_current-current.ensures ∙ ap₂ (λ k ks. has_key k c.landed.inside.stamp ks) c.kind-kind.ensures c.as_slice.ensures.value in
    let can = gives g.W.Work.chain g.W.Work.is_feature _ _ _ _ c.self.view_is c.self.invariant.0 t (g.W.Work.kind_of c.landed.inside.work) c.landed.inside.stamp (g.W.Work.runs_of c.landed.inside.work) c.landed.inside.sessions c.landed.inside.gave c.is_current-current.result c.args.landed (λ k a b name v agree f. g.met.W.Work.stable k a b name v (subst (λ ds. AgreeOnAll a b (closure ds k)) c.self.invariant.1 agree) f) same c.requires gift now in
    let name = subst (λ x. IfSome x (λ r. c.bring-name.result ≡ r.key.name)) can.flies c.bring-name.ensures.name ∙ can.named in
    let entries = c.push_reserved.ensures.items ∙ ap₂ (λ n e. i.history.items ++ Finish t.session n c.bring-name.result c.landed.inside.stamp e ∷ []) c.kind-kind.ensures (c.end_for-end.ensures ∙ ap (λ b. end_for b c.is_current-current.result) c.is_some.ensures) ∙ ap (λ n. i.history.items ++ Finish t.session (g.W.Work.kind_of c.landed.inside.work) n c.landed.inside.stamp (end_for (is_some c.landed.inside.gave) c.is_current-current.result) ∷ []) name in
    let less : i.owed - 1 + 1 ≡ i.owed = omega (arith, can.owed) in
    let stored : i.owed - 1 ≤ c.settle.new.store.spare = omega (arith, can.owed, c.settle.ensures.spare, c.self.invariant.0.parts.stored) in
    let wide = subst (λ (x : KnownTicket g.row.W-Value.Denot). length x.had ≡ 65) (sym c.ticket.view_is) c.settle.ensures.wide in
    let lands = can.lands_ c.push_reserved.new.self.items (i.owed - 1) (vec_capacity i.history) c.settle.new.store.spare wide entries less (omega arith) stored in
    rw (c.push_reserved.ensures.capacity, c.settle.ensures.lines, c.kind-kind.ensures, c.bring-name.ensures.home, c.bring-name.ensures.out) (lands.core, c.self.invariant.1, c.self.invariant.2)

pub returns-clause-answer : goal.returns-clause-answer
returns-clause-answer g c =
    let i = c.self.inside in
    let t : KnownTicket g.row.W-Value.Denot = record { session = c.ticket.inside.session; name = c.ticket.inside.job.name.value; at = c.ticket.inside.at; inputs = setting_of c.ticket.inside.job.inputs.value; had = c.ticket.inside.given; memory = c.ticket.inside.memory } in
    let same = ap (λ x. landed_view x (g.W.Work.kind_of c.landed.inside.work) c.landed.inside.stamp (g.W.Work.runs_of c.landed.inside.work) c.landed.inside.sessions c.landed.inside.gave) c.ticket.view_is ∙ c.landed.view_is in
    let gift = subst (λ x. IfSome c.landed.inside.gave (IsGift c.landed.inside.sessions x.session x.name)) (sym c.ticket.view_is) c.landed.invariant in
    let now = c.is_current-current.ensures ∙ ap₂ (λ k ks. has_key k c.landed.inside.stamp ks) c.kind-kind.ensures c.as_slice.ensures.value in
    let can = gives g.W.Work.chain g.W.Work.is_feature _ _ _ _ c.self.view_is c.self.invariant.0 t (g.W.Work.kind_of c.landed.inside.work) c.landed.inside.stamp (g.W.Work.runs_of c.landed.inside.work) c.landed.inside.sessions c.landed.inside.gave c.is_current-current.result c.args.landed (λ k a b name v agree f. g.met.W.Work.stable k a b name v (subst (λ ds. AgreeOnAll a b (closure ds k)) c.self.invariant.1 agree) f) same c.requires gift now in
    let name = subst (λ x. IfSome x (λ r. c.bring-name.result ≡ r.key.name)) can.flies c.bring-name.ensures.name ∙ can.named in
    let entries = c.push_reserved.ensures.items ∙ ap₂ (λ n e. i.history.items ++ Finish t.session n c.bring-name.result c.landed.inside.stamp e ∷ []) c.kind-kind.ensures (c.end_for-end.ensures ∙ ap (λ b. end_for b c.is_current-current.result) c.is_some.ensures) ∙ ap (λ n. i.history.items ++ Finish t.session (g.W.Work.kind_of c.landed.inside.work) n c.landed.inside.stamp (end_for (is_some c.landed.inside.gave) c.is_current-current.result) ∷ []) name in
    let less : i.owed - 1 + 1 ≡ i.owed = omega (arith, can.owed) in
    let stored : i.owed - 1 ≤ c.settle.new.store.spare = omega (arith, can.owed, c.settle.ensures.spare, c.self.invariant.0.parts.stored) in
    let wide = subst (λ (x : KnownTicket g.row.W-Value.Denot). length x.had ≡ 65) (sym c.ticket.view_is) c.settle.ensures.wide in
    let lands = can.lands_ c.push_reserved.new.self.items (i.owed - 1) (vec_capacity i.history) c.settle.new.store.spare wide entries less (omega arith) stored in
    let given = given_is g.W.Work.is_feature _ _ _ c.self.view_is t (g.W.Work.kind_of c.landed.inside.work) c.landed.inside.stamp (g.W.Work.runs_of c.landed.inside.work) c.landed.inside.sessions c.landed.inside.gave c.is_current-current.result c.args.landed same can.quiet (omega (arith, wide, can.small)) can.now_is c.push_reserved.new.self.items entries lands.fits in
    let settled_is = c.settle.ensures.ticket ∙ ap₂ (λ n (x : KnownTicket g.row.W-Value.Denot). settled n c.landed.inside.gave x) c.kind-kind.ensures (sym c.ticket.view_is) in
    let o : Opening = record { image = i.inputs.value.image.value; kinds = i.registry; works = i.counts.items; hardware = i.hardware; facts = i.facts.items; sessions = i.sessions } in
    subst (λ (x : KnownTicket g.row.W-Value.Denot). IsGiven g.W.Work.is_feature c.args.self.now (known o c.push_reserved.new.self.items) c.args.landed x) (sym settled_is) given

pub returns-clause-goes : goal.returns-clause-goes
returns-clause-goes g c =
    let i = c.self.inside in
    let t : KnownTicket g.row.W-Value.Denot = record { session = c.ticket.inside.session; name = c.ticket.inside.job.name.value; at = c.ticket.inside.at; inputs = setting_of c.ticket.inside.job.inputs.value; had = c.ticket.inside.given; memory = c.ticket.inside.memory } in
    let same = ap (λ x. landed_view x (g.W.Work.kind_of c.landed.inside.work) c.landed.inside.stamp (g.W.Work.runs_of c.landed.inside.work) c.landed.inside.sessions c.landed.inside.gave) c.ticket.view_is ∙ c.landed.view_is in
    let gift = subst (λ x. IfSome c.landed.inside.gave (IsGift c.landed.inside.sessions x.session x.name)) (sym c.ticket.view_is) c.landed.invariant in
    let now = c.is_current-current.ensures ∙ ap₂ (λ k ks. has_key k c.landed.inside.stamp ks) c.kind-kind.ensures c.as_slice.ensures.value in
    let can = gives g.W.Work.chain g.W.Work.is_feature _ _ _ _ c.self.view_is c.self.invariant.0 t (g.W.Work.kind_of c.landed.inside.work) c.landed.inside.stamp (g.W.Work.runs_of c.landed.inside.work) c.landed.inside.sessions c.landed.inside.gave c.is_current-current.result c.args.landed (λ k a b name v agree f. g.met.W.Work.stable k a b name v (subst (λ ds. AgreeOnAll a b (closure ds k)) c.self.invariant.1 agree) f) same c.requires gift now in
    let name = subst (λ x. IfSome x (λ r. c.bring-name.result ≡ r.key.name)) can.flies c.bring-name.ensures.name ∙ can.named in
    let entries = c.push_reserved.ensures.items ∙ ap₂ (λ n e. i.history.items ++ Finish t.session n c.bring-name.result c.landed.inside.stamp e ∷ []) c.kind-kind.ensures (c.end_for-end.ensures ∙ ap (λ b. end_for b c.is_current-current.result) c.is_some.ensures) ∙ ap (λ n. i.history.items ++ Finish t.session (g.W.Work.kind_of c.landed.inside.work) n c.landed.inside.stamp (end_for (is_some c.landed.inside.gave) c.is_current-current.result) ∷ []) name in
    let less : i.owed - 1 + 1 ≡ i.owed = omega (arith, can.owed) in
    let stored : i.owed - 1 ≤ c.settle.new.store.spare = omega (arith, can.owed, c.settle.ensures.spare, c.self.invariant.0.parts.stored) in
    let wide = subst (λ (x : KnownTicket g.row.W-Value.Denot). length x.had ≡ 65) (sym c.ticket.view_is) c.settle.ensures.wide in
    let lands = can.lands_ c.push_reserved.new.self.items (i.owed - 1) (vec_capacity i.history) c.settle.new.store.spare wide entries less (omega arith) stored in
    let o : Opening = record { image = i.inputs.value.image.value; kinds = i.registry; works = i.counts.items; hardware = i.hardware; facts = i.facts.items; sessions = i.sessions } in
    subst (λ (x : KnownLanded g.row.W-Value.Denot). Advances g.W.Work.chain g.W.Work.is_feature c.args.self.now (known o c.push_reserved.new.self.items) x.ticket.session) same lands.advances
