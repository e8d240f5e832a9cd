use Rattle.std.proofs.Common.{◌≡◌, ℕ, ◌+◌, ◌-◌, ◌<◌, ◌≤◌, [], ◌∷◌, ◌++◌, length, vec_capacity, arith, sym, ap, ap₂, subst, ◌∙◌}
use Rattle.wc_model.specs.declared.entries.Entry.TheVariants.{Start}
use Rattle.wc_core.specs.Inner.Seats.{seat_at}
use Rattle.wc_core.specs.Inner.Works.{run_with}
use Rattle.wc_core.specs.Views.{KnownTicket}
use Rattle.wc_core.proofs.NameLemmas.{IsTakenFrom}
use Rattle.wc_core.proofs.SendLemmas.{can, runs_few, sends, some_left, there}
use Rattle.wc_core.proofs.shared.Core.depart.Goals as goal

pub take_name-name-requires-clause-names : goal.take_name-name-requires-clause-names
take_name-name-requires-clause-names g c =
    let i = c.self.inside in
    let same : c.ticket.inside.session ≡ c.args.ticket.session = ap (λ (t : KnownTicket g.row.W-Value.Denot). t.session) c.ticket.view_is in
    let taken = subst (λ s. IsTakenFrom s i.seats c.take_name-going.new.self c.take_name-going.result) same c.take_name-going.ensures in
    subst (λ s. 0 < length (seat_at s c.take_name-going.new.self).names) (sym same)
    (some_left g.W.Work.chain g.W.Work.is_feature _ _ _ _ c.self.view_is c.self.invariant.0 c.args.ticket c.requires.fits c.args.kind c.args.stamp c.requires.step c.take_name-going.result c.take_name-going.new.self taken)

pub send-work-requires-after_bounds : goal.send-work-requires-after_bounds
send-work-requires-after_bounds g c κs within = there g.W.Work.chain g.W.Work.is_feature _ _ _ _ c.self.view_is c.self.invariant.0 c.args.ticket c.requires.fits c.args.kind c.args.stamp c.requires.step

pub push_reserved-requires : goal.push_reserved-requires
push_reserved-requires g c =
    let ready = can g.W.Work.chain g.W.Work.is_feature _ _ _ _ c.self.view_is c.self.invariant.0 c.args.ticket c.requires.fits c.args.kind c.args.stamp c.requires.step in
    omega (arith, ready.some, ready.owes, ready.room)

pub overflow_sub-self : goal.overflow_sub-self
overflow_sub-self g c =
    let ready = can g.W.Work.chain g.W.Work.is_feature _ _ _ _ c.self.view_is c.self.invariant.0 c.args.ticket c.requires.fits c.args.kind c.args.stamp c.requires.step in
    omega (arith, ready.some, ready.owes)

pub invariant_of-self : goal.invariant_of-self
invariant_of-self g c =
    let i = c.self.inside in
    let runs = g.W.Work.runs_of c.send-work.result in
    let back : c.ticket.inside.session ≡ c.args.ticket.session = ap (λ (t : KnownTicket g.row.W-Value.Denot). t.session) c.ticket.view_is in
    let again : c.ticket-2.inside.session ≡ c.args.ticket.session = ap (λ (t : KnownTicket g.row.W-Value.Denot). t.session) (c.ticket-2.view_is ∙ c.pull.ensures.ticket) in
    let first = subst (λ s. IsTakenFrom s i.seats c.take_name-going.new.self c.take_name-going.result) back c.take_name-going.ensures in
    let second = subst (λ s. IsTakenFrom s c.take_name-going.new.self c.take_name-name.new.self c.take_name-name.result) back c.take_name-name.ensures in
    let entries = c.push_reserved.ensures.items ∙ ap (λ s. i.history.items ++ Start s c.args.kind c.take_name-name.result c.args.stamp ∷ []) again in
    let keys = c.keys.ensures ∙ ap (λ s. (seat_at s i.seats).keys) back in
    let ready = can g.W.Work.chain g.W.Work.is_feature _ _ _ _ c.self.view_is c.self.invariant.0 c.args.ticket c.requires.fits c.args.kind c.args.stamp c.requires.step in
    let less : i.owed - 1 + 1 ≡ i.owed = omega (arith, ready.some, ready.owes) in
    let sent = sends g.W.Work.chain g.W.Work.is_feature _ _ _ _ c.self.view_is c.self.invariant.0 c.args.ticket c.requires.fits c.args.kind c.args.stamp c.requires.step c.take_name-going.result c.take_name-name.result c.take_name-going.new.self c.take_name-name.new.self first second
    c.send-work.new.self.home runs c.send-work.ensures.sent.taken c.pull.ensures.wide c.push_reserved.new.self.items c.keys.result.now (i.owed - 1) (vec_capacity i.history) i.store.spare entries keys less (omega arith) (omega (arith, less, c.self.invariant.0.parts.stored)) in
    let gone = c.send-work.ensures.sent.out ∙ ap (λ s. i.works.out ++ run_with s c.args.kind c.take_name-going.result c.args.stamp runs ∷ []) again in
    rw (c.push_reserved.ensures.capacity, c.pull.ensures.lines, c.pull.ensures.spare, gone) (sent.core, c.self.invariant.1, c.self.invariant.2)

pub invariant_of-result : goal.invariant_of-result
invariant_of-result g c =
    let i = c.self.inside in
    let runs = g.W.Work.runs_of c.send-work.result in
    let back : c.ticket.inside.session ≡ c.args.ticket.session = ap (λ (t : KnownTicket g.row.W-Value.Denot). t.session) c.ticket.view_is in
    let again : c.ticket-2.inside.session ≡ c.args.ticket.session = ap (λ (t : KnownTicket g.row.W-Value.Denot). t.session) (c.ticket-2.view_is ∙ c.pull.ensures.ticket) in
    let first = subst (λ s. IsTakenFrom s i.seats c.take_name-going.new.self c.take_name-going.result) back c.take_name-going.ensures in
    let second = subst (λ s. IsTakenFrom s c.take_name-going.new.self c.take_name-name.new.self c.take_name-name.result) back c.take_name-name.ensures in
    let entries = c.push_reserved.ensures.items ∙ ap (λ s. i.history.items ++ Start s c.args.kind c.take_name-name.result c.args.stamp ∷ []) again in
    let keys = c.keys.ensures ∙ ap (λ s. (seat_at s i.seats).keys) back in
    let ready = can g.W.Work.chain g.W.Work.is_feature _ _ _ _ c.self.view_is c.self.invariant.0 c.args.ticket c.requires.fits c.args.kind c.args.stamp c.requires.step in
    let less : i.owed - 1 + 1 ≡ i.owed = omega (arith, ready.some, ready.owes) in
    let sent = sends g.W.Work.chain g.W.Work.is_feature _ _ _ _ c.self.view_is c.self.invariant.0 c.args.ticket c.requires.fits c.args.kind c.args.stamp c.requires.step c.take_name-going.result c.take_name-name.result c.take_name-going.new.self c.take_name-name.new.self first second
    c.send-work.new.self.home runs c.send-work.ensures.sent.taken c.pull.ensures.wide c.push_reserved.new.self.items c.keys.result.now (i.owed - 1) (vec_capacity i.history) i.store.spare entries keys less (omega arith) (omega (arith, less, c.self.invariant.0.parts.stored)) in
    let few : runs ≤ length i.history.items = runs_few g.W.Work.chain g.W.Work.is_feature _ _ _ _ c.self.view_is c.self.invariant.0 c.args.ticket c.requires.fits c.args.kind c.args.stamp c.requires.step c.send-work.new.self.home runs c.send-work.ensures.sent.taken in
    (omega (arith, few, i.history.ok, i.history.small), c.self.invariant.2, rw (c.send-work.ensures.kind, c.pull.ensures.ticket, sym c.self.invariant.1) sent.required)

pub returns-clause-started : goal.returns-clause-started
returns-clause-started g c =
    let i = c.self.inside in
    let runs = g.W.Work.runs_of c.send-work.result in
    let back : c.ticket.inside.session ≡ c.args.ticket.session = ap (λ (t : KnownTicket g.row.W-Value.Denot). t.session) c.ticket.view_is in
    let again : c.ticket-2.inside.session ≡ c.args.ticket.session = ap (λ (t : KnownTicket g.row.W-Value.Denot). t.session) (c.ticket-2.view_is ∙ c.pull.ensures.ticket) in
    let first = subst (λ s. IsTakenFrom s i.seats c.take_name-going.new.self c.take_name-going.result) back c.take_name-going.ensures in
    let second = subst (λ s. IsTakenFrom s c.take_name-going.new.self c.take_name-name.new.self c.take_name-name.result) back c.take_name-name.ensures in
    let entries = c.push_reserved.ensures.items ∙ ap (λ s. i.history.items ++ Start s c.args.kind c.take_name-name.result c.args.stamp ∷ []) again in
    let keys = c.keys.ensures ∙ ap (λ s. (seat_at s i.seats).keys) back in
    let ready = can g.W.Work.chain g.W.Work.is_feature _ _ _ _ c.self.view_is c.self.invariant.0 c.args.ticket c.requires.fits c.args.kind c.args.stamp c.requires.step in
    let less : i.owed - 1 + 1 ≡ i.owed = omega (arith, ready.some, ready.owes) in
    let sent = sends g.W.Work.chain g.W.Work.is_feature _ _ _ _ c.self.view_is c.self.invariant.0 c.args.ticket c.requires.fits c.args.kind c.args.stamp c.requires.step c.take_name-going.result c.take_name-name.result c.take_name-going.new.self c.take_name-name.new.self first second
    c.send-work.new.self.home runs c.send-work.ensures.sent.taken c.pull.ensures.wide c.push_reserved.new.self.items c.keys.result.now (i.owed - 1) (vec_capacity i.history) i.store.spare entries keys less (omega arith) (omega (arith, less, c.self.invariant.0.parts.stored)) in
    rw (c.send-work.ensures.kind, c.pull.ensures.ticket) sent.started

pub returns-clause-goes : goal.returns-clause-goes
returns-clause-goes g c =
    let i = c.self.inside in
    let runs = g.W.Work.runs_of c.send-work.result in
    let back : c.ticket.inside.session ≡ c.args.ticket.session = ap (λ (t : KnownTicket g.row.W-Value.Denot). t.session) c.ticket.view_is in
    let again : c.ticket-2.inside.session ≡ c.args.ticket.session = ap (λ (t : KnownTicket g.row.W-Value.Denot). t.session) (c.ticket-2.view_is ∙ c.pull.ensures.ticket) in
    let first = subst (λ s. IsTakenFrom s i.seats c.take_name-going.new.self c.take_name-going.result) back c.take_name-going.ensures in
    let second = subst (λ s. IsTakenFrom s c.take_name-going.new.self c.take_name-name.new.self c.take_name-name.result) back c.take_name-name.ensures in
    let entries = c.push_reserved.ensures.items ∙ ap (λ s. i.history.items ++ Start s c.args.kind c.take_name-name.result c.args.stamp ∷ []) again in
    let keys = c.keys.ensures ∙ ap (λ s. (seat_at s i.seats).keys) back in
    let ready = can g.W.Work.chain g.W.Work.is_feature _ _ _ _ c.self.view_is c.self.invariant.0 c.args.ticket c.requires.fits c.args.kind c.args.stamp c.requires.step in
    let less : i.owed - 1 + 1 ≡ i.owed = omega (arith, ready.some, ready.owes) in
    let sent = sends g.W.Work.chain g.W.Work.is_feature _ _ _ _ c.self.view_is c.self.invariant.0 c.args.ticket c.requires.fits c.args.kind c.args.stamp c.requires.step c.take_name-going.result c.take_name-name.result c.take_name-going.new.self c.take_name-name.new.self first second
    c.send-work.new.self.home runs c.send-work.ensures.sent.taken c.pull.ensures.wide c.push_reserved.new.self.items c.keys.result.now (i.owed - 1) (vec_capacity i.history) i.store.spare entries keys less (omega arith) (omega (arith, less, c.self.invariant.0.parts.stored)) in
    sent.advances
