use Rattle.std.proofs.Common.{◌≡◌, ℕ, ◌+◌, ◌-◌, ◌≤◌, [], ◌∷◌, ◌++◌, length, vec_capacity, arith, sym, ap, ap₂, subst, ◌∙◌}
use Rattle.wc_model.specs.declared.entries.Entry.TheVariants.{Answer}
use Rattle.wc_model.specs.Workspace.Closures.{closure}
use Rattle.wc_model.specs.Workspace.Edits.{AgreeOnAll}
use Rattle.wc_core.specs.Inner.Seats.{seat_at, with_seat}
use Rattle.wc_core.specs.Views.{KnownTicket}
use Rattle.wc_core.proofs.DoneLemmas.{can, done_at, owes}
use Rattle.wc_core.proofs.NameLemmas.{IsTakenFrom}
use Rattle.wc_core.proofs.shared.Core.answer.Goals as goal

pub push_reserved-requires : goal.push_reserved-requires
push_reserved-requires g c =
    let ready = can g.W.Work.chain g.W.Work.is_feature _ _ _ _ c.self.view_is c.self.invariant.0 c.args.ticket c.requires.fits in
    omega (arith, ready.some, ready.owes, ready.room)

pub overflow_add-self : goal.overflow_add-self
overflow_add-self g c =
    let i = c.self.inside in
    let back : c.ticket.inside.session ≡ c.args.ticket.session = ap (λ (t : KnownTicket g.row.W-Value.Denot). t.session) c.ticket.view_is in
    let taken = subst (λ s. IsTakenFrom s i.seats c.take_name-name.new.self c.take_name-name.result) back c.take_name-name.ensures in
    let names : c.names.result ≡ length (seat_at c.args.ticket.session c.take_name-name.new.self).names = c.names.ensures ∙ ap (λ s. length (seat_at s c.take_name-name.new.self).names) back in
    let few : c.names.result + 1 ≤ i.owed = subst (λ n. n + 1 ≤ i.owed) (sym names) (owes g.W.Work.chain g.W.Work.is_feature _ _ _ _ c.self.view_is c.self.invariant.0 c.args.ticket c.requires.fits c.take_name-name.result c.take_name-name.new.self taken) in
    omega (arith, few, c.self.ranges)

pub overflow_sub-self : goal.overflow_sub-self
overflow_sub-self g c =
    let i = c.self.inside in
    let back : c.ticket.inside.session ≡ c.args.ticket.session = ap (λ (t : KnownTicket g.row.W-Value.Denot). t.session) c.ticket.view_is in
    let taken = subst (λ s. IsTakenFrom s i.seats c.take_name-name.new.self c.take_name-name.result) back c.take_name-name.ensures in
    let names : c.names.result ≡ length (seat_at c.args.ticket.session c.take_name-name.new.self).names = c.names.ensures ∙ ap (λ s. length (seat_at s c.take_name-name.new.self).names) back in
    let few : c.names.result + 1 ≤ i.owed = subst (λ n. n + 1 ≤ i.owed) (sym names) (owes g.W.Work.chain g.W.Work.is_feature _ _ _ _ c.self.view_is c.self.invariant.0 c.args.ticket c.requires.fits c.take_name-name.result c.take_name-name.new.self taken) in
    few

pub invariant_of-self : goal.invariant_of-self
invariant_of-self g c =
    let i = c.self.inside in
    let back : c.ticket.inside.session ≡ c.args.ticket.session = ap (λ (t : KnownTicket g.row.W-Value.Denot). t.session) c.ticket.view_is in
    let taken = subst (λ s. IsTakenFrom s i.seats c.take_name-name.new.self c.take_name-name.result) back c.take_name-name.ensures in
    let names : c.names.result ≡ length (seat_at c.args.ticket.session c.take_name-name.new.self).names = c.names.ensures ∙ ap (λ s. length (seat_at s c.take_name-name.new.self).names) back in
    let few : c.names.result + 1 ≤ i.owed = subst (λ n. n + 1 ≤ i.owed) (sym names) (owes g.W.Work.chain g.W.Work.is_feature _ _ _ _ c.self.view_is c.self.invariant.0 c.args.ticket c.requires.fits c.take_name-name.result c.take_name-name.new.self taken) in
    let later = c.ticket-2.view_is ∙ c.put.ensures.ticket in
    let entries = c.push_reserved.ensures.items ∙ ap₂ (λ s n. i.history.items ++ Answer s c.take_name-name.result n c.args.outcome ∷ []) (ap (λ (t : KnownTicket g.row.W-Value.Denot). t.session) later) (ap (λ (t : KnownTicket g.row.W-Value.Denot). t.at) later) in
    let keys = c.keys.ensures ∙ ap (λ s. (seat_at s i.seats).keys) back in
    let filled = c.fill.ensures ∙ ap₂ (λ s x. with_seat s x c.take_name-name.new.self) back c.empty.ensures in
    let less : i.owed - (c.names.result + 1) + (length (seat_at c.args.ticket.session c.take_name-name.new.self).names + 1) ≡ i.owed = omega (arith, names, few) in
    let all = done_at g.W.Work.chain g.W.Work.is_feature _ _ _ _ c.self.view_is c.self.invariant.0 c.args.ticket c.requires.fits c.take_name-name.result c.take_name-name.new.self taken (λ k a b name v agree f. g.met.W.Work.stable k a b name v (subst (λ ds. AgreeOnAll a b (closure ds k)) c.self.invariant.1 agree) f)
    c.args.outcome c.requires.step c.push_reserved.new.self.items c.keys.result.now c.fill.new.self (i.owed - (c.names.result + 1)) (vec_capacity i.history) i.store.spare entries keys filled less (omega arith) (omega (arith, few, c.self.invariant.0.parts.stored)) in
    rw (c.push_reserved.ensures.capacity, c.put.ensures.lines, c.put.ensures.spare) (all.core, c.self.invariant.1, c.self.invariant.2)

pub returns-clause-done : goal.returns-clause-done
returns-clause-done g c =
    let i = c.self.inside in
    let back : c.ticket.inside.session ≡ c.args.ticket.session = ap (λ (t : KnownTicket g.row.W-Value.Denot). t.session) c.ticket.view_is in
    let taken = subst (λ s. IsTakenFrom s i.seats c.take_name-name.new.self c.take_name-name.result) back c.take_name-name.ensures in
    let names : c.names.result ≡ length (seat_at c.args.ticket.session c.take_name-name.new.self).names = c.names.ensures ∙ ap (λ s. length (seat_at s c.take_name-name.new.self).names) back in
    let few : c.names.result + 1 ≤ i.owed = subst (λ n. n + 1 ≤ i.owed) (sym names) (owes g.W.Work.chain g.W.Work.is_feature _ _ _ _ c.self.view_is c.self.invariant.0 c.args.ticket c.requires.fits c.take_name-name.result c.take_name-name.new.self taken) in
    let later = c.ticket-2.view_is ∙ c.put.ensures.ticket in
    let entries = c.push_reserved.ensures.items ∙ ap₂ (λ s n. i.history.items ++ Answer s c.take_name-name.result n c.args.outcome ∷ []) (ap (λ (t : KnownTicket g.row.W-Value.Denot). t.session) later) (ap (λ (t : KnownTicket g.row.W-Value.Denot). t.at) later) in
    let keys = c.keys.ensures ∙ ap (λ s. (seat_at s i.seats).keys) back in
    let filled = c.fill.ensures ∙ ap₂ (λ s x. with_seat s x c.take_name-name.new.self) back c.empty.ensures in
    let less : i.owed - (c.names.result + 1) + (length (seat_at c.args.ticket.session c.take_name-name.new.self).names + 1) ≡ i.owed = omega (arith, names, few) in
    let all = done_at g.W.Work.chain g.W.Work.is_feature _ _ _ _ c.self.view_is c.self.invariant.0 c.args.ticket c.requires.fits c.take_name-name.result c.take_name-name.new.self taken (λ k a b name v agree f. g.met.W.Work.stable k a b name v (subst (λ ds. AgreeOnAll a b (closure ds k)) c.self.invariant.1 agree) f)
    c.args.outcome c.requires.step c.push_reserved.new.self.items c.keys.result.now c.fill.new.self (i.owed - (c.names.result + 1)) (vec_capacity i.history) i.store.spare entries keys filled less (omega arith) (omega (arith, few, c.self.invariant.0.parts.stored)) in
    rw (ap (λ (t : KnownTicket g.row.W-Value.Denot). t.at) later) all.done

pub returns-clause-goes : goal.returns-clause-goes
returns-clause-goes g c =
    let i = c.self.inside in
    let back : c.ticket.inside.session ≡ c.args.ticket.session = ap (λ (t : KnownTicket g.row.W-Value.Denot). t.session) c.ticket.view_is in
    let taken = subst (λ s. IsTakenFrom s i.seats c.take_name-name.new.self c.take_name-name.result) back c.take_name-name.ensures in
    let names : c.names.result ≡ length (seat_at c.args.ticket.session c.take_name-name.new.self).names = c.names.ensures ∙ ap (λ s. length (seat_at s c.take_name-name.new.self).names) back in
    let few : c.names.result + 1 ≤ i.owed = subst (λ n. n + 1 ≤ i.owed) (sym names) (owes g.W.Work.chain g.W.Work.is_feature _ _ _ _ c.self.view_is c.self.invariant.0 c.args.ticket c.requires.fits c.take_name-name.result c.take_name-name.new.self taken) in
    let later = c.ticket-2.view_is ∙ c.put.ensures.ticket in
    let entries = c.push_reserved.ensures.items ∙ ap₂ (λ s n. i.history.items ++ Answer s c.take_name-name.result n c.args.outcome ∷ []) (ap (λ (t : KnownTicket g.row.W-Value.Denot). t.session) later) (ap (λ (t : KnownTicket g.row.W-Value.Denot). t.at) later) in
    let keys = c.keys.ensures ∙ ap (λ s. (seat_at s i.seats).keys) back in
    let filled = c.fill.ensures ∙ ap₂ (λ s x. with_seat s x c.take_name-name.new.self) back c.empty.ensures in
    let less : i.owed - (c.names.result + 1) + (length (seat_at c.args.ticket.session c.take_name-name.new.self).names + 1) ≡ i.owed = omega (arith, names, few) in
    let all = done_at g.W.Work.chain g.W.Work.is_feature _ _ _ _ c.self.view_is c.self.invariant.0 c.args.ticket c.requires.fits c.take_name-name.result c.take_name-name.new.self taken (λ k a b name v agree f. g.met.W.Work.stable k a b name v (subst (λ ds. AgreeOnAll a b (closure ds k)) c.self.invariant.1 agree) f)
    c.args.outcome c.requires.step c.push_reserved.new.self.items c.keys.result.now c.fill.new.self (i.owed - (c.names.result + 1)) (vec_capacity i.history) i.store.spare entries keys filled less (omega arith) (omega (arith, few, c.self.invariant.0.parts.stored)) in
    all.advances
