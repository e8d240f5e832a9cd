use Rattle.std.proofs.Common.{sym, ap, subst, ◌∙◌}
use Rattle.wc_model.specs.Workspace.History.{IsLegal}
use Rattle.wc_pass.specs.Known.{KnownPass}
use Rattle.wc_flight.proofs.HoldLemmas.{met_gains, met_keeps}
use Rattle.wc_flight.proofs.locked.Locked.meet.Goals as goal

pub returns-clause-keeps : goal.returns-clause-keeps
returns-clause-keeps g c =
    let seen = ap (λ (p : KnownPass). p.seen) c.meet.ensures.pass ∙ c.self.invariant.seen in
    let legal = subst (λ h. IsLegal g.W.Work.chain g.N.Named.opening h) (sym seen) c.self.invariant.legal in
    met_keeps g.W.Work.chain g.W.Work.is_feature g.N.Named.desk g.N.Named.opening _ _ (met_gains _ _ _ c.meet.ensures.before c.meet.ensures.own c.meet.ensures.pass) legal
