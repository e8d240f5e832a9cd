use Rattle.std.proofs.Common.{◌<◌, refl, sym, subst, ◌∙◌}
use Rattle.std.proofs.lemmas.List.Elements.{All-nil}
use Rattle.wc_model.specs.declared.flow_facts.Fact.{Fact}
use Rattle.wc_graph.specs.declared.stated.Stated.{Stated}
use Rattle.wc_graph.specs.Inner.Stated.{Adds}
use Rattle.wc_graph.proofs.RisingLemmas.{key_target}
use Rattle.wc_graph.proofs.stated.Stated.add.Goals as goal

pub returns-in_ok-insert-in-Noreturn : goal.returns-in_ok-insert-in-Noreturn
returns-in_ok-insert-in-Noreturn c =
    let old = c.args.self.now in
    let new : Stated = record { jumps = old.jumps; calls = old.calls; noreturns = c.insert.new.self } in
    subst (λ (f : Fact). Adds f old new) (sym c.in-Noreturn.is) (record {
      jumps = refl;
      calls = refl;
      noreturns = c.in_ok-insert-in-Noreturn.ensures.keys ∙ key_target old.noreturns.keys c.in-Noreturn.at;
      fits = All-nil (λ t. t < 4294967296);
    })
