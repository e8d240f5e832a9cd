use Rattle.std.proofs.Common.{ℕ, ◌<◌, [], ◌∷◌, ◌++◌, Option, IfSome, length, refl, sym, ap, subst, ◌∙◌}
use Rattle.std.proofs.lemmas.List.{length-set}
use Rattle.wc_model.proofs.Places.{get_within}
use Rattle.wc_graph.specs.declared.sources.Sources.{Sources}
use Rattle.wc_graph.specs.Inner.Sources.{AreSources}
use Rattle.wc_graph.proofs.SourceLemmas.{exit_more, into_more}
use Rattle.wc_graph.proofs.sources.Sources.add.Goals as goal

pub returns-in_default-clause-sources : goal.returns-in_default-clause-sources
returns-in_default-clause-sources c = λ edges are.
    let old = c.args.self.now in
    let new : Sources = record { into = old.into; exits = c.push.new.self } in
    subst (λ (t : Option ℕ). AreSources (length old.into) (edges ++ (c.args.source, t) ∷ []) new) (sym c.in_default.is) (exit_more (length old.into) edges old new c.args.source are c.in_ok-push.ensures.items refl)

pub returns-clause-sources : goal.returns-clause-sources
returns-clause-sources c = λ edges are.
    let old = c.args.self.now in
    let target = c.in-Some.target in
    let new : Sources = record { into = c.add.new.self; exits = old.exits } in
    let less : target < length old.into = subst (λ (o : Option ℕ). IfSome o (λ t. t < length old.into)) c.in-Some.is c.requires.inside in
    let own = get_within old.into target less in
    subst (λ (t : Option ℕ). AreSources (length old.into) (edges ++ (c.args.source, t) ∷ []) new) (sym c.in-Some.is) (into_more (length old.into) edges old new c.args.source are target own.0 own.1 (c.in_ok-add.ensures.added own.0 own.1) refl)

pub returns-clause-count : goal.returns-clause-count
returns-clause-count c =
    let old = c.args.self.now in
    let target = c.in-Some.target in
    let less : target < length old.into = subst (λ (o : Option ℕ). IfSome o (λ t. t < length old.into)) c.in-Some.is c.requires.inside in
    let own = get_within old.into target less in
    ap length (c.in_ok-add.ensures.added own.0 own.1) ∙ length-set old.into target (c.args.source ∷ own.0)
