use Rattle.std.proofs.Common.{ℕ, ◌≡◌, List, map, Err, Ok, sym, ap, subst, ◌∙◌, rules}
use Rattle.wc_graph.specs.Builds.{Builds}
use Rattle.wc_model.specs.declared.elf_image.Image.{Image}
use Rattle.wc_model.specs.declared.flow_facts.Fact.{Fact}
use Rattle.wc_model.specs.Program.Words.{find_of}
use Rattle.wc_model.specs.Workspace.Phases.{stopped}
use Rattle.wc_works.proofs.PhaseLemmas.{graph_answers}
use Rattle.wc_works.proofs.graph_work.graph_of.Goals as goal

pub returns-in-Ok-clause-feature : goal.returns-in-Ok-clause-feature
returns-in-Ok-clause-feature c inputs called image facts name =
    let found : find_of c.args.image.now c.args.name.now ≡ Ok c.in-Ok.entry = search rules in
    let here : find_of inputs.image called ≡ find_of c.args.image.now c.args.name.now = ap (λ (i : Image). find_of i called) image ∙ ap (λ (n : List ℕ). find_of c.args.image.now n) name in
    graph_answers inputs called c.in-Ok.entry c.build.result (here ∙ found)
    (subst (λ (fs : List (ℕ × Fact)). Builds inputs.image (map (λ (f : ℕ × Fact). f.1) fs) c.in-Ok.entry c.build.result) (sym facts)
    (subst (λ (i : Image). Builds i (map (λ (f : ℕ × Fact). f.1) c.args.facts.now) c.in-Ok.entry c.build.result) (sym image) c.build.ensures.graph))

pub returns-in-Err-clause-feature : goal.returns-in-Err-clause-feature
returns-in-Err-clause-feature c inputs called image facts name =
    let found : find_of c.args.image.now c.args.name.now ≡ Err c.in-Err.fault = search rules in
    let here : find_of inputs.image called ≡ find_of c.args.image.now c.args.name.now = ap (λ (i : Image). find_of i called) image ∙ ap (λ (n : List ℕ). find_of c.args.image.now n) name in
    stopped c.in-Err.fault (here ∙ found)
