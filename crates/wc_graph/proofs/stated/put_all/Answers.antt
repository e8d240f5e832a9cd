use Rattle.std.proofs.Common.{ℕ, ◌<◌, List, length, get_or, ◌∙◌, arith}
use Rattle.wc_graph.specs.Inner.Stated.{key_of}
use Rattle.wc_graph.proofs.RisingLemmas.{key_target}
use Rattle.wc_graph.proofs.StatedLemmas.{next_key, fits_any}
use Rattle.wc_graph.proofs.stated.put_all.Goals as goal

pub loop-target-preserved : goal.loop-target-preserved
loop-target-preserved c =
    let keys : List ℕ = c.loop-target.keys.keys in
    let to : List ℕ = c.args.to.now in
    let i = c.loop-target.target-index in
    let less : i < length to = omega arith in
    next_key (key_of c.args.at) keys c.insert.new.self.keys to i 0 less (c.in_ok-insert.ensures.keys ∙ key_target keys (key_of c.args.at (get_or to i 0))) ∙ c.loop-target.invariant

pub returns-clause-fit : goal.returns-clause-fit
returns-clause-fit c = fits_any c.args.to.now (λ k. omega (arith, c.type_inv.to k))
