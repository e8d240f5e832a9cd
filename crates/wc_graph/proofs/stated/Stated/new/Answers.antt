use Rattle.std.proofs.Common.{ℕ, ◌≡◌, ◌+◌, ◌<◌, List, [], ◌∷◌, ◌++◌, map, take, length, sym, subst, ap, ◌∙◌, arith}
use Rattle.std.proofs.Math.Seq.{take-length}
use Rattle.std.proofs.lemmas.List.{map-append, take_more}
use Rattle.wc_model.specs.declared.flow_facts.Fact.{Fact}
use Rattle.wc_graph.specs.declared.stated.Stated.{Stated}
use Rattle.wc_graph.specs.Inner.Stated.{AreStated}
use Rattle.wc_graph.proofs.StatedLemmas.{stated_more, stated_none}
use Rattle.wc_graph.proofs.stated.Stated.new.Goals as goal

pub loop-fact-init : goal.loop-fact-init
loop-fact-init c = stated_none (record { jumps = c.new.result; calls = c.new-2.result; noreturns = c.new-3.result }) c.new.ensures.empty c.new-2.ensures.empty c.new-3.ensures.empty

pub loop-fact-preserved : goal.loop-fact-preserved
loop-fact-preserved c =
    let items : List (ℕ × Fact) = c.items-fact-items.result.now in
    let i = c.loop-fact.fact-index in
    let item : ℕ × Fact = c.fact-item.result in
    let less : i < length items = omega arith in
    let new : Stated = c.add.new.self in
    let taken : take (i + 1) items ≡ take i items ++ item ∷ [] = take_more items i item less ∙ ap (λ (x : ℕ × Fact). take i items ++ x ∷ []) (sym c.fact-item.is) in
    let snd : ℕ × Fact → Fact = λ f. f.1 in
    subst (λ (xs : List (ℕ × Fact)). AreStated (map snd xs) new) (sym taken) (subst (λ (xs : List Fact). AreStated xs new) (sym (map-append snd (take i items) (item ∷ []))) (stated_more (map snd (take i items)) item.1 c.loop-fact.stated new c.loop-fact.invariant c.in_ok-add.ensures))

pub returns : goal.returns
returns c =
    let items : List (ℕ × Fact) = c.items-fact-items.result.now in
    let i = c.loop-fact.fact-index in
    let end : length items ≡ i = omega (arith, c.loop-fact-test.false, c.loop-fact.auto.fact-index-end) in
    let all : take i items ≡ items = ap (λ (n : ℕ). take n items) (sym end) ∙ take-length items in
    let snd : ℕ × Fact → Fact = λ f. f.1 in
    subst (λ (xs : List (ℕ × Fact)). AreStated (map snd xs) c.loop-fact.stated) (all ∙ c.items-fact-items.ensures) c.loop-fact.invariant
