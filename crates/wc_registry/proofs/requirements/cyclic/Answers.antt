use Rattle.std.proofs.Common.{List, Bool, ◌≡◌, ◌<◌, [], ◌∷◌, ◌++◌, refl, take, sym, subst, ap, ◌∙◌, arith}
use Rattle.std.specs.List.{slice_index_or}
use Rattle.std.proofs.lemmas.List.{take_all}
use Rattle.wc_model.specs.declared.kinds.Describe.{Describe}
use Rattle.wc_registry.specs.Inner.KindSets.{holds}
use Rattle.wc_registry.specs.Inner.Required.{AreCyclic}
use Rattle.wc_registry.proofs.FaultLemmas.{cyclic_all, cyclic_more, cyclic_none, cyclic_same, one_more, row_at}
use Rattle.std.proofs.lemmas.Bool.{false≢true}
use Rattle.wc_registry.proofs.requirements.cyclic.Goals.{then-has, else-has}
use Rattle.wc_registry.proofs.requirements.cyclic.Goals as goal

pub bounds-sets-number : goal.bounds-sets-number
bounds-sets-number c =
    let d : Describe = c.describe-item.result in
    let less : d.provides < 65 = c.requires.below d.provides (d, (c.loop-describe.describe-index, c.loop-describe-test.true, sym c.describe-item.is), refl) in
    omega (arith, c.number.ensures, c.requires.sets.counted)

pub loop-describe-init : goal.loop-describe-init
loop-describe-init c = cyclic_none c.args.list.now c.empty-cyclic.result c.empty-cyclic.ensures.empty

pub loop-describe-preserved : goal.loop-describe-preserved
loop-describe-preserved c =
    let l = c.loop-describe in
    let list : List Describe = c.args.list.now in
    let d : Describe = c.describe-item.result in
    let less : d.provides < 65 = c.requires.below d.provides (d, (l.describe-index, c.loop-describe-test.true, sym c.describe-item.is), refl) in
    let row : c.index-sets-number.result ≡ slice_index_or c.args.sets.now d.provides [] = row_at c.args.sets.now c.number.result d.provides c.index-sets-number.result c.number.ensures (omega (arith, c.number.ensures, c.requires.sets.counted)) c.index-sets-number.is in
    let held : c.has.result ≡ holds (slice_index_or c.args.sets.now d.provides []) d.provides = c.has.ensures ∙ ap (λ (set : List Bool). holds set d.provides) row in
    let of_row = c.requires.sets.are d.provides d.provides less in
    subst (λ (ds : List Describe). AreCyclic list ds c.if-has.cyclic) (sym (one_more list l.describe-index d c.loop-describe-test.true c.describe-item.is)) (elim c.if-has.branch [
      | then-has w ↦ subst (λ (marks : List Bool). AreCyclic list (take l.describe-index list ++ d ∷ []) marks) (sym w.cyclic-is) (cyclic_more list (take l.describe-index list) d l.cyclic w.add.new.self (of_row.0 (sym held ∙ w.if-has.true)) w.add.ensures.adds l.invariant)
      | else-has w ↦ subst (λ (marks : List Bool). AreCyclic list (take l.describe-index list ++ d ∷ []) marks) (sym w.cyclic-is) (cyclic_same list (take l.describe-index list) d l.cyclic (λ again. false≢true (sym (sym held ∙ w.if-has.false) ∙ of_row.1 again)) l.invariant)
    ])

pub returns : goal.returns
returns c = cyclic_all c.args.list.now c.loop-describe.cyclic (subst (λ (ds : List Describe). AreCyclic c.args.list.now ds c.loop-describe.cyclic) (take_all c.loop-describe.describe-index c.args.list.now (omega arith)) c.loop-describe.invariant)
