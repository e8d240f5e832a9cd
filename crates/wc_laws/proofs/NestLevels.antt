-- A head is of one level, and marked steps are those that go back.
use Rattle.std.proofs.Common.{ℕ, suc, ◌≡◌, ◌<◌, ◌≤◌, ⊎_elim, Bool, true, false, Option, None, Some, refl, sym, ap, subst, ◌∙◌, arith}
use Rattle.std.specs.Prelude.{◌↔◌}
use Rattle.std.specs.List.{slice_get}
use Rattle.std.proofs.lemmas.Bool.{cases_lt, false≢true}
use Rattle.std.proofs.lemmas.Option.{get_or_from_slice_get, same_Some}
use Rattle.wc_model.specs.declared.graphs.Graph.{Graph}
use Rattle.wc_model.specs.declared.graphs.Nest.{Nest}
use Rattle.wc_model.specs.declared.graphs.Step.{Step}
use Rattle.wc_model.specs.Flow.Nest.{HeadAt, ClassAt, IsBack, IsNest}
use Rattle.wc_model.specs.Flow.Systems.{is_marked, leads_to}
use Rattle.wc_dual.proofs.DualityLemmas.{same_number}
use Rattle.wc_graph.proofs.ZipLemmas.{zip_right}
use Rattle.wc_nest.specs.Inner.Nests.{StepAt}
use Rattle.wc_nest.proofs.NestLemmas.{class_below}
use Rattle.wc_nest.proofs.RelationLemmas.{head_leaves}
use Rattle.wc_laws.proofs.ListedPlaces.{test_same}

module _ (graph : Graph) where
  one_level : (k l h : ℕ) → HeadAt graph k h → HeadAt graph l h → k ≡ l
  one_level k l h at_k at_l = ⊎_elim
      (λ (less : k < l). absurd (head_leaves (StepAt graph k) graph.start h h at_k (class_below graph l (suc k) h h (omega arith) (at_l.0, at_l.0)).0))
      (λ (high : l ≤ k). ⊎_elim
      (λ (more : l < k). absurd (head_leaves (StepAt graph l) graph.start h h at_l (class_below graph k (suc l) h h (omega arith) (at_k.0, at_k.0)).0))
      (λ (low : k ≤ l). omega arith)
      (cases_lt l k))
      (cases_lt k l)

  -- a step back to a head comes from the head's class
  pub back_class : (z : Step) (k g : ℕ) → HeadAt graph k g → z.target ≡ Some g → IsBack graph z → ClassAt graph k z.source g
  back_class z k g head target (l, h, to, back) =
      let same : h ≡ g = same_Some h g (sym to ∙ target) in
      let level : l ≡ k = one_level l k g (subst (HeadAt graph l) same back.0) head in
      subst (λ (n : ℕ). ClassAt graph n z.source g) level (subst (ClassAt graph l z.source) same back.1)

  module _ (nest : Nest) (nest_is : IsNest graph nest) where
    pub marked_back : (i : ℕ) (z : Step) → slice_get graph.steps i ≡ Some z → (is_marked nest i ≡ true) ↔ IsBack graph z
    marked_back i z at =
        let mark = zip_right (λ (y : Step) (b : Bool). (b ≡ true) ↔ IsBack graph y) graph.steps nest.back i z nest_is.backs at in
        let is : is_marked nest i ≡ mark.0 = get_or_from_slice_get nest.back i mark.0 false mark.1 in
        ((λ yes'. mark.2.0 (sym is ∙ yes')), (λ back. is ∙ mark.2.1 back))

pub leads_some : (o : Option ℕ) (g : ℕ) → leads_to o g ≡ true → o ≡ Some g
leads_some None g is = absurd (false≢true is)
leads_some (Some q) g is = ap Some (same_number g q is)

pub some_leads : (o : Option ℕ) (g : ℕ) → o ≡ Some g → leads_to o g ≡ true
some_leads o g is = ap (λ x. leads_to x g) is ∙ test_same g g refl
