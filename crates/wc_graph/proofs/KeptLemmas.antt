-- The steps that the graph keeps, with their new numbers.
use Rattle.std.proofs.Common.{ℕ, zero, suc, ◌≡◌, ◌+◌, ◌<◌, List, [], ◌∷◌, ◌++◌, Option, None, Some, length, refl, sym, ap, subst, ◌∙◌, arith}
use Rattle.std.specs.List.{AllZip, flat_map, slice_get}
use Rattle.std.proofs.lemmas.Option.{none-some, slice_get_within}
use Rattle.wc_model.proofs.Places.{get_within}
use Rattle.wc_model.specs.declared.elf_image.Image.{Image}
use Rattle.wc_model.specs.declared.flow_facts.Fact.{Fact}
use Rattle.wc_model.specs.declared.graphs.Step.{Step as NumberedStep}
use Rattle.wc_model.specs.Program.Graphs.{AreKept, nothing, IsKept, IsLivePosition, IsStepOf}
use Rattle.wc_model.specs.Program.Positions.{Position}
use Rattle.wc_model.specs.Program.Steps.{Step, steps_of}
use Rattle.wc_graph.specs.declared.frames.Leap.{Leap}
use Rattle.wc_graph.specs.declared.numbering.Numbering.{Numbering}
use Rattle.wc_graph.specs.declared.survey.Survey.{Survey}
use Rattle.wc_graph.specs.Inner.Assemblies.{leaps_at, step_of, steps_from}
use Rattle.wc_graph.specs.Inner.Exploring.{Lands}
use Rattle.wc_graph.specs.Inner.Lists.{Has}
use Rattle.wc_graph.specs.Inner.Numberings.{AreRanked}
use Rattle.wc_graph.specs.Inner.Ordered.{rank_at}
use Rattle.wc_graph.proofs.AssemblyLemmas.{keep_all, kept_append, rank_is}
use Rattle.wc_graph.proofs.LiveLemmas.{count, ends_are}
use Rattle.wc_graph.proofs.PositionLemmas.{has_number, is_live, positions, ps, zip as zip_all}
use Rattle.wc_graph.proofs.ReachLemmas.{has_get}
use Rattle.wc_graph.proofs.StackLemmas.{step_from}
use Rattle.wc_graph.proofs.WalkLemmas.{zip_append}
use Rattle.wc_graph.proofs.ZipLemmas.{zip_right}

rank_some : (ranks : List (Option ℕ)) (k n : ℕ) → rank_at ranks k ≡ Some n → slice_get ranks k ≡ Some (Some n)
rank_some [] k n is = absurd (none-some n is)
rank_some (r ∷ ranks) zero n is = ap Some is
rank_some (r ∷ ranks) (suc k) n is = rank_some ranks k n is

module _ {image : Image} {facts : List Fact} {entry : ℕ} {survey : Survey} {ranking ordering : Numbering} (b : AreRanked image facts entry survey ranking ordering) where
  abbrev order : List ℕ
  order = ordering.order.items

  abbrev numbers : List (Option ℕ)
  numbers = ordering.numbers.items

  abbrev leaps : List (List Leap)
  leaps = survey.code.leaps

  abbrev steps : Position → List Step
  steps = steps_of image facts entry

  told : (t n : ℕ) → rank_at numbers t ≡ Some n → slice_get order n ≡ Some t
  told t n is = (b.ordered.numbered.placed.back t n (rank_some numbers t n is)).1

  pub new_number : (k : ℕ) → Has order k → (n : ℕ) × (slice_get order n ≡ Some k) × (slice_get numbers k ≡ Some (Some n))
  new_number k has =
      let at = has_get order k has in
      (at.0, at.1, b.ordered.numbered.placed.there b.ordered.numbered.once at.0 k (slice_get_within order at.0 k at.1) at.1)

  untold : (t : ℕ) (r : Position) → rank_at numbers t ≡ None → slice_get (ps b) t ≡ Some r → IsLivePosition image facts entry r → ⊥
  untold t r none at lives =
      let n = new_number t (has_number b t ((ends_are image facts entry survey b.is t r at).1 lives.1)) in
      none-some n.0 (sym none ∙ rank_is numbers t n.0 n.2)

  at_order : (n t : ℕ) → slice_get order n ≡ Some t → (q : Position) × (slice_get (positions b) n ≡ Some q) × (slice_get (ps b) t ≡ Some q)
  at_order n t at = zip_right (λ k q. slice_get (ps b) k ≡ Some q) order (positions b) n t (zip_all b) at

  pub record AreKeptAll (numbered : List NumberedStep) (all : List Step) : Type 0 where
    pub some : List Step
    pub kept : AreKept (IsKept image facts entry) all some
    pub stands : AllZip (IsStepOf (positions b)) numbered some

  own_leaps : (k : ℕ) (q : Position) → slice_get (ps b) k ≡ Some q → AllZip (Lands (ps b)) (leaps_at (slice_get leaps k)) (steps q)
  own_leaps k q at =
      let less : k < length (ps b) = slice_get_within (ps b) k q at in
      let v = get_within leaps k (omega (arith, less, count image facts entry survey b.is, b.is.all)) in
      subst (λ (o : Option (List Leap)). AllZip (Lands (ps b)) (leaps_at o) (steps q)) (sym v.1) (b.is.searching.expanded k v.0 q v.1 at)

  keep_from : (n : ℕ) (ks : List ℕ) (qs : List Position) → AllZip (λ k q. slice_get (ps b) k ≡ Some q) ks qs → ((i : ℕ) (q : Position) → slice_get qs i ≡ Some q → slice_get (positions b) (n + i) ≡ Some q) → AreKeptAll (steps_from leaps numbers n ks) (flat_map steps qs)
  keep_from n [] [] zip behind = record { some = []; kept = nothing; stands = tt }
  keep_from n [] (q ∷ qs) zip behind = absurd zip
  keep_from n (k ∷ ks) [] zip behind = absurd zip
  keep_from n (k ∷ ks) (q ∷ qs) zip behind =
      let at : slice_get (positions b) n ≡ Some q = subst (λ (i : ℕ). slice_get (positions b) i ≡ Some q) (omega arith) (behind 0 q refl) in
      let own = keep_all (IsLivePosition image facts entry) (ps b) (positions b) order numbers (zip_all b) told untold (is_live b) at_order n q at (leaps_at (slice_get leaps k)) (steps q) (own_leaps k q zip.0) (λ s has. (step_from image facts entry q s has).source_is) in
      let rest = keep_from (n + 1) ks qs zip.1 (λ i p at_i. subst (λ (j : ℕ). slice_get (positions b) j ≡ Some p) (next i) (behind (suc i) p at_i)) in
      record {
        some = own.some ++ rest.some;
        kept = kept_append (IsKept image facts entry) own.kept rest.kept;
        stands = zip_append (IsStepOf (positions b)) (flat_map (step_of numbers n) (leaps_at (slice_get leaps k))) (steps_from leaps numbers (n + 1) ks) own.some rest.some own.numbered rest.stands;
      }
    where
      next : (i : ℕ) → n + suc i ≡ (n + 1) + i
      next i = omega arith

  pub kept_all : AreKeptAll (steps_from leaps numbers 0 order) (flat_map steps (positions b))
  kept_all = keep_from 0 order (positions b) (zip_all b) (λ i q at. subst (λ (j : ℕ). slice_get (positions b) j ≡ Some q) (zero_of i) at)
    where
      zero_of : (i : ℕ) → i ≡ 0 + i
      zero_of i = omega arith
