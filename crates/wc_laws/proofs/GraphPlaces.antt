-- The live positions of a graph and their steps, by their numbers: both have the same levels of loops.
use Rattle.std.proofs.Common.{ℕ, ◌≡◌, inl, inr, List, [], ◌∷◌, Option, Some, IfSome, sym, ap, subst, ◌∙◌}
use Rattle.std.specs.List.{Contains, flat_map, slice_get}
use Rattle.std.proofs.lemmas.Option.{same_Some}
use Rattle.wc_model.proofs.Places.{contains_from_get, get_from_contains}
use Rattle.wc_model.specs.declared.elf_image.Image.{Image}
use Rattle.wc_model.specs.declared.flow_facts.Fact.{Fact}
use Rattle.wc_model.specs.declared.graphs.Graph.{Graph}
use Rattle.wc_model.specs.declared.graphs.Step.{Step as NumberedStep}
use Rattle.wc_model.specs.Flow.Nest.{LiveSteps}
use Rattle.wc_model.specs.Program.Graphs.{AreKept, nothing, kept, left, IsGraphOf, IsKept, IsLivePosition, IsStepOf, IsTargetOf, LeadsIn}
use Rattle.wc_model.specs.Program.Positions.{Position, start_of}
use Rattle.wc_model.specs.Program.Steps.{Step, LeadsBy, steps_of}
use Rattle.wc_graph.specs.Inner.Lists.{Has}
use Rattle.wc_graph.proofs.ReachLemmas.{get_has, has_get, target_some}
use Rattle.wc_graph.proofs.RisingLemmas.{append_has}
use Rattle.wc_graph.proofs.StackLemmas.{has_flat, step_from}
use Rattle.wc_graph.proofs.ZipLemmas.{zip_left, zip_right}
use Rattle.wc_laws.proofs.Correspondence.{AreOnce, AreSame, HasEnds}
use Rattle.wc_laws.proofs.StackOrder.{position_once}

kept_has : {A : Type 0} {Keeps : A → Type 0} {all some : List A} → AreKept Keeps all some → (x : A) → Has all x → Keeps x → Has some x
kept_has nothing x has keeps = absurd has
kept_has (kept is rest) x (inl same) keeps = inl same
kept_has (kept is rest) x (inr later) keeps = inr (kept_has rest x later keeps)
kept_has {Keeps = Keeps} (left is rest) x (inl same) keeps = absurd (is (subst Keeps (sym same) keeps))
kept_has (left is rest) x (inr later) keeps = kept_has rest x later keeps

has_kept : {A : Type 0} {Keeps : A → Type 0} {all some : List A} → AreKept Keeps all some → (x : A) → Has some x → Has all x × Keeps x
has_kept nothing x has = absurd has
has_kept {Keeps = Keeps} (kept is rest) x (inl same) = (inl same, subst Keeps same is)
has_kept (kept is rest) x (inr later) = let deep = has_kept rest x later in (inr deep.0, deep.1)
has_kept (left is rest) x has = let deep = has_kept rest x has in (inr deep.0, deep.1)

flat_has : {X Y : Type 0} (f : X → List Y) (xs : List X) (x : X) (y : Y) → Has xs x → Has (f x) y → Has (flat_map f xs) y
flat_has f [] x y has own = absurd has
flat_has {X} {Y} f (z ∷ xs) x y (inl same) own = append_has (f z) (flat_map f xs) y (inl (subst (λ (w : X). Has (f w) y) (sym same) own))
flat_has f (z ∷ xs) x y (inr later) own = append_has (f z) (flat_map f xs) y (inr (flat_has f xs x y later own))

-- the place of a numbered target
pub target_at : (ps : List Position) (o : Option ℕ) (k : ℕ) (t : Option Position) → o ≡ Some k → IsTargetOf ps o t → (p : Position) × (slice_get ps k ≡ Some p) × (t ≡ Some p)
target_at ps o k t is target = subst (λ (x : Option ℕ). IsTargetOf ps x t) is target

module _ {image : Image} {facts : List Fact} {entry : ℕ} {graph : Graph} (of : IsGraphOf image facts entry graph) where
  abbrev pub steps : Position → List Step
  steps = steps_of image facts entry

  -- a position and its number
  abbrev pub IsAt : Position → ℕ → Type 0
  IsAt p k = slice_get of.positions k ≡ Some p

  pub once : AreOnce IsAt
  once = record {
    left = λ p q s at_q at_s. position_once of.positions of.sorted q s p at_q at_s;
    right = λ p r q at_p at_r. same_Some p r (sym at_p ∙ at_r);
  }

  number_of : (p : Position) → IsLivePosition image facts entry p → (k : ℕ) × IsAt p k
  number_of p lives = get_from_contains of.positions p ((of.live p).1 lives)

  live_at : (p : Position) (k : ℕ) → IsAt p k → IsLivePosition image facts entry p
  live_at p k at = (of.live p).0 (contains_from_get of.positions k p at)

  -- a step and its place
  pub record Stands (i : ℕ) (s : Step) : Type 0 where
    pub numbered : NumberedStep
    pub there : slice_get graph.steps i ≡ Some numbered
    pub is : IsStepOf of.positions numbered s

  pub place_of : (p : Position) (s : Step) → IsLivePosition image facts entry p → Contains (steps p) s → IsKept image facts entry s → (i : ℕ) × Stands i s
  place_of p s lives among keeps =
      let k = number_of p lives in
      let own = get_from_contains (steps p) s among in
      let all : Has (flat_map steps of.positions) s = flat_has steps of.positions p s (get_has of.positions k.0 p k.1) (get_has (steps p) own.0 s own.1) in
      let n = has_get of.steps s (kept_has of.kept s all keeps) in
      let z = zip_left (IsStepOf of.positions) graph.steps of.steps n.0 s of.numbered n.1 in
      (n.0, record { numbered = z.0; there = z.1; is = z.2 })

  pub source_of : (p : Position) (s : Step) → Contains (steps p) s → s.source ≡ p
  source_of p s among = let own = get_from_contains (steps p) s among in (step_from image facts entry p s (get_has (steps p) own.0 s own.1)).source_is

  -- the step at a place
  record IsStepAt (z : NumberedStep) : Type 0 where
    step : Step
    is : IsStepOf of.positions z step
    among : Contains (steps step.source) step

  step_at : (z : NumberedStep) → Contains graph.steps z → IsStepAt z
  step_at z among_z =
      let i = get_from_contains graph.steps z among_z in
      let s = zip_right (IsStepOf of.positions) graph.steps of.steps i.0 z of.numbered i.1 in
      let all = has_kept of.kept s.0 (get_has of.steps i.0 s.0 s.1) in
      let own = has_flat steps of.positions s.0 all.0 in
      let n = has_get (steps own.0) s.0 own.2 in
      let among : Contains (steps own.0) s.0 = contains_from_get (steps own.0) n.0 s.0 n.1 in
      record { step = s.0; is = s.2; among = subst (λ (p : Position). Contains (steps p) s.0) (sym (source_of own.0 s.0 among)) among }

  abbrev pub Live : Position → Option Position → Type 0
  Live = LiveSteps (LeadsBy steps) (start_of entry)

  -- the positions at both ends of a numbered step
  numbered_ends : (q s : ℕ) (z : NumberedStep) → Contains graph.steps z → z.source ≡ q → z.target ≡ Some s → HasEnds (λ (k : ℕ) (p : Position). IsAt p k) q s
  numbered_ends q s z among source target =
      let at = step_at z among in
      let to = target_at of.positions z.target s at.step.target target at.is.target_is in
      record { from = at.step.source; from_at = subst (λ (k : ℕ). IsAt at.step.source k) source at.is.source_is; to = to.0; to_at = to.1 }

  numbered_step : (p r : Position) (q s : ℕ) → IsAt p q → IsAt r s → (t : Step) → Contains (steps p) t → t.target ≡ Some r → IsLivePosition image facts entry p → IsLivePosition image facts entry r → LeadsIn graph.steps q (Some s)
  numbered_step p r q s at_p at_r t among leads lives_p lives_r =
      let place = place_of p t lives_p among (subst (λ (o : Option Position). IfSome o (IsLivePosition image facts entry)) (sym leads) lives_r) in
      let to = target_some of.positions place.1.numbered.target t.target r leads place.1.is.target_is in (
        place.1.numbered,
        contains_from_get graph.steps place.0 place.1.numbered place.1.there,
        once.left p place.1.numbered.source q (place.1.is.source_is ∙ ap Some (source_of p t among)) at_p,
        to.1 ∙ ap Some (once.left r to.0 s to.2 at_r),
      )

  live_step : (p r : Position) (q s : ℕ) → IsAt p q → IsAt r s → (z : NumberedStep) → Contains graph.steps z → z.source ≡ q → z.target ≡ Some s → Live p (Some r)
  live_step p r q s at_p at_r z among source target =
      let at = step_at z among in
      let to = target_at of.positions z.target s at.step.target target at.is.target_is in
      let from : at.step.source ≡ p = once.right at.step.source p q (subst (λ (k : ℕ). IsAt at.step.source k) source at.is.source_is) at_p in (
        (at.step, subst (λ (x : Position). Contains (steps x) at.step) from at.among, to.2 ∙ ap Some (once.right to.0 r s to.1 at_r)),
        live_at p q at_p,
        live_at r s at_r,
      )

  pub same : AreSame IsAt Live (LeadsIn graph.steps)
  same = record {
    left = λ p r step.
        let from = number_of p step.1 in
        let to = number_of r step.2 in
        record { from = from.0; from_at = from.1; to = to.0; to_at = to.1 };
    right = λ q s step. numbered_ends q s step.0 step.1 step.2 step.3;
    forth = λ p r q s at_p at_r step. numbered_step p r q s at_p at_r step.0.0 step.0.1 step.0.2 step.1 step.2;
    back = λ p r q s at_p at_r step. live_step p r q s at_p at_r step.0 step.1 step.2 step.3;
  }
