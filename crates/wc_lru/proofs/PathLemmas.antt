-- The test for a path says whether there is one.
use Rattle.std.proofs.Common.{◌≡◌, ℕ, true, false, ◌&&◌, List, [], ◌∷◌, Contains, Option, None, Some, is_none, slice_get, refl, ap, subst, sym, ◌∙◌}
use Rattle.std.proofs.lemmas.Bool.{and_parts, eqb-true, eq-eqb, false≢true}
use Rattle.std.proofs.lemmas.Option.{get_or_from_slice_get, slice_get_within}
use Rattle.std.specs.List.{AllZip, cons_option}
use Rattle.wc_model.specs.declared.graphs.Graph.{Graph}
use Rattle.wc_model.specs.declared.graphs.Step.{Step}
use Rattle.wc_model.specs.Cache.Timing.{IsGraphWalk, IsPathOfPlaces}
use Rattle.wc_lru.specs.Inner.Places.{goes_on, is_walk, leaves, steps_at}

leaves_is : (at : Option ℕ) (source : ℕ) → leaves at source ≡ true → at ≡ Some source
leaves_is None source is = absurd (false≢true is)
leaves_is (Some p) source is = ap (λ n. Some n) (eqb-true p source is)

is_leaves : (at : Option ℕ) (source : ℕ) → at ≡ Some source → leaves at source ≡ true
is_leaves at source is = ap (λ o. leaves o source) is ∙ eq-eqb source source refl

ends_is : (at : Option ℕ) → is_none at ≡ true → at ≡ None
ends_is None is = refl
ends_is (Some p) is = absurd (false≢true is)

there : (steps : List Step) (k : ℕ) (s : Step) → slice_get steps k ≡ Some s → Contains steps s
there steps k s is = (k, slice_get_within steps k s is, get_or_from_slice_get steps k s s is)

-- the test finds the path
record IsFound (steps : List Step) (at : Option ℕ) (places : List ℕ) : Type 0 where
  steps_there : AllZip (λ k s. slice_get steps k ≡ Some s) places (steps_at steps places)
  walk : IsGraphWalk steps at (steps_at steps places)

found : (steps : List Step) (at : Option ℕ) (places : List ℕ) → is_walk steps at places ≡ true → IsFound steps at places
found steps at [] is = record { steps_there = tt; walk = ends_is at is }
found steps at (k ∷ places) is = first (slice_get steps k) refl (λ target. found steps target places) is
  where
    first : (o : Option Step) → slice_get steps k ≡ o → ((target : Option ℕ) → is_walk steps target places ≡ true → IsFound steps target places) → goes_on o at (λ target. is_walk steps target places) ≡ true → IsFound steps at (k ∷ places)
    first None is_step later is = absurd (false≢true is)
    first (Some s) is_step later is =
        let parts : (leaves at s.source ≡ true) × (is_walk steps s.target places ≡ true) = and_parts (leaves at s.source) (is_walk steps s.target places) is in
        let rest : IsFound steps s.target places = later s.target parts.1 in
        let all : steps_at steps (k ∷ places) ≡ s ∷ steps_at steps places = ap (λ o. cons_option o (steps_at steps places)) is_step in
        record {
          steps_there = subst (λ (path : List Step). AllZip (λ k s. slice_get steps k ≡ Some s) (k ∷ places) path) (sym all) (is_step, rest.steps_there);
          walk = subst (λ (path : List Step). IsGraphWalk steps at path) (sym all) (there steps k s is_step, leaves_is at s.source parts.0, rest.walk);
        }

pub path_found : (graph : Graph) (places : List ℕ) → is_walk graph.steps (Some graph.start) places ≡ true → IsPathOfPlaces graph places (steps_at graph.steps places)
path_found graph places is = let all : IsFound graph.steps (Some graph.start) places = found graph.steps (Some graph.start) places is in record { steps_there = all.steps_there; walk = all.walk }

-- each path passes the test
passes : (steps : List Step) (at : Option ℕ) (places : List ℕ) (path : List Step) → AllZip (λ k s. slice_get steps k ≡ Some s) places path → IsGraphWalk steps at path → is_walk steps at places ≡ true
passes steps at [] [] steps_there walk = ap is_none walk
passes steps at [] (s ∷ path) steps_there walk = absurd steps_there
passes steps at (k ∷ places) [] steps_there walk = absurd steps_there
passes steps at (k ∷ places) (s ∷ path) steps_there walk =
    ap (λ o. goes_on o at (λ target. is_walk steps target places)) steps_there.0 ∙ ap (λ b. b && is_walk steps s.target places) (is_leaves at s.source walk.1) ∙ passes steps s.target places path steps_there.1 walk.2

pub no_path : (graph : Graph) (places : List ℕ) → is_walk graph.steps (Some graph.start) places ≡ false → (path : List Step) → IsPathOfPlaces graph places path → ⊥
no_path graph places not path is = false≢true (sym not ∙ passes graph.steps (Some graph.start) places path is.steps_there is.walk)
