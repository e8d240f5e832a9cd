-- Inputs that agree on the closure of a kind have the same features of that kind.
use Rattle.std.proofs.Common.{◌≡◌, ℕ, ◌==◌, ◌||◌, Bool, true, false, List, [], ◌∷◌, refl, subst, arith, eqb-true}
use Rattle.std.specs.List.{list_any}
use Rattle.std.proofs.lemmas.Bool.{false≢true}
use Rattle.wc_model.specs.declared.kinds.Part.{Part}
use Rattle.wc_model.specs.declared.kinds.Part.TheVariants.{Steer, Loops, Limits, Cache as CachePart, Cycles as CyclesPart}
use Rattle.wc_model.specs.declared.values.Value.{Value}
use Rattle.wc_model.specs.declared.values.Value.TheVariants as value
use Rattle.wc_model.specs.Workspace.Closures.{closure}
use Rattle.wc_model.specs.Workspace.Edits.{AgreeOn, AgreeOnAll, Setting}
use Rattle.wc_model.specs.Workspace.Feature.{IsFeature}
use Rattle.wc_model.specs.Workspace.Kinds.{eleven_kinds}
use Rattle.wc_laws.proofs.AgreeingFeatureLemmas.{graphs, nests, bounds, lines, musts, mays, categories, costs, systems, solutions, outcomes}
use Rattle.wc_laws.specs.FeatureLaws.{FeaturesAgree}

-- parts by their place in their declaration
abbrev place : Part → ℕ
place Steer = 0
place Loops = 1
place Limits = 2
place CachePart = 3
place CyclesPart = 4

abbrev has_part : Part → List Part → Bool
has_part part parts = list_any (λ p. place p == place part) parts

module _ (a b : Setting) where
  same_image : (parts : List Part) → AgreeOnAll a b parts → a.image ≡ b.image
  same_image [] all = all
  same_image (part ∷ parts) all = same_image parts all.1

  by_place : (p q : Part) → place p ≡ place q → AgreeOn a b p → AgreeOn a b q
  by_place Steer Steer same agree = agree
  by_place Loops Loops same agree = agree
  by_place Limits Limits same agree = agree
  by_place CachePart CachePart same agree = agree
  by_place CyclesPart CyclesPart same agree = agree
  by_place p q same agree = absurd (omega (arith, same))

  first_or : (p q : Part) (ps : List Part) (t : Bool) → (place p == place q) ≡ t → (t || has_part q ps) ≡ true
      → AgreeOn a b p → (has_part q ps ≡ true → AgreeOn a b q) → AgreeOn a b q
  first_or p q ps true is has first later = by_place p q (eqb-true (place p) (place q) is) first
  first_or p q ps false is has first later = later has

  agree_on : (part : Part) (parts : List Part) → has_part part parts ≡ true → AgreeOnAll a b parts → AgreeOn a b part
  agree_on part [] has all = absurd (false≢true has)
  agree_on part (p ∷ ps) has all = first_or p part ps (place p == place part) refl has all.0 (λ later. agree_on part ps later all.1)

  abbrev AgreeAt : ℕ → Type 0
  AgreeAt kind = AgreeOnAll a b (closure eleven_kinds kind)

  same_kind : (kind number : ℕ) → kind ≡ number → AgreeAt kind → AgreeAt number
  same_kind kind number is all = subst AgreeAt is all

  module _ (number : ℕ) (all : AgreeAt number) where
    image : a.image ≡ b.image
    image = same_image (closure eleven_kinds number) all

    on : (part : Part) → has_part part (closure eleven_kinds number) ≡ true → AgreeOn a b part
    on part has = agree_on part (closure eleven_kinds number) has all

  module _ (name : List ℕ) where
    agree : (kind : ℕ) (v : Value) → AgreeAt kind → IsFeature a name kind v → IsFeature b name kind v
    agree kind (value.Graph r) all (is, of) =
        let here = same_kind kind 1 is all in
        (is, graphs a b name (image 1 here) (on 1 here Steer refl) r of)
    agree kind (value.Nest r) all (is, of) =
        let here = same_kind kind 2 is all in
        (is, nests a b name (image 2 here) (on 2 here Steer refl) r of)
    agree kind (value.Bounds r) all (is, of) =
        let here = same_kind kind 3 is all in
        (is, bounds a b name (image 3 here) (on 3 here Steer refl) (on 3 here Loops refl) r of)
    agree kind (value.Lines r) all (is, of) =
        let here = same_kind kind 4 is all in
        (is, lines a b name (image 4 here) (on 4 here Steer refl) (on 4 here CachePart refl) r of)
    agree kind (value.Must r) all (is, of) =
        let here = same_kind kind 5 is all in
        (is, musts a b name (image 5 here) (on 5 here Steer refl) (on 5 here CachePart refl) r of)
    agree kind (value.May r) all (is, of) =
        let here = same_kind kind 6 is all in
        (is, mays a b name (image 6 here) (on 6 here Steer refl) (on 6 here CachePart refl) r of)
    agree kind (value.Category r) all (is, of) =
        let here = same_kind kind 7 is all in
        (is, categories a b name (image 7 here) (on 7 here Steer refl) (on 7 here CachePart refl) r of)
    agree kind (value.Cost r) all (is, of) =
        let here = same_kind kind 8 is all in
        (is, costs a b name (image 8 here) (on 8 here Steer refl) (on 8 here CachePart refl) (on 8 here CyclesPart refl) r of)
    agree kind (value.System r) all (is, of) =
        let here = same_kind kind 9 is all in
        (is, systems a b name (image 9 here) (on 9 here Steer refl) (on 9 here CachePart refl) (on 9 here CyclesPart refl) (on 9 here Loops refl) (on 9 here Limits refl) r of)
    agree kind (value.Solution r) all (is, of) =
        let here = same_kind kind 10 is all in
        (is, solutions a b name (image 10 here) (on 10 here Steer refl) (on 10 here CachePart refl) (on 10 here CyclesPart refl) (on 10 here Loops refl) (on 10 here Limits refl) r of)
    agree kind (value.Bound r) all (is, of) =
        let here = same_kind kind 11 is all in
        (is, outcomes a b name (image 11 here) (on 11 here Steer refl) (on 11 here CachePart refl) (on 11 here CyclesPart refl) (on 11 here Loops refl) (on 11 here Limits refl) r of)

pub features_agree : FeaturesAgree
features_agree a b name kind v all is = agree a b name kind v all is
