-- Which kinds an edit touches.
use Rattle.std.proofs.Common.{ℕ, ◌≡◌, ◌↔◌, ◌&&◌, ◌||◌, ◌==◌, Bool, true, false, cond, not, List, [], ◌∷◌, ◌++◌, map, if◌then◌else◌, refl, sym, ap, ap₂, ◌∙◌}
use Rattle.std.specs.List.{Contains, filter, list_any}
use Rattle.std.proofs.lemmas.Bool.{false≢true}
use Rattle.wc_model.specs.declared.kinds.Part.{Part}
use Rattle.wc_model.specs.declared.kinds.Part.TheVariants.{Steer, Loops, Limits, Cache, Cycles}
use Rattle.wc_core.specs.declared.touching.Touched.{Touched}
use Rattle.wc_core.specs.Inner.Lines.{Line}
use Rattle.wc_core.specs.Inner.Shelves.{KnownShelf}
use Rattle.wc_core.specs.Inner.Touching.{AreTouched, lines_cut, stamped, touches_kind}
use Rattle.wc_registry.specs.Inner.Required.{has_part}
use Rattle.wc_registry.proofs.ClosureLemmas.{part_there, there_part}

-- a test that says whether a list has a part
tested_case : (part : Part) (parts : List Part) (b has : Bool) → has_part part parts ≡ has → (b ≡ true) ↔ Contains parts part → b ≡ has
tested_case part parts true true is both = refl
tested_case part parts false false is both = refl
tested_case part parts true false is both = absurd (false≢true (sym is ∙ there_part part parts (both.0 refl)))
tested_case part parts false true is both = both.1 (part_there part parts is)

pub tested : (part : Part) (parts : List Part) (b : Bool) → (b ≡ true) ↔ Contains parts part → b ≡ has_part part parts
tested part parts b both = tested_case part parts b (has_part part parts) refl both

and_none : (b : Bool) → (b && false) ≡ false
and_none true = refl
and_none false = refl

first_of : (m h r : Bool) → ((m && true) || r) ≡ (m || ((m && h) || r))
first_of true h r = refl
first_of false h r = refl

under : (a m x y : Bool) → x ≡ (m || y) → (a || x) ≡ (m || (a || y))
under true true x y is = refl
under true false x y is = refl
under false m x y is = is

last_of : (m h : Bool) → (m && true) ≡ (m || (m && h))
last_of true h = refl
last_of false h = refl

module _ (test : Part → Bool) (t : Touched) (are : AreTouched test t) where
  one : (x : Part) (xs : List Part) → touches_kind t (x ∷ xs) ≡ (test x || touches_kind t xs)
  one Steer xs = first_of t.steer (has_part Steer xs) _ ∙ ap (λ b. b || touches_kind t xs) are.steer
  one Loops xs = under (t.steer && has_part Steer xs) t.loops _ _ (first_of t.loops (has_part Loops xs) _) ∙ ap (λ b. b || touches_kind t xs) are.loops
  one Limits xs =
      under (t.steer && has_part Steer xs) t.limits _ _ (under (t.loops && has_part Loops xs) t.limits _ _ (first_of t.limits (has_part Limits xs) _)) ∙ ap (λ b. b || touches_kind t xs) are.limits
  one Cache xs =
      under (t.steer && has_part Steer xs) t.cache _ _ (under (t.loops && has_part Loops xs) t.cache _ _ (under (t.limits && has_part Limits xs) t.cache _ _ (first_of t.cache (has_part Cache xs) _)))
      ∙ ap (λ b. b || touches_kind t xs) are.cache
  one Cycles xs =
      under (t.steer && has_part Steer xs) t.cycles _ _ (under (t.loops && has_part Loops xs) t.cycles _ _ (under (t.limits && has_part Limits xs) t.cycles _ _ (under (t.cache && has_part Cache xs) t.cycles _ _ (last_of t.cycles (has_part Cycles xs)))))
      ∙ ap (λ b. b || touches_kind t xs) are.cycles

  pub touches_same : (parts : List Part) → touches_kind t parts ≡ list_any test parts
  touches_same [] = ap₂ (λ a b. a || b) (and_none t.steer) (ap₂ (λ a b. a || b) (and_none t.loops) (ap₂ (λ a b. a || b) (and_none t.limits) (ap₂ (λ a b. a || b) (and_none t.cache) (and_none t.cycles))))
  touches_same (x ∷ xs) = one x xs ∙ ap (λ b. test x || b) (touches_same xs)

-- tests that agree leave the same
module _ (f g : ℕ → Bool) (same : (k : ℕ) → f k ≡ g k) where
  pub stamped_same : (count : ℕ) (keys : List (ℕ × ℕ)) → map (stamped f count) keys ≡ map (stamped g count) keys
  stamped_same count [] = refl
  stamped_same count (k ∷ ks) = ap₂ (λ (x : ℕ × ℕ) xs. x ∷ xs) (ap (λ b. if b then (k.0, count) else k) (same k.0)) (stamped_same count ks)

  filter_same : {C : Type 0} (ss : List (KnownShelf C)) → filter (λ (s : KnownShelf C). not (f s.kind)) ss ≡ filter (λ (s : KnownShelf C). not (g s.kind)) ss
  filter_same [] = refl
  filter_same {C} (s ∷ ss) = ap₂ (λ (b : Bool) (r : List (KnownShelf C)). cond b (s ∷ r) r) (ap not (same s.kind)) (filter_same ss)

  pub cut_same : {C : Type 0} (ls : List (Line C)) → lines_cut f ls ≡ lines_cut g ls
  cut_same [] = refl
  cut_same {C} (l ∷ ls) = ap₂ (λ (ss : List (KnownShelf C)) (rest : List (Line C)). record { name = l.name; row = record { shelves = ss; room = l.row.room } } ∷ rest) (filter_same l.row.shelves) (cut_same ls)
