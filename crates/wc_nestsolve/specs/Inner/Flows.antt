-- Counts so far, while the rounds of the loops are added from the outermost inwards.
use Rattle.std.specs.Prelude.{ℕ, ◌≡◌, ◌<◌, ◌≤◌, ◌==◌, ℤ, pos, ◌-ℤ◌, ◌*ℤ◌, ◌≤ℤ◌, List}
use Rattle.wc_base.specs.Sums.{sum_placed, sum_in, chosen}
use Rattle.wc_model.specs.declared.flow_system.System.{System}
use Rattle.wc_model.specs.declared.flow_system.SystemLoop.{SystemLoop}
use Rattle.wc_model.specs.declared.graphs.Nest.{Nest}
use Rattle.wc_model.specs.Flow.Counts.{entered, into, out_of}
use Rattle.wc_nestsolve.specs.Inner.Nested.{IsLoop}
use Rattle.wc_nestsolve.specs.Inner.Weights.{weight}

-- a linear function of counts: `g` is what one count of a step gives
abbrev pub linear : {X : Type 0} → (ℕ → X → ℤ) → List X → (ℕ → ℤ) → ℤ
linear g xs x = sum_placed (λ i t. g i t *ℤ x i) xs

module _ (s : System) (nest : Nest) (v : ℕ → ℤ) where
  -- the back steps of the first `count` loops are as often taken as the bound allows, where the loop has a round worth
  -- something, and the other loops' not at all
  pub record IsFlow (count : ℕ) (value : ℤ) (x : ℕ → ℤ) : Type 0 where
    pub some : (i : ℕ) → pos 0 ≤ℤ x i
    pub balanced : (p : ℕ) → out_of s.steps x p -ℤ into s.steps x p ≡ chosen (s.start == p) (pos 1)
    pub bounded : (k : ℕ) (l : SystemLoop) → IsLoop s nest k l → sum_in x l.back ≤ℤ (pos l.bound *ℤ entered s.start (pos 1) x l)
    pub tight : (k : ℕ) (l : SystemLoop) → IsLoop s nest k l → k < count → v k *ℤ sum_in x l.back ≡ v k *ℤ (pos l.bound *ℤ entered s.start (pos 1) x l)
    pub ahead : (k : ℕ) (l : SystemLoop) → IsLoop s nest k l → count ≤ k → sum_in x l.back ≡ pos 0
    pub value_is : linear (weight s v) s.steps x ≡ value

  -- one round of the loop at place `k`
  pub record IsRoundOf (k : ℕ) (y : ℕ → ℤ) : Type 0 where
    pub some : (i : ℕ) → pos 0 ≤ℤ y i
    pub balanced : (p : ℕ) → out_of s.steps y p ≡ into s.steps y p
    pub own : (l : SystemLoop) → IsLoop s nest k l → sum_in y l.back ≡ pos 1
    pub others : (m : ℕ) (o : SystemLoop) → IsLoop s nest m o → (m ≡ k → ⊥) → sum_in y o.back ≡ pos 0
    pub entries : (m : ℕ) (o : SystemLoop) → IsLoop s nest m o → m ≤ k → sum_in y o.entry ≡ pos 0
    pub value_is : linear (weight s v) s.steps y ≡ pos 0
