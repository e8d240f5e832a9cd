-- The loop nest of a control-flow graph: the loops are the classes of places that lead to each other, a loop's heads
-- are where it is entered, and the loops inside it are those that are left without the steps back to the heads. After
-- Steensgaard's nests, in the terms of Ramalingam 2002 (On loops, dominators, and dominance frontiers).
use Rattle.std.specs.Prelude.{ℕ, zero, suc, ◌≡◌, ◌<◌, ◌≤◌, ◌↔◌, ◌⊎◌, true, List, Option, None, Some, IfSome, AllPairs, slice_get, length}
use Rattle.std.specs.List.{AllZip}
use Rattle.wc_base.specs.declared.faults.Fault.{Fault}
use Rattle.wc_base.specs.declared.faults.Fault.TheVariants.{Irreducible}
use Rattle.wc_model.specs.declared.graphs.Graph.{Graph}
use Rattle.wc_model.specs.declared.graphs.Head.{Head}
use Rattle.wc_model.specs.declared.graphs.Nest.{Nest}
use Rattle.wc_model.specs.declared.graphs.Node.{Node}
use Rattle.wc_model.specs.declared.graphs.Step.{Step}
use Rattle.wc_model.specs.Flow.Walks.{LeadsOn}
use Rattle.wc_model.specs.Program.Graphs.{LeadsIn}
use Rattle.wc_model.specs.Program.Reaching.{IsLive}

-- the steps between the places on a walk from the start to the exit, and those to the exit
abbrev pub LiveSteps : {P : Type 0} → (P → Option P → Type 0) → P → P → Option P → Type 0
LiveSteps Leads start p t = Leads p t × IsLive Leads start p × IfSome t (IsLive Leads start)

-- One level: its steps are `Leads`.
module _ {P : Type 0} (start : P) (Leads : P → Option P → Type 0) where
  -- two places of one class: each leads on to the other
  abbrev pub Together : P → P → Type 0
  Together p q = LeadsOn Leads p q × LeadsOn Leads q p

  -- a member of a class that is entered by a step from outside of it, or that is the start
  abbrev pub IsHead : P → Type 0
  IsHead h = LeadsOn Leads h h × ((h ≡ start) ⊎ ((p : P) × Leads p (Some h) × (Together p h → ⊥)))

  -- the steps inside of a class but those to a head
  abbrev pub Inner : P → Option P → Type 0
  Inner p None = ⊥
  Inner p (Some q) = Leads p (Some q) × Together p q × (IsHead q → ⊥)

  -- `q` is the second head of its class, and `least` the first member, in the order of the places
  pub record IsSecond (Before : P → P → Type 0) (q least : P) : Type 0 where
    pub head : IsHead q
    pub first : (p : P) × Before p q × IsHead p × Together p q × ((r : P) → Before r q → IsHead r → Together r q → r ≡ p)
    pub member : Together least q
    pub below : (r : P) → Together r q → Before r least → ⊥

-- The levels, from the outermost inwards: `Leads` are the steps of the whole graph.
module _ {P : Type 0} (Leads : P → Option P → Type 0) (start : P) where
  abbrev pub StepsAt : ℕ → P → Option P → Type 0
  StepsAt zero = Leads
  StepsAt (suc k) = Inner start (StepsAt k)

  abbrev pub IsHeadAt : ℕ → P → Type 0
  IsHeadAt k = IsHead start (StepsAt k)

  abbrev pub TogetherAt : ℕ → P → P → Type 0
  TogetherAt k = Together start (StepsAt k)

  -- a step from `p` to a head goes back where `p` is in the head's class, and enters the loop where it isn't
  abbrev pub IsBackStep : ℕ → P → P → Type 0
  IsBackStep k p h = IsHeadAt k h × TogetherAt k p h

  abbrev pub IsEntryStep : ℕ → P → P → Type 0
  IsEntryStep k p h = IsHeadAt k h × (TogetherAt k p h → ⊥)

  -- no class has two heads
  abbrev pub AreSingle : Type 0
  AreSingle = (k : ℕ) (p q : P) → IsHeadAt k p → IsHeadAt k q → TogetherAt k p q → p ≡ q

  -- a class with two heads, the outermost level first, then the class whose first member comes first: its second head
  pub record IsIrreducible (Before : P → P → Type 0) (q : P) : Type 0 where
    pub level : ℕ
    pub least : P
    pub second : IsSecond start (StepsAt level) Before q least
    pub outer : (k : ℕ) (p m : P) → k < level → IsSecond start (StepsAt k) Before p m → ⊥
    pub first : (p m : P) → IsSecond start (StepsAt level) Before p m → Before m least → ⊥

-- The nest of a graph, by the numbers of its nodes.
module _ (graph : Graph) where
  abbrev pub HeadAt : ℕ → ℕ → Type 0
  HeadAt = IsHeadAt (LeadsIn graph.steps) graph.start

  abbrev pub ClassAt : ℕ → ℕ → ℕ → Type 0
  ClassAt = TogetherAt (LeadsIn graph.steps) graph.start

  -- `h` is a head of level `k`, and `least` the least member of its class
  pub record IsListed (k h least : ℕ) : Type 0 where
    pub head : HeadAt k h
    pub member : ClassAt k least h
    pub below : (q : ℕ) → ClassAt k q h → least ≤ q

  -- outermost level first, then by the least member
  pub record ComesBefore (x y : Head) : Type 0 where
    pub level_x : ℕ
    pub level_y : ℕ
    pub least_x : ℕ
    pub least_y : ℕ
    pub listed_x : IsListed level_x x.node least_x
    pub listed_y : IsListed level_y y.node least_y
    pub order : (level_x < level_y) ⊎ ((level_x ≡ level_y) × (least_x < least_y))

  -- the `i`-th head is that of the class of `p` on level `k`
  abbrev pub IsHeadFor : List Head → ℕ → ℕ → ℕ → Type 0
  IsHeadFor heads k i p = (x : Head) × (slice_get heads i ≡ Some x) × HeadAt k x.node × ClassAt k x.node p

  -- the place of the head of the next larger class
  abbrev pub IsParent : List Head → ℕ → ℕ → Option ℕ → Type 0
  IsParent heads zero h parent = parent ≡ None
  IsParent heads (suc k) h parent = (i : ℕ) × (parent ≡ Some i) × IsHeadFor heads k i h

  -- the place of the head of the smallest class that has `p`
  abbrev pub IsInside : List Head → ℕ → Option ℕ → Type 0
  IsInside heads p None = ClassAt 0 p p → ⊥
  IsInside heads p (Some i) = (k : ℕ) × IsHeadFor heads k i p × (ClassAt (suc k) p p → ⊥)

  -- whether the step is a back step of some head
  abbrev pub IsBack : Step → Type 0
  IsBack s = (k h : ℕ) × (s.target ≡ Some h) × IsBackStep (LeadsIn graph.steps) graph.start k s.source h

  pub record IsNest (nest : Nest) : Type 0 where
    pub single : AreSingle (LeadsIn graph.steps) graph.start
    pub all : (k h : ℕ) → HeadAt k h → (i : ℕ) × (x : Head) × (slice_get nest.heads i ≡ Some x) × (x.node ≡ h)
    pub places : (i : ℕ) (x : Head) → slice_get nest.heads i ≡ Some x → (k : ℕ) × HeadAt k x.node × IsParent nest.heads k x.node x.parent
    pub ordered : AllPairs ComesBefore nest.heads
    pub inside_counted : length nest.inside ≡ length graph.nodes
    pub smallest : (p : ℕ) (o : Option ℕ) → slice_get nest.inside p ≡ Some o → IsInside nest.heads p o
    pub backs : AllZip (λ s b. (b ≡ true) ↔ IsBack s) graph.steps nest.back

  -- the address of the second head of a class
  abbrev pub IsNestFault : Fault → Type 0
  IsNestFault fault = (q : ℕ) × (node : Node) × IsIrreducible (LeadsIn graph.steps) graph.start (λ p r. p < r) q × (slice_get graph.nodes q ≡ Some node) × (fault ≡ Irreducible node.pc)
