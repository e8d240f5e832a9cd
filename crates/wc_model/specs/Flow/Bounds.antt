-- Flow facts for call strings: which bound a loop has, and when a path meets the facts. Call strings after Sharir and
-- Pnueli 1981, loop bounds and limits after Li and Malik 1995.
use Rattle.std.specs.Prelude.{ℕ, zero, suc, ◌≡◌, ◌+◌, ◌*◌, ◌%◌, ◌^◌, ◌≤◌, ◌==◌, ◌&&◌, Bool, true, false, if◌then◌else◌, List, [], ◌∷◌, reverse, Option, None, Some, Contains, slice_get, length}
use Rattle.std.specs.List.{AllZip}
use Rattle.wc_base.specs.declared.faults.Fault.{Fault}
use Rattle.wc_base.specs.declared.faults.Fault.TheVariants.{Unbounded}
use Rattle.wc_model.specs.declared.flow_facts.Fact.{Fact}
use Rattle.wc_model.specs.declared.flow_facts.Fact.TheVariants.{Loop, Limit}
use Rattle.wc_model.specs.declared.flow_facts.Term.{Term}
use Rattle.wc_model.specs.declared.flow_facts.Term.TheVariants.{Constant, Visits}
use Rattle.wc_model.specs.declared.graphs.Context.{Context}
use Rattle.wc_model.specs.declared.graphs.Graph.{Graph}
use Rattle.wc_model.specs.declared.graphs.Head.{Head}
use Rattle.wc_model.specs.declared.graphs.Nest.{Nest}
use Rattle.wc_model.specs.declared.graphs.Node.{Node}
use Rattle.wc_model.specs.Flow.Nest.{LiveSteps, IsHeadAt, IsBackStep, IsEntryStep}
use Rattle.wc_model.specs.Program.Positions.{Call, Position}
use Rattle.wc_model.specs.Program.Steps.{Move}

-- What fits a position.

-- the innermost calls are those of the call instructions, innermost first
abbrev pub calls_fit : List ℕ → List Call → Bool
calls_fit [] calls = true
calls_fit (at ∷ ats) [] = false
calls_fit (at ∷ ats) (call ∷ calls) = call.returns == (at + 4) % 2 ^ 32 && calls_fit ats calls

-- the call instructions of a call string stand outermost first
abbrev pub fits : ℕ → List ℕ → Position → Bool
fits at within p = p.pc == at && calls_fit (reverse within) p.calls

-- The bound of a loop.

-- the fact states a bound for the position, by a call string of so many calls
abbrev pub StatesBound : Position → ℕ → ℕ → Fact → Type 0
StatesBound p depth bound (Loop at (Some n) within) = (fits at within p ≡ true) × (length within ≡ depth) × (n ≡ bound)
StatesBound p depth bound _ = ⊥

-- of the facts that state a bound only those with the longest call string count, and of these the least bound
pub record IsBoundOf (facts : List Fact) (p : Position) (bound : ℕ) : Type 0 where
  pub depth : ℕ
  pub stated : (fact : Fact) × Contains facts fact × StatesBound p depth bound fact
  pub longest : (fact : Fact) (k n : ℕ) → Contains facts fact → StatesBound p k n fact → k ≤ depth
  pub least : (fact : Fact) (n : ℕ) → Contains facts fact → StatesBound p depth n fact → bound ≤ n

abbrev pub HasNoBound : List Fact → Position → Type 0
HasNoBound facts p = (fact : Fact) (k n : ℕ) → Contains facts fact → StatesBound p k n fact → ⊥

-- The bounds of a graph's loops.

-- the open calls of a context, the innermost first
abbrev pub AreCalls : List Context → ℕ → List Call → Type 0
AreCalls contexts k [] = (c : Context) × (slice_get contexts k ≡ Some c) × (c.parent ≡ None)
AreCalls contexts k (call ∷ calls) = (c : Context) × (j : ℕ) × (slice_get contexts k ≡ Some c) × (c.parent ≡ Some j) × (c.returns ≡ call.returns) × (c.callee ≡ call.callee) × AreCalls contexts j calls

module _ (graph : Graph) where
  -- the head's node stands for the position
  abbrev pub StandsFor : Head → Position → Type 0
  StandsFor head p = (node : Node) × (slice_get graph.nodes head.node ≡ Some node) × (node.pc ≡ p.pc) × AreCalls graph.contexts node.context p.calls

  module _ (nest : Nest) (facts : List Fact) where
    -- a bound for each head
    abbrev pub AreBounds : List ℕ → Type 0
    AreBounds bounds = AllZip (λ head bound. (p : Position) × StandsFor head p × IsBoundOf facts p bound) nest.heads bounds

    abbrev pub IsUnbounded : Position → Type 0
    IsUnbounded p = (head : Head) × Contains nest.heads head × StandsFor head p × HasNoBound facts p

    -- the least address of a head for which no bound is stated
    abbrev pub IsBoundsFault : Fault → Type 0
    IsBoundsFault fault = (p : Position) × (fault ≡ Unbounded p.pc) × IsUnbounded p × ((q : Position) → IsUnbounded q → p.pc ≤ q.pc)

-- When a path meets the facts.

-- of how many members of a list a property holds
pub data Counted {A : Type 0} (Holds : A → Type 0) : List A → ℕ → Type 0 where
  nothing : Counted Holds [] zero
  counts : {x : A} {xs : List A} {n : ℕ} → Holds x → Counted Holds xs n → Counted Holds (x ∷ xs) (suc n)
  passes : {x : A} {xs : List A} {n : ℕ} → (Holds x → ⊥) → Counted Holds xs n → Counted Holds (x ∷ xs) n

module _ {P : Type 0} (Leads : P → Option P → Type 0) (start : P) where
  abbrev pub GoesBack : ℕ → P → Move P → Type 0
  GoesBack k h s = (s.target ≡ Some h) × IsBackStep Leads start k s.source h

  abbrev pub Enters : ℕ → P → Move P → Type 0
  Enters k h s = (s.target ≡ Some h) × IsEntryStep Leads start k s.source h

  -- for each head the path has at most `bound` times as many back steps as entry steps; a path begins with one more
  -- entry of a loop whose head is the start
  abbrev pub MeetsLoops : (P → ℕ → Type 0) → List (Move P) → Type 0
  MeetsLoops IsBound path = (k : ℕ) (h : P) (bound backs entries begun : ℕ) → IsHeadAt Leads start k h → IsBound h bound
      → Counted (GoesBack k h) path backs → Counted (Enters k h) path entries → Counted (λ p. p ≡ start) (h ∷ []) begun
      → backs ≤ bound * (entries + begun)

-- how many steps of a path leave a position that the call string fits
abbrev pub visits : ℕ → List ℕ → List (Move Position) → ℕ
visits at within [] = 0
visits at within (s ∷ path) = (if fits at within s.source then 1 else 0) + visits at within path

abbrev pub term_value : List (Move Position) → Term → ℕ
term_value path (Constant n) = n
term_value path (Visits times at within) = times * visits at within path

abbrev pub sum_value : List (Move Position) → List Term → ℕ
sum_value path [] = 0
sum_value path (term ∷ terms) = term_value path term + sum_value path terms

abbrev pub MeetsLimits : List Fact → List (Move Position) → Type 0
MeetsLimits facts path = (left right : List Term) → Contains facts (Limit left right) → sum_value path left ≤ sum_value path right

-- a path from `start` over such steps meets the facts
pub record MeetsFacts (Leads : Position → Option Position → Type 0) (start : Position) (facts : List Fact) (path : List (Move Position)) : Type 0 where
  pub loops : MeetsLoops (LiveSteps Leads start) start (IsBoundOf facts) path
  pub limits : MeetsLimits facts path
