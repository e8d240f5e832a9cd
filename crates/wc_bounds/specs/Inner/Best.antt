-- The best of the bounds that facts state for a position: the longest call string first, then the least bound.
use Rattle.std.specs.Prelude.{ℕ, reverse, ◌≡◌, ◌<◌, Bool, nat_lt, if◌then◌else◌, List, Option, None, Some, IfSome, slice_get, length}
use Rattle.wc_model.specs.declared.flow_facts.Fact.{Fact}
use Rattle.wc_model.specs.declared.flow_facts.Fact.TheVariants.{Loop}
use Rattle.wc_model.specs.declared.graphs.Context.{Context}
use Rattle.wc_model.specs.declared.graphs.Node.{Node}
use Rattle.wc_model.specs.Flow.Bounds.{AreCalls, calls_fit, fits}
use Rattle.wc_model.specs.Program.Positions.{Call, Position}
use Rattle.wc_bounds.specs.declared.best.Best.{Best}

-- the node stands for the position
abbrev pub IsAt : List Context → Node → Position → Type 0
IsAt contexts node p = (node.pc ≡ p.pc) × AreCalls contexts node.context p.calls

-- each parent stands before its context
abbrev pub ArePlaced : List Context → Type 0
ArePlaced contexts = (k : ℕ) (c : Context) → slice_get contexts k ≡ Some c → IfSome c.parent (λ j. j < k)

-- whether the call string fits the open calls of a context
abbrev pub IsFitting : List Context → ℕ → List ℕ → Bool → Type 0
IsFitting contexts k within is = (calls : List Call) → AreCalls contexts k calls → is ≡ calls_fit (reverse within) calls

-- the bound that a fact states for a position
abbrev pub offered : Position → Fact → Option Best
offered p (Loop at (Some n) within) = if fits at within p then Some (record { depth = length within; bound = n }) else None
offered p _ = None

abbrev pub better : Best → Best → Best
better b c = if nat_lt b.depth c.depth then c else (if nat_lt c.depth b.depth then b else (if nat_lt c.bound b.bound then c else b))

abbrev pub best_of : Option Best → Option Best → Option Best
best_of None offer = offer
best_of (Some b) None = Some b
best_of (Some b) (Some c) = Some (better b c)
