-- Stacks in order, the outermost call first: one that ends comes before those that go on.
use Rattle.std.specs.Prelude.{◌≡◌, ◌<◌, ◌⊎◌, List, [], ◌∷◌, ◌++◌}
use Rattle.wc_model.specs.Program.Positions.{Call}
use Rattle.wc_graph.specs.Inner.Lists.{Has}

abbrev pub CallLess : Call → Call → Type 0
CallLess c d = (c.returns < d.returns) ⊎ ((c.returns ≡ d.returns) × (c.callee < d.callee))

abbrev pub Before : List Call → List Call → Type 0
Before [] [] = ⊥
Before [] (d ∷ ds) = Unit {0}
Before (c ∷ cs) [] = ⊥
Before (c ∷ cs) (d ∷ ds) = CallLess c d ⊎ ((c ≡ d) × Before cs ds)

-- each stands so to each later one
abbrev pub Pairs : {X : Type 0} → (X → X → Type 0) → List X → Type 0
Pairs R [] = Unit {0}
Pairs {X} R (x ∷ xs) = ((y : X) → Has xs y → R x y) × Pairs R xs

-- a stack and all that goes on from it come before another one
abbrev pub Parts : List Call → List Call → Type 0
Parts s t = (u : List Call) → Before (s ++ u) t

-- stacks that are listed in order, and stacks that wait with all that goes on from them
pub record IsPreorder (done waiting : List (List Call)) : Type 0 where
  pub sorted : Pairs Before done
  pub ahead : (d w : List Call) → Has done d → Has waiting w → Before d w
  pub parts : Pairs Parts waiting
