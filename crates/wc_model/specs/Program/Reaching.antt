-- Ways over any relation of steps. `Leads p t`: a step leads from `p` to `t`, or to the exit where `t` is nothing.
use Rattle.std.specs.Prelude.{Option, None, Some}

module _ {P : Type 0} (Leads : P → Option P → Type 0) where
  -- the places that steps join to `p`
  pub data Reaches (p : P) : P → Type 0 where
    here : Reaches p p
    along : {q : P} (r : P) → Reaches p q → Leads q (Some r) → Reaches p r

  -- the places from which some walk comes to the exit
  pub data Ends : P → Type 0 where
    exits : {p : P} → Leads p None → Ends p
    onward : {p : P} (r : P) → Leads p (Some r) → Ends r → Ends p

  -- the places on a walk from the start to the exit
  abbrev pub IsLive : P → P → Type 0
  IsLive start p = Reaches start p × Ends p
