-- (inner) Steps in place that may stop where a number leaves the range.
use Rattle.std.specs.Prelude.{◌≡◌, List, ◌++◌, Option, None, Some, option_map}

-- What is there after a step: what it gives, or nothing that is known.
abbrev pub Leaves : {X : Type 0} → Option X → Option (Unit {0}) → X → Type 0
Leaves (Some x) result new = (result ≡ Some tt) × (new ≡ x)
Leaves None result new = result ≡ None

-- what is done already stands before what is to come
abbrev pub behind : {X : Type 0} → List X → Option (List X) → Option (List X)
behind front later = option_map (λ zs. front ++ zs) later
