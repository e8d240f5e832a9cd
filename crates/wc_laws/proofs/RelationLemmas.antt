-- Phases one after the other, and two required features, under maps of what they are made of.
use Rattle.std.proofs.Common.{Result, Ok, Err}
use Rattle.wc_base.specs.declared.faults.Fault.{Fault}
use Rattle.wc_model.specs.Workspace.Feature.{Always, Both}
use Rattle.wc_model.specs.Workspace.Phases.{After, stopped, went_on}

-- what the first relation gives the second one gives
abbrev pub Gives : {A : Type 0} → (A → Type 0) → (A → Type 0) → Type 0
Gives {A} From To = (a : A) → From a → To a

pub after_gives : {A B : Type 0} (First Also : Result A Fault → Type 0) (Second Then : A → Result B Fault → Type 0)
    → Gives First Also → ((a : A) → Gives (Second a) (Then a)) → Gives (After First Second) (After Also Then)
after_gives First Also Second Then first second r (stopped fault is) = stopped fault (first (Err fault) is)
after_gives First Also Second Then first second r (went_on a _ is then) = went_on a r (first (Ok a) is) (second a r then)

pub both_gives : {A B : Type 0} (First Also : Result A Fault → Type 0) (Second Then : Result B Fault → Type 0)
    → Gives First Also → Gives Second Then → Gives (Both First Second) (Both Also Then)
both_gives First Also Second Then first second r (a, b, is, of, joins) = (a, b, first a is, second b of, joins)

pub always_gives : {A : Type 0} (From To : A → Type 0) → Gives From To → Gives (Always From) (Always To)
always_gives From To gives (Ok a) is = gives a is
always_gives From To gives (Err fault) is = absurd is
