-- What the analysis of one function answers: the outcome of its phases, one after the other.
use Rattle.std.specs.Prelude.{ℕ, ◌≡◌, List, Result}
use Rattle.wc_base.specs.declared.troubles.Trouble.{Trouble}
use Rattle.wc_model.specs.declared.elf_image.Image.{Image}
use Rattle.wc_model.specs.declared.flow_facts.Fact.{Fact}
use Rattle.wc_model.specs.declared.machine.Hardware.{Hardware}
use Rattle.wc_model.specs.declared.values.Outcome.{Outcome}
use Rattle.wc_model.specs.declared.values.Outcome.TheVariants.{Bound, Fault as Refused, Memory}
use Rattle.wc_model.specs.Workspace.Chain.{ChainResult, IsSafe, chain}
use Rattle.wc_model.specs.Workspace.Edits.{Setting}
use Rattle.wc_model.specs.Workspace.History.{Chain}
use Rattle.wc_system.specs.Answers.{Answers}

abbrev pub given : Image → List (ℕ × Fact) → Hardware → Setting
given image facts hardware = record { image = image; facts = facts; hardware = hardware }

-- no other one is an outcome of the name
abbrev pub IsOnly : Setting → List ℕ → Outcome → Type 0
IsOnly inputs name outcome = (other : Outcome) → chain inputs name other → other ≡ outcome

-- what a call answers of it
abbrev pub Chained : Setting → List ℕ → Result ℕ Trouble → Type 0
Chained inputs name result = Answers (ChainResult inputs name) result

-- a bound is at least the cycles of every path of the function that meets the facts, from every allowed state of the cache
abbrev pub covers : Chain
covers inputs name (Bound bound) = IsSafe inputs name bound
covers inputs name (Refused fault) = Unit {0}
covers inputs name Memory = Unit {0}
