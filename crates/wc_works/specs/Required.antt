-- What a run needs of the values that it is given, and how it reads them.
use Rattle.std.specs.Prelude.{ℕ, ◌≡◌, List, Option, Result, Ok, Err}
use Rattle.std.specs.Borrow.{Bor}
use Rattle.std.specs.Global.{Global}
use Rattle.std.specs.declared.sync.Arc.{Arc}
use Rattle.wc_base.specs.declared.faults.Fault.{Fault}
use Rattle.wc_core.specs.declared.work.Job.{Job}
use Rattle.wc_core.specs.Boxes.{IsUsable}
use Rattle.wc_core.specs.Features.{HasFeature, HasRequired, value_at}
use Rattle.wc_model.specs.declared.values.Value.{Value}
use Rattle.wc_model.specs.declared.values.Value.TheVariants as value
use Rattle.wc_model.specs.Workspace.Edits.{setting_of}
use Rattle.wc_model.specs.Workspace.Kinds.{eleven_kinds}

-- the kind of a value
abbrev pub number_of : Value → ℕ
number_of (value.Graph r) = 1
number_of (value.Nest r) = 2
number_of (value.Bounds r) = 3
number_of (value.Lines r) = 4
number_of (value.Must r) = 5
number_of (value.May r) = 6
number_of (value.Category r) = 7
number_of (value.Cost r) = 8
number_of (value.System r) = 9
number_of (value.Solution r) = 10
number_of (value.Bound r) = 11

-- Features of all that a kind requires are at hand, for the job's inputs and name.
abbrev pub IsGiven : Job → List (Option (Arc Value Global)) → ℕ → Type 0
IsGiven job had kind = HasRequired eleven_kinds (λ k v. IsUsable k (setting_of job.inputs.value) job.name.value v) kind had

abbrev pub IsThere : List (Option (Arc Value Global)) → ℕ → Type 0
IsThere had kind = HasFeature (λ v. number_of v ≡ kind) (value_at kind had)

-- what a result of borrowed parts shows
abbrev pub seen_by : {A B : Type 0} → (A → B) → Result A Fault → Result B Fault
seen_by see (Ok a) = Ok (see a)
seen_by see (Err fault) = Err fault

abbrev pub seen : {A : Type 0} → Result (Bor A) Fault → Result A Fault
seen result = seen_by (λ a. a.now) result
