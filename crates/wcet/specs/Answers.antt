-- What a top call answers: a line on the output and a status.
use Rattle.std.specs.Prelude.{◌≡◌, ℕ, zero, suc, List, ◌++◌, codes, decimal, Option, ◌⊎◌}
use Rattle.std.specs.Io.KnownBytes.{Appends}
use Rattle.wc_base.specs.declared.faults.Fault.{Fault as FaultCode}
use Rattle.wc_base.specs.FaultTexts.{fault_text}
use Rattle.wc_io.specs.Causes.{Rose}
use Rattle.wc_io.specs.Writing.{AppendsPart}
use Rattle.wc_model.specs.declared.values.Outcome.{Outcome}
use Rattle.wc_model.specs.declared.values.Outcome.TheVariants.{Bound, Fault, Memory}
use Rattle.wcet.specs.declared.answers.Answer.{Answer}
use Rattle.wcet.specs.declared.answers.Answer.TheVariants as answer
use Rattle.wcet.specs.declared.loading.Unloaded.{Unloaded}
use Rattle.wcet.specs.declared.loading.Unloaded.TheVariants as unloaded

-- the answer of a call whose files weren't loaded
abbrev pub answer_of : Unloaded → Answer
answer_of unloaded.ReadFault = answer.ReadFault
answer_of (unloaded.Refused fault) = answer.Refused fault
answer_of unloaded.Memory = answer.Memory

abbrev pub refusal : FaultCode → List ℕ
refusal fault = codes "refused " ++ fault_text fault ++ codes "\n"

abbrev pub outcome_line : List ℕ → Outcome → List ℕ
outcome_line name (Bound cycles) = codes "bound " ++ name ++ codes " " ++ decimal cycles ++ codes "\n"
outcome_line name (Fault fault) = refusal fault
outcome_line name Memory = codes "memory\n"

abbrev pub line_of : List ℕ → Answer → List ℕ
line_of name answer.Usage = codes "usage\n"
line_of name answer.ReadFault = codes "read fault\n"
line_of name answer.Memory = codes "memory\n"
line_of name (answer.Refused fault) = refusal fault
line_of name (answer.Analysed outcome) = outcome_line name outcome

abbrev pub outcome_status : Outcome → ℕ
outcome_status (Bound _) = 0
outcome_status (Fault _) = 1
outcome_status Memory = 5

abbrev pub status_of : Answer → ℕ
status_of answer.Usage = 2
status_of answer.ReadFault = 3
status_of answer.Memory = 5
status_of (answer.Refused _) = 6
status_of (answer.Analysed outcome) = outcome_status outcome

-- a line that can't be written turns 0 and 1 into 4, and leaves the other statuses
abbrev pub unwritten : ℕ → ℕ
unwritten zero = 4
unwritten (suc zero) = 4
unwritten status = status

-- the line is written, or a prefix of it where the output counted a fault
abbrev pub Finishes : List ℕ → Answer → Option (List ℕ) → Option (List ℕ) → ℕ → ℕ → ℕ → Type 0
Finishes name a old new before now status =
    ((status ≡ status_of a) × Appends old new (line_of name a)) ⊎ ((status ≡ unwritten (status_of a)) × AppendsPart old new (line_of name a) × Rose before now)

-- the line stands on the output, or a part of it where the output counted a fault
abbrev pub Shows : Option (List ℕ) → Option (List ℕ) → ℕ → ℕ → List ℕ → Type 0
Shows old new before now line = Appends old new line ⊎ (AppendsPart old new line × Rose before now)
