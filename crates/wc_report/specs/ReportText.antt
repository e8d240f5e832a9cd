-- The report of a shared history: its entries in order, the runs of each kind, and how each session ended.
use Rattle.std.specs.Prelude.{ℕ, ◌+◌, ◌≤◌, List, [], ◌∷◌, ◌++◌, length, codes, decimal}
use Rattle.wc_base.specs.FaultTexts.{fault_text}
use Rattle.wc_f4.specs.FactText.{fact_text}
use Rattle.wc_hw.specs.HardwareText.{hardware_text}
use Rattle.wc_model.specs.declared.entries.End.{End}
use Rattle.wc_model.specs.declared.entries.End.TheVariants as finished
use Rattle.wc_model.specs.declared.entries.Ended.{Ended}
use Rattle.wc_model.specs.declared.entries.Ended.TheVariants as ended
use Rattle.wc_model.specs.declared.entries.Entry.{Entry}
use Rattle.wc_model.specs.declared.entries.Entry.TheVariants as entry
use Rattle.wc_model.specs.declared.inputs.Edit.{Edit}
use Rattle.wc_model.specs.declared.inputs.Edit.TheVariants as edit
use Rattle.wc_model.specs.declared.machine.Hardware.{Hardware}
use Rattle.wc_model.specs.declared.values.Outcome.{Outcome}
use Rattle.wc_model.specs.declared.values.Outcome.TheVariants as outcome
use Rattle.wc_model.specs.Workspace.KindNames.{kind_name}

abbrev pub hardware_words : Hardware → List ℕ
hardware_words hardware = codes "hardware " ++ hardware_text hardware

abbrev pub edit_text : Edit → List ℕ
edit_text (edit.Add fact) = codes "add " ++ fact_text fact
edit_text (edit.Drop number) = codes "drop " ++ decimal number
edit_text (edit.Hardware hardware) = hardware_words hardware

abbrev pub end_word : End → List ℕ
end_word finished.Kept = codes "kept"
end_word finished.Dropped = codes "dropped"
end_word finished.Memory = codes "memory"

abbrev pub outcome_words : Outcome → List ℕ
outcome_words (outcome.Bound cycles) = codes "bound " ++ decimal cycles
outcome_words (outcome.Fault fault) = codes "fault " ++ fault_text fault
outcome_words outcome.Memory = codes "memory"

-- what stands before an edit: the session and the count
abbrev pub edit_front : ℕ → ℕ → List ℕ
edit_front session count = codes "edit " ++ decimal session ++ codes " " ++ decimal count ++ codes " "

abbrev pub edit_line : ℕ → ℕ → Edit → List ℕ
edit_line session count change = edit_front session count ++ edit_text change

abbrev pub refused_line : ℕ → ℕ → ℕ → List ℕ
refused_line session number at =
    codes "nofact " ++ decimal session ++ codes " " ++ decimal number ++ codes " at " ++ decimal at

abbrev pub pin_line : ℕ → List ℕ → ℕ → List ℕ
pin_line session name at = codes "pin " ++ decimal session ++ codes " " ++ name ++ codes " at " ++ decimal at

-- whose run it is, of which kind, for which name and at which edit count its inputs changed last
abbrev pub run_of : ℕ → ℕ → List ℕ → ℕ → List ℕ
run_of session kind name stamp =
    decimal session ++ codes " " ++ kind_name kind ++ codes " " ++ name ++ codes " stamp " ++ decimal stamp

abbrev pub start_line : ℕ → ℕ → List ℕ → ℕ → List ℕ
start_line session kind name stamp = codes "start " ++ run_of session kind name stamp

abbrev pub finish_front : ℕ → ℕ → List ℕ → ℕ → List ℕ
finish_front session kind name stamp = codes "finish " ++ run_of session kind name stamp

abbrev pub end_line : ℕ → ℕ → List ℕ → ℕ → End → List ℕ
end_line session kind name stamp end = finish_front session kind name stamp ++ (codes " " ++ end_word end)

abbrev pub answer_front : ℕ → List ℕ → ℕ → List ℕ
answer_front session name at =
    codes "answer " ++ decimal session ++ codes " " ++ name ++ codes " at " ++ decimal at ++ codes " "

abbrev pub answer_line : ℕ → List ℕ → ℕ → Outcome → List ℕ
answer_line session name at result = answer_front session name at ++ outcome_words result

abbrev pub list_line : ℕ → ℕ → List ℕ
list_line session at = codes "list " ++ decimal session ++ codes " at " ++ decimal at

abbrev pub entry_text : Entry → List ℕ
entry_text (entry.Edit session count change) = edit_line session count change
entry_text (entry.NoFact session number at) = refused_line session number at
entry_text (entry.Pin session name at) = pin_line session name at
entry_text (entry.Start session kind name stamp) = start_line session kind name stamp
entry_text (entry.Finish session kind name stamp end) = end_line session kind name stamp end
entry_text (entry.Answer session name at result) = answer_line session name at result
entry_text (entry.List session at) = list_line session at

-- an entry behind its place
abbrev pub entry_line : ℕ → Entry → List ℕ
entry_line place e = (decimal place ++ codes " ") ++ (entry_text e ++ codes "\n")

abbrev pub run_line : ℕ → ℕ → List ℕ
run_line kind runs = codes "runs " ++ kind_name kind ++ codes " " ++ decimal runs ++ codes "\n"

abbrev pub ended_word : Ended → List ℕ
ended_word ended.Quit = codes "quit"
ended_word ended.End = codes "end"
ended_word ended.TooMuch = codes "toomuch"
ended_word ended.ReadFault = codes "readfault"
ended_word ended.WriteFault = codes "writefault"

abbrev pub session_line : ℕ → Ended → List ℕ
session_line session end = codes "session " ++ decimal session ++ codes " " ++ ended_word end ++ codes "\n"

-- the lines of the items, numbered from a first number on
abbrev pub lines_from : {X : Type 0} → (ℕ → X → List ℕ) → ℕ → List X → List ℕ
lines_from line number [] = []
lines_from line number (x ∷ xs) = line number x ++ lines_from line (number + 1) xs

abbrev pub count_text : ℕ → List ℕ
count_text entries = codes "history " ++ decimal entries ++ codes "\n"

-- the number of entries, and each behind its place
abbrev pub history_text : List Entry → List ℕ
history_text history = count_text (length history) ++ lines_from entry_line 1 history

abbrev pub tables_text : List ℕ → List Ended → List ℕ
tables_text runs ends = lines_from run_line 1 runs ++ lines_from session_line 1 ends

abbrev pub printed : List Entry → List ℕ → List Ended → List ℕ
printed history runs ends = history_text history ++ tables_text runs ends

-- an entry whose kind, if it has one, is one of the eleven
abbrev pub IsOfKinds : Entry → Type 0
IsOfKinds (entry.Start session kind name stamp) = (1 ≤ kind) × (kind ≤ 11)
IsOfKinds (entry.Finish session kind name stamp end) = (1 ≤ kind) × (kind ≤ 11)
IsOfKinds _ = Unit {0}
