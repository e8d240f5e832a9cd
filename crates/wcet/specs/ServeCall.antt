-- The command `serve`: what is answered for which words and which files.
use Rattle.std.specs.Prelude.{◌≡◌, ◌≢◌, ◌⊎◌, ℕ, Bool, true, false, List, [], ◌∷◌, ◌++◌, map, codes, Option, Some, All, Result, Ok, Err}
use Rattle.std.specs.Io.KnownBytes.{Appends}
use Rattle.wc_base.specs.declared.faults.Fault.{Fault as FaultCode}
use Rattle.wc_io.specs.Causes.{Rose}
use Rattle.wc_io.specs.Rows.{Row, row_failed, AddsRows}
use Rattle.wc_io.specs.Telling.{TellsFile}
use Rattle.wc_io.specs.Writing.{AppendsPart}
use Rattle.wc_model.specs.declared.entries.Ended.{Ended}
use Rattle.wc_model.specs.declared.entries.Ended.TheVariants as ended
use Rattle.wc_model.specs.declared.entries.Entry.{Entry}
use Rattle.wcet.specs.declared.loading.Loaded.{Loaded}
use Rattle.wcet.specs.declared.loading.Unloaded.TheVariants as unloaded
use Rattle.wcet.specs.declared.opening.Unopened.{Unopened}
use Rattle.wcet.specs.declared.opening.Unopened.TheVariants as unopened
use Rattle.wcet.specs.declared.serve.Served.{Served}
use Rattle.wcet.specs.declared.serve.Unserved.{Unserved}
use Rattle.wcet.specs.declared.serve.Unserved.TheVariants.{Unloaded as NotLoaded, WriteFault}
use Rattle.wcet.specs.Answers.{Shows, answer_of, line_of, status_of, unwritten, refusal}
use Rattle.wcet.specs.Files.{IsTold, AreTold, Holds, AreInputs, IsFirstFault, paths_of}
use Rattle.wcet.specs.Loading.{IsRefused, IsUnfinished, IsUnread, OpensAll}
use Rattle.wc_report.specs.ReportText.{IsOfKinds, printed as report_text}
use Rattle.wcet.specs.Session.{IsSession, IsSessionOver}
use Rattle.wcet.specs.Starts.{all_starts, bound_runs}
use Rattle.wcet.specs.Words.{Paths, IsServeCall}

-- the paths of the call in the order in which they are opened, and which of them as a sink
abbrev pub serve_paths : Paths → List ℕ → List ℕ → List (List ℕ × Bool)
serve_paths paths input output = map (λ path. (path, false)) (paths_of paths) ++ (input, false) ∷ (output, true) ∷ []

-- no file changed
abbrev pub AreKept : (List ℕ → Option (List ℕ)) → (List ℕ → Option (List ℕ)) → Type 0
AreKept files now = (p : List ℕ) → now p ≡ files p

-- OUT was opened, so it is empty, and nothing was written to it
abbrev pub IsEmptied : Bool → (List ℕ → Option (List ℕ)) → (List ℕ → Option (List ℕ)) → List ℕ → Type 0
IsEmptied tells files now output = TellsFile tells (files output) → now output ≡ Some []

-- no file of the call has a fault, and these rows stand behind those of the files
pub record AfterFiles (holds : List ℕ → List ℕ → Type 0) (paths : Paths) (old new rows : List Row) : Type 0 where
  pub loaded : Loaded
  pub inputs : AreInputs holds paths loaded
  pub before : List Row
  pub opened : OpensAll (paths_of paths) old before
  pub behind : new ≡ before ++ rows

-- Why no session was served: a file or IN couldn't be read, OUT couldn't be opened, a file has a fault, or there was no
-- memory, before OUT was opened or after it.
abbrev pub Prevents : Bool → (List ℕ → Option (List ℕ)) → (List ℕ → Option (List ℕ)) → Paths → List ℕ → List ℕ → List Row → List Row → Unserved → Type 0
Prevents tells files now paths input output old new WriteFault =
    AfterFiles (Holds tells files) paths old new (row_failed input false false ∷ row_failed output true true ∷ []) × AreKept files now
Prevents tells files now paths input output old new (NotLoaded unloaded.ReadFault) =
    (IsUnread (Holds tells files) paths old new ⊎ AfterFiles (Holds tells files) paths old new (row_failed input false true ∷ [])) × AreKept files now
Prevents tells files now paths input output old new (NotLoaded (unloaded.Refused fault)) = IsRefused (Holds tells files) paths old new fault × AreKept files now
Prevents tells files now paths input output old new (NotLoaded unloaded.Memory) =
    ((IsUnfinished (Holds tells files) paths old new ⊎ AfterFiles (Holds tells files) paths old new (row_failed input false false ∷ [])) × AreKept files now)
    ⊎ (AfterFiles (Holds tells files) paths old new (row_failed input false false ∷ row_failed output true false ∷ []) × IsEmptied tells files now output)

-- what opening, running and giving back a session answers, over inputs that are loaded
abbrev pub RunsLoaded : Loaded → Bool → (List ℕ → Option (List ℕ)) → (List ℕ → Option (List ℕ)) → List ℕ → List ℕ → List Row → List Row → Result Served Unserved → Type 0
RunsLoaded loaded tells files now input output old new (Ok served) =
    IsSessionOver loaded tells files now input output old new served.history.items served.ended × (bound_runs served.runs ≡ all_starts served.history.items) × All IsOfKinds served.history.items
RunsLoaded loaded tells files now input output old new (Err WriteFault) =
    (new ≡ old ++ row_failed input false false ∷ row_failed output true true ∷ []) × AreKept files now
RunsLoaded loaded tells files now input output old new (Err (NotLoaded unloaded.ReadFault)) = (new ≡ old ++ row_failed input false true ∷ []) × AreKept files now
RunsLoaded loaded tells files now input output old new (Err (NotLoaded (unloaded.Refused fault))) = ⊥
RunsLoaded loaded tells files now input output old new (Err (NotLoaded unloaded.Memory)) =
    (((new ≡ old) ⊎ (new ≡ old ++ row_failed input false false ∷ [])) × AreKept files now) ⊎ ((new ≡ old ++ row_failed input false false ∷ row_failed output true false ∷ []) × IsEmptied tells files now output)

-- a session was served, or why none was
abbrev pub Serves : Bool → (List ℕ → Option (List ℕ)) → (List ℕ → Option (List ℕ)) → Paths → List ℕ → List ℕ → List Row → List Row → Result Served Unserved → Type 0
Serves tells files now paths input output old new (Ok served) =
    IsSession tells files now paths input output old new served.history.items served.ended × (bound_runs served.runs ≡ all_starts served.history.items) × All IsOfKinds served.history.items
Serves tells files now paths input output old new (Err unserved) = Prevents tells files now paths input output old new unserved

-- why a session isn't served whose files weren't opened
abbrev pub unserved_by : Unopened → Unserved
unserved_by unopened.ReadFault = NotLoaded unloaded.ReadFault
unserved_by unopened.WriteFault = WriteFault
unserved_by unopened.Memory = NotLoaded unloaded.Memory

abbrev pub unserved_line : Unserved → List ℕ
unserved_line WriteFault = codes "write fault\n"
unserved_line (NotLoaded reason) = line_of [] (answer_of reason)

abbrev pub unserved_status : Unserved → ℕ
unserved_status WriteFault = 4
unserved_status (NotLoaded reason) = status_of (answer_of reason)

abbrev pub ended_status : Ended → ℕ
ended_status ended.Quit = 0
ended_status ended.End = 0
ended_status ended.TooMuch = 7
ended_status ended.ReadFault = 3
ended_status ended.WriteFault = 4

-- the report is written, or a prefix of it where the output counted a fault; then 4 stands in place of 0
abbrev pub Reports : List ℕ → Ended → Option (List ℕ) → Option (List ℕ) → ℕ → ℕ → ℕ → Type 0
Reports text end old new before now status =
    ((status ≡ ended_status end) × Appends old new text) ⊎ ((status ≡ unwritten (ended_status end)) × AppendsPart old new text × Rose before now)

-- The clauses of the call.

-- One legal one-thread history: all replies are those of its entries, each bound is what the fresh sequential chain
-- gives on the inputs at its count, and is at least the cycles of every path; and it is printed in full.
pub record IsHeadline (words : List (List ℕ)) (tells : Bool) (files now : List ℕ → Option (List ℕ)) (old new : List Row) (prints : List ℕ → Type 0) (end : Ended) : Type 0 where
  pub paths : Paths
  pub input : List ℕ
  pub output : List ℕ
  pub call : IsServeCall words paths input output
  pub history : List Entry
  pub session : IsSession tells files now paths input output old new history end
  pub printed : prints (report_text history (all_starts history) (end ∷ []))

-- why no session was served for these words
pub record IsUnserved (words : List (List ℕ)) (tells : Bool) (files now : List ℕ → Option (List ℕ)) (old new : List Row) (unserved : Unserved) : Type 0 where
  pub paths : Paths
  pub input : List ℕ
  pub output : List ℕ
  pub call : IsServeCall words paths input output
  pub prevents : Prevents tells files now paths input output old new unserved

-- the session was ended by its script
abbrev pub IsDone : Ended → Type 0
IsDone ended.Quit = Unit {0}
IsDone ended.End = Unit {0}
IsDone ended.TooMuch = ⊥
IsDone ended.ReadFault = ⊥
IsDone ended.WriteFault = ⊥

-- what 4 leaves of the report: where the session's sink failed it is shown, else the output failed
abbrev pub ShowsReport : Ended → Option (List ℕ) → Option (List ℕ) → ℕ → ℕ → List ℕ → Type 0
ShowsReport ended.Quit old new before now text = AppendsPart old new text × Rose before now
ShowsReport ended.End old new before now text = AppendsPart old new text × Rose before now
ShowsReport ended.WriteFault old new before now text = Shows old new before now text
ShowsReport ended.TooMuch old new before now text = ⊥
ShowsReport ended.ReadFault old new before now text = ⊥

-- the first fault of the files of the call, whose refusal is printed in the way of `writes`
pub record RefusesFile (words : List (List ℕ)) (holds : List ℕ → List ℕ → Type 0) (old new : List Row) (writes : List ℕ → Type 0) (fault : FaultCode) : Type 0 where
  pub paths : Paths
  pub input : List ℕ
  pub output : List ℕ
  pub call : IsServeCall words paths input output
  pub refused : IsRefused holds paths old new fault
  pub printed : writes (refusal fault)

-- the words name files of which one is told to have a fault
pub record HasFaultyFile (words : List (List ℕ)) (files : List ℕ → Option (List ℕ)) : Type 0 where
  pub paths : Paths
  pub input : List ℕ
  pub output : List ℕ
  pub call : IsServeCall words paths input output
  pub fault : FaultCode
  pub read : List (List ℕ)
  pub first : IsFirstFault (IsTold files) paths fault read

-- the words name files that are told, and none has a fault
pub record HasSoundFiles (words : List (List ℕ)) (files : List ℕ → Option (List ℕ)) : Type 0 where
  pub paths : Paths
  pub input : List ℕ
  pub output : List ℕ
  pub call : IsServeCall words paths input output
  pub told : AreTold files paths
  pub faultless : (fault : FaultCode) (read : List (List ℕ)) → IsFirstFault (IsTold files) paths fault read → ⊥

-- what holds of the paths of a call
abbrev pub ForCall : List (List ℕ) → (Paths → List ℕ → List ℕ → Type 0) → Type 0
ForCall words holds = (paths : Paths) (input output : List ℕ) → IsServeCall words paths input output → holds paths input output

-- the house was asked for the first of the path words, in their order, each once
abbrev pub OpensInOrder : List (List ℕ) → List Row → List Row → Type 0
OpensInOrder words old new = ForCall words (λ paths input output. AddsRows (serve_paths paths input output) old new)

-- no other file than OUT changes
abbrev pub KeepsFiles : List (List ℕ) → (List ℕ → Option (List ℕ)) → (List ℕ → Option (List ℕ)) → Type 0
KeepsFiles words files now = ForCall words (λ paths input output. (p : List ℕ) → p ≢ output → now p ≡ files p)
