-- The command `bound`: what is answered for which words and which files.
use Rattle.std.specs.Prelude.{◌<◌, ℕ, List, Option, false}
use Rattle.wc_base.specs.declared.faults.Fault.{Fault as FaultCode}
use Rattle.wc_io.specs.Rows.{Row, failed_count}
use Rattle.wc_model.specs.declared.values.Outcome.{Outcome}
use Rattle.wc_model.specs.Workspace.Edits.{Setting, numbered}
use Rattle.wcet.specs.declared.answers.Answer.{Answer}
use Rattle.wcet.specs.declared.answers.Answer.TheVariants as answer
use Rattle.wcet.specs.declared.loading.Loaded.{Loaded}
use Rattle.wcet.specs.Answers.{outcome_line, refusal}
use Rattle.wcet.specs.Chained.{covers, given}
use Rattle.wc_model.specs.Workspace.Chain.{chain}
use Rattle.wcet.specs.Files.{IsTold, AreTold, AreInputs, IsFirstFault, paths_of}
use Rattle.wcet.specs.Loading.{OpensAll, OpensSome, IsRefused, IsUnfinished, IsUnread}
use Rattle.wcet.specs.Words.{Paths, IsBoundCall}

-- the inputs that files state: the hardware is edit 1, and the facts are the edits from 2 on
abbrev pub setting_in : Loaded → Setting
setting_in loaded = given loaded.image (numbered 2 loaded.facts.items) loaded.hardware

-- the outcome of the named function on what the files say
pub record IsAnalysed (holds : List ℕ → List ℕ → Type 0) (paths : Paths) (name : List ℕ) (old new : List Row) (outcome : Outcome) : Type 0 where
  pub loaded : Loaded
  pub inputs : AreInputs holds paths loaded
  pub outcome_is : chain (setting_in loaded) name outcome
  pub safe : covers (setting_in loaded) name outcome
  pub opened : OpensAll (paths_of paths) old new

-- why each answer comes, from the bytes that files may have and the rows that the house has then
abbrev pub Explains : (List ℕ → List ℕ → Type 0) → Paths → List ℕ → List Row → List Row → Answer → Type 0
Explains holds paths name old new answer.Usage = ⊥
Explains holds paths name old new answer.ReadFault = (failed_count false old < failed_count false new) × OpensSome (paths_of paths) old new × IsUnread holds paths old new
Explains holds paths name old new answer.Memory = IsUnfinished holds paths old new
Explains holds paths name old new (answer.Refused fault) = IsRefused holds paths old new fault
Explains holds paths name old new (answer.Analysed outcome) = IsAnalysed holds paths name old new outcome

-- The clauses of the call.

-- the outcome of the call, whose line is printed in the way of `writes`
pub record Prints (words : List (List ℕ)) (holds : List ℕ → List ℕ → Type 0) (old new : List Row) (writes : List ℕ → Type 0) (outcome : Outcome) : Type 0 where
  pub paths : Paths
  pub name : List ℕ
  pub call : IsBoundCall words paths name
  pub analysed : IsAnalysed holds paths name old new outcome
  pub printed : writes (outcome_line name outcome)

-- the first fault of the files of the call, whose refusal is printed in the way of `writes`
pub record Refuses (words : List (List ℕ)) (holds : List ℕ → List ℕ → Type 0) (old new : List Row) (writes : List ℕ → Type 0) (fault : FaultCode) : Type 0 where
  pub paths : Paths
  pub name : List ℕ
  pub call : IsBoundCall words paths name
  pub refused : IsRefused holds paths old new fault
  pub printed : writes (refusal fault)

-- the file of the call that couldn't be read
pub record StopsReading (words : List (List ℕ)) (holds : List ℕ → List ℕ → Type 0) (old new : List Row) : Type 0 where
  pub paths : Paths
  pub name : List ℕ
  pub call : IsBoundCall words paths name
  pub unread : IsUnread holds paths old new

-- how far the call came without memory
pub record RunsOut (words : List (List ℕ)) (holds : List ℕ → List ℕ → Type 0) (old new : List Row) : Type 0 where
  pub paths : Paths
  pub name : List ℕ
  pub call : IsBoundCall words paths name
  pub unfinished : IsUnfinished holds paths old new

-- the words name files of which one is told to have a fault
pub record HasFault (words : List (List ℕ)) (files : List ℕ → Option (List ℕ)) : Type 0 where
  pub paths : Paths
  pub name : List ℕ
  pub call : IsBoundCall words paths name
  pub fault : FaultCode
  pub read : List (List ℕ)
  pub first : IsFirstFault (IsTold files) paths fault read

-- the words name files that are told, and none has a fault
pub record AreSound (words : List (List ℕ)) (files : List ℕ → Option (List ℕ)) : Type 0 where
  pub paths : Paths
  pub name : List ℕ
  pub call : IsBoundCall words paths name
  pub told : AreTold files paths
  pub faultless : (fault : FaultCode) (read : List (List ℕ)) → IsFirstFault (IsTold files) paths fault read → ⊥

-- the house was asked for the first of the path words, in their order, each once as a source
abbrev pub Opens : List (List ℕ) → List Row → List Row → Type 0
Opens words old new = (paths : Paths) (name : List ℕ) → IsBoundCall words paths name → OpensSome (paths_of paths) old new
