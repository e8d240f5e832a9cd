-- The session of the command `serve`: one legal history, and the replies and bounds that are those of its entries.
use Rattle.std.specs.Prelude.{◌≡◌, ℕ, Bool, true, false, List, [], ◌∷◌, ◌++◌, Option, Some, IfSome, IsSome, IsTrue}
use Rattle.wc_io.specs.Lines.{LineResult, lines_of}
use Rattle.wc_io.specs.Rows.{Row, row_failed}
use Rattle.wc_io.specs.Telling.{TellsFile}
use Rattle.wc_model.specs.declared.entries.Ended.{Ended}
use Rattle.wc_model.specs.declared.entries.Ended.TheVariants.{ReadFault, WriteFault}
use Rattle.wc_model.specs.declared.entries.Entry.{Entry}
use Rattle.wc_model.specs.Workspace.History.{Chain, EachRight, IsLegal, opening_entries}
use Rattle.wc_model.specs.Workspace.States.{Opening}
use Rattle.wc_session.specs.Served.{IsServed}
use Rattle.wcet.specs.declared.loading.Loaded.{Loaded}
use Rattle.wcet.specs.BoundAlone.{plain_opening}
use Rattle.wcet.specs.Chained.{covers}
use Rattle.wc_model.specs.Workspace.Chain.{chain}
use Rattle.wcet.specs.Files.{Holds, AreInputs, paths_of}
use Rattle.wcet.specs.Loading.{OpensAll}
use Rattle.wcet.specs.Words.{Paths}

-- the workspace that is opened with what the files of a call say
abbrev pub opening_of : Loaded → Opening
opening_of loaded = plain_opening loaded.image loaded.hardware loaded.facts.items

-- What a session leaves of a workspace: its history is legal, and its replies are those of the lines that were read.
pub record IsRun (answers : Chain) (o : Opening) (script : Option (List LineResult)) (held replies : Option (List ℕ)) (history : List Entry) (end : Ended) : Type 0 where
  pub legal : IsLegal answers o history
  pub served : IsServed 1 o.image (opening_entries o) history script held replies end

-- The same between opening and giving back the two files of a session: the script is that of IN, and the replies stand
-- in OUT. A read or a write failed only where the row of IN or of OUT says so.
pub record IsSessionOver (loaded : Loaded) (tells : Bool) (files now : List ℕ → Option (List ℕ)) (input output : List ℕ) (old new : List Row) (history : List Entry) (end : Ended) : Type 0 where
  pub script : Option (List LineResult)
  pub script_is : IfSome (files input) (λ bytes. script ≡ Some (lines_of bytes))
  pub script_told : IsTrue tells → IsSome (files input)
  pub held : Option (List ℕ)
  pub replies : Option (List ℕ)
  pub empty : TellsFile tells (files output) → held ≡ Some []
  pub output_is : TellsFile tells (files output) → now output ≡ replies
  pub run : IsRun chain (opening_of loaded) script held replies history end
  pub bounds : EachRight covers loaded.image [] history
  pub read_failed : Bool
  pub write_failed : Bool
  pub rows : new ≡ old ++ row_failed input false read_failed ∷ row_failed output true write_failed ∷ []
  pub read_fault : end ≡ ReadFault → read_failed ≡ true
  pub write_fault : end ≡ WriteFault → write_failed ≡ true

-- The session over what the files of a call say.
pub record IsSession (tells : Bool) (files now : List ℕ → Option (List ℕ)) (paths : Paths) (input output : List ℕ) (old new : List Row) (history : List Entry) (end : Ended) : Type 0 where
  pub loaded : Loaded
  pub inputs : AreInputs (Holds tells files) paths loaded
  pub before : List Row
  pub opened : OpensAll (paths_of paths) old before
  pub session : IsSessionOver loaded tells files now input output before new history end
