-- Opening the script of a session and the sink of its replies.
use Rattle.std.specs.Prelude.{◌≡◌, ℕ, nat_lt, true, false, List, [], ◌∷◌, ◌++◌, ◌⊎◌, Result, Ok, Err}
use Rattle.wc_io.specs.Rows.{Row, row_failed}
use Rattle.wcet.specs.declared.opening.Unopened.{Unopened}
use Rattle.wcet.specs.declared.opening.Unopened.TheVariants.{ReadFault, WriteFault, Memory}

-- the rows of a script and of its replies' sink that counted so many faults
abbrev pub session_rows : List ℕ → List ℕ → ℕ → ℕ → List Row
session_rows input output reads writes = row_failed input false (nat_lt 0 reads) ∷ row_failed output true (nat_lt 0 writes) ∷ []

-- the script is asked for first; where one of them isn't opened nothing else is asked for
abbrev pub OpensBoth : {T : Type 0} → List ℕ → List ℕ → List Row → List Row → Result T Unopened → Type 0
OpensBoth input output old new (Ok _) = new ≡ old ++ session_rows input output 0 0
OpensBoth input output old new (Err ReadFault) = new ≡ old ++ row_failed input false true ∷ []
OpensBoth input output old new (Err WriteFault) = new ≡ old ++ row_failed input false false ∷ row_failed output true true ∷ []
OpensBoth input output old new (Err Memory) = (new ≡ old) ⊎ (new ≡ old ++ row_failed input false false ∷ [])
