-- Which session an entry of the history is by.
use Rattle.std.specs.Prelude.{ℕ, ◌==◌, List, filter}
use Rattle.wc_model.specs.declared.entries.Entry.{Entry}
use Rattle.wc_model.specs.declared.entries.Entry.TheVariants.{Edit, NoFact, Pin, Start, Finish, Answer, List as Lists}

abbrev pub session_of : Entry → ℕ
session_of (Edit session _ _) = session
session_of (NoFact session _ _) = session
session_of (Pin session _ _) = session
session_of (Start session _ _ _) = session
session_of (Finish session _ _ _ _) = session
session_of (Answer session _ _ _) = session
session_of (Lists session _) = session

-- the entries of one session, in order
abbrev pub entries_of : ℕ → List Entry → List Entry
entries_of session entries = filter (λ e. session_of e == session) entries
