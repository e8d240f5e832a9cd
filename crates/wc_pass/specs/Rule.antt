-- The rule that holds of the one word and all views at every moment.
use Rattle.std.specs.Prelude.{ℕ, ◌≡◌, ◌≢◌, ◌≤◌, true, List, [], ◌∷◌, length}
use mathlib.Core.Option.{some}
use lib.ListN.{get_elem?}
use Rattle.wc_model.specs.declared.entries.Entry.{Entry}
use Rattle.wc_model.specs.Workspace.Entries.{entries_of}
use Rattle.wc_pass.specs.declared.views.Old.{Old}
use Rattle.wc_pass.specs.declared.views.View.{View}
use Rattle.wc_pass.specs.Known.{IsPrefix}

-- an outgrown list is a prefix, and an own one of a seat with a session has all entries of that session
abbrev pub IsOutgrown : List Entry → ℕ → Old → Type 0
IsOutgrown seen session o = IsPrefix o.list seen × (o.own ≡ true → session ≢ 0 → entries_of session seen ≡ entries_of session o.list)

abbrev pub AreOutgrown : List Entry → ℕ → List Old → Type 0
AreOutgrown seen session [] = Unit {0}
AreOutgrown seen session (o ∷ os) = IsOutgrown seen session o × AreOutgrown seen session os

abbrev pub Learned : View → Type 0
Learned v = AreOutgrown v.seen v.session v.olds

-- one view beside the published list `log`, the pen's seat and the number of sessions made
pub record Fits (pen : ℕ) (log : List Entry) (made : ℕ) (seat : ℕ) (v : View) : Type 0 where
  pub writes : v.pen ≡ true → (seat ≡ pen) × (v.seen ≡ log) × (v.made ≡ made)
  pub begins : IsPrefix v.seen log
  pub whole : v.session ≢ 0 → (v.session ≤ made) × (entries_of v.session log ≡ entries_of v.session v.seen)
  pub olds : Learned v

-- no two seats have the same session
abbrev pub AreApart : List View → Type 0
AreApart views = (j k : ℕ) (v w : View) → get_elem? views j ≡ some v → get_elem? views k ≡ some w → v.session ≢ 0 → v.session ≡ w.session → j ≡ k

-- one view is the pen's, the word is the length of its list, and every view fits
pub record Kept (words : List ℕ) (views : List View) : Type 0 where
  pub pen : ℕ
  pub log : List Entry
  pub made : ℕ
  pub word : words ≡ length log ∷ []
  pub there : (v : View) × (get_elem? views pen ≡ some v) × (v.pen ≡ true)
  pub each : (seat : ℕ) (v : View) → get_elem? views seat ≡ some v → Fits pen log made seat v
  pub apart : AreApart views
