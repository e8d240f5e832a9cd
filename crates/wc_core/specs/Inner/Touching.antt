-- What an edit touches, and what it leaves of the stamps and of the store.
use Rattle.std.specs.Prelude.{ℕ, ◌≡◌, ◌==◌, ◌&&◌, ◌||◌, not, Bool, if◌then◌else◌, List, map, filter}
use Rattle.wc_model.specs.declared.kinds.Part.{Part}
use Rattle.wc_model.specs.declared.kinds.Part.TheVariants.{Steer, Loops, Limits, Cache, Cycles}
use Rattle.wc_registry.specs.Inner.Required.{has_part}
use Rattle.wc_core.specs.declared.touching.Touched.{Touched}
use Rattle.wc_core.specs.Inner.Lines.{Line}
use Rattle.wc_core.specs.Inner.Shelves.{KnownRow}

-- a mark for each part
pub record AreTouched (test : Part → Bool) (t : Touched) : Type 0 where
  pub steer : t.steer ≡ test Steer
  pub loops : t.loops ≡ test Loops
  pub limits : t.limits ≡ test Limits
  pub cache : t.cache ≡ test Cache
  pub cycles : t.cycles ≡ test Cycles

abbrev pub stamped : (ℕ → Bool) → ℕ → ℕ × ℕ → ℕ × ℕ
stamped touched count key = if touched key.0 then (key.0, count) else key

-- What stays in a row and in the store.
abbrev pub row_cut : {C : Type 0} → (ℕ → Bool) → KnownRow C → KnownRow C
row_cut touched row = record row { shelves = filter (λ s. not (touched s.kind)) row.shelves }

abbrev pub line_cut : {C : Type 0} → (ℕ → Bool) → Line C → Line C
line_cut touched l = record l { row = row_cut touched l.row }

abbrev pub lines_cut : {C : Type 0} → (ℕ → Bool) → List (Line C) → List (Line C)
lines_cut touched lines = map (line_cut touched) lines

-- Whether a kind reads a touched part, by the parts of its closure.
abbrev pub touches_kind : Touched → List Part → Bool
touches_kind t parts =
    t.steer && has_part Steer parts || (t.loops && has_part Loops parts || (t.limits && has_part Limits parts || (t.cache && has_part Cache parts || t.cycles && has_part Cycles parts)))
