-- A new name in the map of rows.
use Rattle.std.proofs.Common.{ℕ, suc, ◌≡◌, ◌+◌, ◌<◌, ◌≤◌, Bool, true, false, List, [], ◌∷◌, ◌++◌, Option, None, Some, Result, Ok, Err, is_some, map, length, refl, sym, ap, ap₂, subst, ◌∙◌, arith, length-append}
use Rattle.std.specs.Result.{IsOk, OnOk}
use Rattle.std.specs.Map.{lookup}
use Rattle.std.proofs.lemmas.Bool.{false≢true}
use Rattle.wc_model.specs.Workspace.States.{has_row}
use Rattle.wc_core.specs.Inner.Lines.{AreFew, Line, lines_of, names, row_of}
use Rattle.wc_core.specs.Inner.Shelves.{KnownRow, KnownShelf}
use Rattle.wc_core.proofs.KeptLemmas.{any_row, apart_last}
use Rattle.wc_core.proofs.LineLemmas.{Entry, row_there, test}

pub on_ok : {A E : Type 0} (r : Result A E) (P : Type 0) → IsOk r → OnOk r P → P
on_ok (Ok x) P is p = p
on_ok (Err e) P is p = absurd (false≢true is)

none_of : {A : Type 0} (o : Option A) → is_some o ≡ false → o ≡ None
none_of None is = refl
none_of (Some a) is = absurd (false≢true (sym is))

pub absent : {C : Type 0} (name : List ℕ) (es : List (Entry C)) → has_row name (map row_of (lines_of es)) ≡ false → lookup (test name) es ≡ None
absent name es is = none_of (lookup (test name) es) (sym (row_there name es) ∙ is)

pub lines_last : {C : Type 0} (es : List (Entry C)) (e : Entry C) → lines_of (es ++ e ∷ []) ≡ lines_of es ++ record { name = (e.0).items; row = e.1 } ∷ []
lines_last {C} [] e = refl
lines_last {C} (x ∷ es) e = ap (λ (ls : List (Line C)). record { name = (x.0).items; row = x.1 } ∷ ls) (lines_last es e)

names_last : {C : Type 0} (ls : List (Line C)) (l : Line C) → names (ls ++ l ∷ []) ≡ names ls ++ l.name ∷ []
names_last [] l = refl
names_last (m ∷ ls) l = ap (λ ns. m.name ∷ ns) (names_last ls l)

length-names : {C : Type 0} (ls : List (Line C)) → length (names ls) ≡ length ls
length-names [] = refl
length-names (l ∷ ls) = ap (λ n. suc n) (length-names ls)

pub few_last : {C : Type 0} (ls : List (Line C)) (l : Line C) → AreFew (names ls) → has_row l.name (map row_of ls) ≡ false → length ls < 32 → AreFew (names (ls ++ l ∷ []))
few_last {C} ls l few none small =
    let row : KnownRow C = l.row in
    let shelf : KnownShelf C = record { kind = 0; stamp = 0; copies = [] } in
    subst (λ ns. AreFew ns) (sym (names_last ls l))
    (record { apart = apart_last l.name row shelf (names ls) few.apart (sym (any_row l.name row shelf ls) ∙ none); few = omega (arith, small, length-names ls, length-append (names ls) (l.name ∷ [])) })
