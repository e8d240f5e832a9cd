-- What is left of a house once all that was opened came back.
use Rattle.std.proofs.Common.{◌≡◌, ℕ, false, List, [], ◌∷◌, ◌++◌, length, Result, subst, sym, ◌∙◌}
use Rattle.std.specs.Prelude.{IsErrOf}
use Rattle.wc_io.specs.Causes.{Rose}
use Rattle.wc_io.specs.Leaving.{Leaves, NoPath}
use Rattle.wc_io.specs.Reading.{AddsReadRow}
use Rattle.wc_io.specs.Rows.{MarksRow, row_failed}
use Rattle.wc_io.specs.Telling.{GoesOut, StaysOut, ComesBack}
use Rattle.wc_io.specs.declared.houses.House.{Ghosts}
use Rattle.wc_io.specs.declared.whole.ReadWhole.{ReadWhole}
use Rattle.wc_io.specs.declared.whole.ReadWhole.TheVariants.{Failed}
use Rattle.wc_io.proofs.RowLemmas.{read_row}

-- what went out last came back
pub out_and_back : {H : Type 0} (are_out : H → List ℕ → Type 0) (old middle new : H) (place same : ℕ) → place ≡ same
    → GoesOut place (are_out old) (are_out middle) → ComesBack same (are_out middle) (are_out new) → StaysOut (are_out old) (are_out new)
out_and_back are_out old middle new place same is goes comes =
    λ places are. comes [] places (subst (λ (p : ℕ). are_out middle (p ∷ places)) is (goes places are))

-- a source was opened, read and given back
pub read_and_back : {H S K T : Type 0} (house : Ghosts H S K) (old middle new : H) (path : List ℕ) (result : Result T ReadWhole) (place same before faults : ℕ)
    → house.opened middle ≡ house.opened old ++ row_failed path false false ∷ [] → place ≡ length (house.opened middle) → same ≡ place
    → before ≡ 0 → (IsErrOf result Failed → Rose before faults) → MarksRow same faults (house.opened middle) (house.opened new)
    → ((p : List ℕ) → house.file middle p ≡ house.file old p) → ((p : List ℕ) → house.file new p ≡ house.file middle p)
    → house.tells middle ≡ house.tells old → house.tells new ≡ house.tells middle
    → GoesOut place (house.are_out old) (house.are_out middle) → ComesBack same (house.are_out middle) (house.are_out new)
    → Leaves house (AddsReadRow path result) NoPath old new
read_and_back house old middle new path result place same before faults row last is none rose marks files kept tells told goes comes =
    record {
      rows = read_row path result (house.opened old) (house.opened middle) (house.opened new) same before faults row (is ∙ last) marks none rose;
      files = λ p free. kept p ∙ files p;
      tells = told ∙ tells;
      out = out_and_back house.are_out old middle new place same (sym is) goes comes;
    }
