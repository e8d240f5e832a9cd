-- The rows and files of a session's script and replies.
use Rattle.std.proofs.Common.{◌≡◌, ℕ, zero, suc, Bool, true, false, ◌||◌, List, [], ◌∷◌, ◌++◌, Option, Some, IfSome, Err, refl, sym, ap, subst, ◌∙◌, append_assoc, inr, ◌⊎◌}
use Rattle.wc_io.specs.declared.houses.HouseError.{HouseError}
use Rattle.wc_io.specs.declared.houses.HouseError.TheVariants.{Failed, Memory}
use Rattle.wc_io.specs.Rows.{Row, row_failed, marked, AddsRow, IsRowOf}
use Rattle.wc_io.proofs.RowLemmas.{IsRowOf_more}

or_false : (b : Bool) → (b || false) ≡ b
or_false true = refl
or_false false = refl

-- a source or sink without faults marks nothing
pub marked_none : (i : ℕ) (rows : List Row) → marked i 0 rows ≡ rows
marked_none i [] = refl
marked_none zero (r ∷ rs) = ap (λ (failed : Bool). row_failed r.path r.sink failed ∷ rs) (or_false r.failed)
marked_none (suc i) (r ∷ rs) = ap (λ (rows : List Row). r ∷ rows) (marked_none i rs)

-- a row stays where a path other opened
pub still_row : (place : ℕ) (kind sink : Bool) (path : List ℕ) (rows new : List Row) (error : HouseError)
    → IsRowOf place kind rows → AddsRow {T = Unit {0}} path sink rows new (Err error) → IsRowOf place kind new
still_row place kind sink path rows new Failed of adds = subst (IsRowOf place kind) (sym adds) (IsRowOf_more place kind rows (row_failed path sink true ∷ []) of)
still_row place kind sink path rows new (Memory _) of adds = subst (IsRowOf place kind) (sym adds) of

no_marks : (i faults : ℕ) (rows new : List Row) → faults ≡ 0 → new ≡ marked i faults rows → new ≡ rows
no_marks i faults rows new none marks = marks ∙ ap (λ (n : ℕ). marked i n rows) none ∙ marked_none i rows

-- the sink wasn't opened
pub failed_rows : (input output : List ℕ) (old one two new : List Row) (i faults : ℕ) (error : HouseError) → error ≡ Failed
    → one ≡ old ++ row_failed input false false ∷ [] → AddsRow {T = Unit {0}} output true one two (Err error) → faults ≡ 0 → new ≡ marked i faults two
    → new ≡ old ++ row_failed input false false ∷ row_failed output true true ∷ []
failed_rows input output old one two new i faults Failed is first adds none marks =
    no_marks i faults two new none marks ∙ adds ∙ ap (λ (rows : List Row). rows ++ row_failed output true true ∷ []) first ∙ append_assoc old (row_failed input false false ∷ []) (row_failed output true true ∷ [])
failed_rows input output old one two new i faults (Memory _) is first adds none marks = absurd (cc)

-- there was no memory for the sink
pub memory_rows : (input output : List ℕ) (old one two new : List Row) (i faults : ℕ) (error : HouseError) → (error ≡ Failed → ⊥)
    → one ≡ old ++ row_failed input false false ∷ [] → AddsRow {T = Unit {0}} output true one two (Err error) → faults ≡ 0 → new ≡ marked i faults two
    → (new ≡ old) ⊎ (new ≡ old ++ row_failed input false false ∷ [])
memory_rows input output old one two new i faults Failed other first adds none marks = absurd (other refl)
memory_rows input output old one two new i faults (Memory _) other first adds none marks = inr (no_marks i faults two new none marks ∙ adds ∙ first)

-- the file of a path, where the file before and the path are known by other names
pub given_file : (before between now : List ℕ → Option (List ℕ)) (held : Option (List ℕ)) (p q : List ℕ) → q ≡ p → ((r : List ℕ) → between r ≡ before r)
    → IfSome (between q) (λ _. IfSome held (λ bytes. now q ≡ Some bytes)) → IfSome (before p) (λ _. IfSome held (λ bytes. now p ≡ Some bytes))
given_file before between now held p q is same file =
    subst (λ (o : Option (List ℕ)). IfSome o (λ _. IfSome held (λ bytes. now p ≡ Some bytes))) (same p) (subst (λ (r : List ℕ). IfSome (between r) (λ _. IfSome held (λ bytes. now r ≡ Some bytes))) is file)
