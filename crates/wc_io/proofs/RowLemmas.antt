-- Marked rows, and what a list of opened paths keeps.
use Rattle.std.proofs.Common.{◌≡◌, ℕ, zero, suc, ◌+◌, ◌-◌, ◌<◌, ◌≤◌, nat_lt, Bool, true, false, Some, string_bytes, List, [], ◌∷◌, ◌++◌, map, length, get_or, set, refl, sym, ap, ◌∙◌, arith, length-append, lt-ltb, zero-add, append-nil, append_assoc, cond, ◌||◌, inr, Result, Ok, Err}
use Rattle.std.specs.Prelude.{IsErrOf}
use Rattle.std.proofs.lemmas.List.{map-append}
use Rattle.std.proofs.Math.Seq.{take-append_seam, take-append-add}
use Rattle.wc_io.specs.Rows.{Row, row_of, row_failed, with_faults, marked, sink_at, path_at, IsRowOf, asked, is_failed, failed_count, MarksRow, AddsRows, AddsAllRows}
use Rattle.wc_io.specs.Causes.{Rose}
use Rattle.wc_io.specs.Reading.{AddsReadRow}
use Rattle.wc_io.specs.declared.whole.ReadWhole.{ReadWhole}
use Rattle.wc_io.specs.declared.whole.ReadWhole.TheVariants.{Long, Failed, Memory}
use Rattle.wc_io.specs.declared.opened.OpenedRow.{OpenedRow}

pub marked_set : (rows : List OpenedRow) (i faults : ℕ) (d new : OpenedRow)
    → row_of new ≡ with_faults faults (row_of (get_or rows i d)) → map row_of (set rows i new) ≡ marked i faults (map row_of rows)
marked_set [] i faults d new is = refl
marked_set (r ∷ rs) zero faults d new is = ap (λ x. x ∷ map row_of rs) is
marked_set (r ∷ rs) (suc i) faults d new is = ap (λ xs. row_of r ∷ xs) (marked_set rs i faults d new is)

pub marked_past : (rows : List Row) (i faults : ℕ) → length rows ≤ i → marked i faults rows ≡ rows
marked_past [] i faults past = refl
marked_past (r ∷ rs) zero faults past = absurd (omega arith)
marked_past (r ∷ rs) (suc i) faults past = ap (λ xs. r ∷ xs) (marked_past rs i faults (omega arith))

-- a row that is there
pub sink_at_within : (rows : List Row) (i : ℕ) (sink : Bool) → sink_at i rows ≡ Some sink → i < length rows
sink_at_within [] i sink is = absurd (cc)
sink_at_within (r ∷ rs) zero sink is = omega arith
sink_at_within (r ∷ rs) (suc i) sink is = let lt = sink_at_within rs i sink is in omega arith

pub path_at_map : (rows : List OpenedRow) (i : ℕ) (d : OpenedRow) → i < length rows → path_at i (map row_of rows) ≡ string_bytes (get_or rows i d).path
path_at_map [] i d within = absurd (omega arith)
path_at_map (r ∷ rs) zero d within = refl
path_at_map (r ∷ rs) (suc i) d within = path_at_map rs i d (omega arith)

pub marked_last : (rows : List Row) (faults : ℕ) (r : Row) → marked (length rows) faults (rows ++ r ∷ []) ≡ rows ++ with_faults faults r ∷ []
marked_last [] faults r = refl
marked_last (s ∷ rows) faults r = ap (λ xs. s ∷ xs) (marked_last rows faults r)

sink_at_last : (rows : List Row) (r : Row) → sink_at (length rows) (rows ++ r ∷ []) ≡ Some r.sink
sink_at_last [] r = refl
sink_at_last (s ∷ rows) r = sink_at_last rows r

-- the place of a new source or sink is its row's
pub new_row : (rows opened : List Row) (path : List ℕ) (sink failed : Bool) (place : ℕ)
    → opened ≡ rows ++ row_failed path sink failed ∷ [] → place ≡ length opened → IsRowOf place sink opened
new_row rows opened path sink failed place is last =
    let many : length opened ≡ length rows + 1 = ap length is ∙ length-append rows (row_failed path sink failed ∷ []) in
    let at : place - 1 ≡ length rows = omega arith in
    (omega arith, ap (λ i. sink_at i opened) at ∙ ap (sink_at (length rows)) is ∙ sink_at_last rows (row_failed path sink failed))

-- the rows once the newest source or sink came back
pub returned_row : (rows opened new : List Row) (path : List ℕ) (sink : Bool) (place faults : ℕ)
    → opened ≡ rows ++ row_failed path sink false ∷ [] → place ≡ length opened → new ≡ marked (place - 1) faults opened
    → new ≡ rows ++ row_failed path sink (nat_lt 0 faults) ∷ []
returned_row rows opened new path sink place faults is last marks =
    let many : length opened ≡ length rows + 1 = ap length is ∙ length-append rows (row_failed path sink false ∷ []) in
    let at : place - 1 ≡ length rows = omega arith in
    marks ∙ ap (λ i. marked i faults opened) at ∙ ap (marked (length rows) faults) is ∙ marked_last rows faults (row_failed path sink false)

-- a count that rose from none is above none
pub rose_above : (before now : ℕ) → before ≡ 0 → Rose before now → nat_lt 0 now ≡ true
rose_above before now none rose = let some : 0 < now = omega arith in lt-ltb 0 now some

-- what reading a file leaves, once its source came back
pub read_row : {T : Type 0} (path : List ℕ) (result : Result T ReadWhole) (rows opened new : List Row) (place before faults : ℕ)
    → opened ≡ rows ++ row_failed path false false ∷ [] → place ≡ length opened → MarksRow place faults opened new
    → before ≡ 0 → (IsErrOf result Failed → Rose before faults) → AddsReadRow path result rows new
read_row path (Ok v) rows opened new place before faults is last marks none rose = (nat_lt 0 faults, returned_row rows opened new path false place faults is last marks)
read_row path (Err Long) rows opened new place before faults is last marks none rose = (nat_lt 0 faults, returned_row rows opened new path false place faults is last marks)
read_row path (Err Failed) rows opened new place before faults is last marks none rose =
    returned_row rows opened new path false place faults is last marks
    ∙ ap (λ (failed : Bool). rows ++ row_failed path false failed ∷ []) (rose_above before faults none (rose refl))
read_row path (Err (Memory e)) rows opened new place before faults is last marks none rose = inr (nat_lt 0 faults, returned_row rows opened new path false place faults is last marks)

-- marks behind the first rows leave those
pub marked_behind : (xs ys : List Row) (i faults : ℕ) → marked (length xs + i) faults (xs ++ ys) ≡ xs ++ marked i faults ys
marked_behind [] ys i faults = ap (λ j. marked j faults ys) (zero-add i)
marked_behind (x ∷ xs) ys i faults =
    let e : length (x ∷ xs) + i ≡ suc (length xs + i) = omega arith in
    ap (λ j. marked j faults (x ∷ xs ++ ys)) e ∙ ap (λ rows. x ∷ rows) (marked_behind xs ys i faults)

-- a mark changes neither a path nor a kind
pub asked_marked : (rows : List Row) (i faults : ℕ) → map asked (marked i faults rows) ≡ map asked rows
asked_marked [] i faults = refl
asked_marked (r ∷ rs) zero faults = refl
asked_marked (r ∷ rs) (suc i) faults = ap (λ xs. asked r ∷ xs) (asked_marked rs i faults)

pub sink_at_marked : (rows : List Row) (i j faults : ℕ) → sink_at i (marked j faults rows) ≡ sink_at i rows
sink_at_marked [] i j faults = refl
sink_at_marked (r ∷ rs) zero zero faults = refl
sink_at_marked (r ∷ rs) zero (suc j) faults = refl
sink_at_marked (r ∷ rs) (suc i) zero faults = refl
sink_at_marked (r ∷ rs) (suc i) (suc j) faults = sink_at_marked rs i j faults

pub path_at_marked : (rows : List Row) (i j faults : ℕ) → path_at i (marked j faults rows) ≡ path_at i rows
path_at_marked [] i j faults = refl
path_at_marked (r ∷ rs) zero zero faults = refl
path_at_marked (r ∷ rs) zero (suc j) faults = refl
path_at_marked (r ∷ rs) (suc i) zero faults = refl
path_at_marked (r ∷ rs) (suc i) (suc j) faults = path_at_marked rs i j faults

pub sink_at_more : (rows more : List Row) (i : ℕ) (sink : Bool) → sink_at i rows ≡ Some sink → sink_at i (rows ++ more) ≡ Some sink
sink_at_more [] more i sink is = absurd (cc)
sink_at_more (r ∷ rs) more zero sink is = is
sink_at_more (r ∷ rs) more (suc i) sink is = sink_at_more rs more i sink is

pub path_at_more : (rows more : List Row) (i : ℕ) → i < length rows → path_at i (rows ++ more) ≡ path_at i rows
path_at_more [] more i within = absurd (omega arith)
path_at_more (r ∷ rs) more zero within = refl
path_at_more (r ∷ rs) more (suc i) within = path_at_more rs more i (omega arith)

pub IsRowOf_marked : (place : ℕ) (sink : Bool) (rows : List Row) (j faults : ℕ) → IsRowOf place sink rows → IsRowOf place sink (marked j faults rows)
IsRowOf_marked place sink rows j faults (some, is) = (some, sink_at_marked rows (place - 1) j faults ∙ is)

pub IsRowOf_more : (place : ℕ) (sink : Bool) (rows more : List Row) → IsRowOf place sink rows → IsRowOf place sink (rows ++ more)
IsRowOf_more place sink rows more (some, is) = (some, sink_at_more rows more (place - 1) sink is)

pub failed_count_append : (sink : Bool) (xs ys : List Row) → failed_count sink (xs ++ ys) ≡ failed_count sink xs + failed_count sink ys
failed_count_append sink [] ys = sym (zero-add (failed_count sink ys))
failed_count_append sink (x ∷ xs) ys = let more = failed_count_append sink xs ys in omega arith

-- one failed row more raises the count of its kind
pub failed_row_counts : (sink : Bool) (old new : List Row) (path : List ℕ) → new ≡ old ++ row_failed path sink true ∷ []
    → failed_count sink old < failed_count sink new
failed_row_counts true old new path is = omega (arith, ap (failed_count true) is, failed_count_append true old (row_failed path true true ∷ []))
failed_row_counts false old new path is = omega (arith, ap (failed_count false) is, failed_count_append false old (row_failed path false true ∷ []))

-- how much one row counts
abbrev count : Bool → Row → ℕ
count sink r = cond (is_failed sink r) 1 0

counted : (failed is sink more : Bool) → count sink (row_failed [] is failed) ≤ count sink (row_failed [] is (failed || more))
counted true is sink more = omega arith
counted false is sink more = omega arith

count_with_faults : (sink : Bool) (r : Row) (faults : ℕ) → count sink r ≤ count sink (with_faults faults r)
count_with_faults sink r faults = counted r.failed r.sink sink (nat_lt 0 faults)

-- marks lower no count
pub failed_count_marked : (sink : Bool) (rows : List Row) (i faults : ℕ) → failed_count sink rows ≤ failed_count sink (marked i faults rows)
failed_count_marked sink [] i faults = omega arith
failed_count_marked sink (r ∷ rs) zero faults = let one = count_with_faults sink r faults in omega arith
failed_count_marked sink (r ∷ rs) (suc i) faults = let more = failed_count_marked sink rs i faults in omega arith

pub AddsAllRows_none : (rows : List Row) → AddsAllRows [] rows rows
AddsAllRows_none rows = ([], sym (append-nil rows), refl)

pub AddsAllRows_one : (path : List ℕ) (sink failed : Bool) (old new : List Row) → new ≡ old ++ row_failed path sink failed ∷ []
    → AddsAllRows ((path, sink) ∷ []) old new
AddsAllRows_one path sink failed old new is = (row_failed path sink failed ∷ [], is, refl)

pub AddsAllRows_then : (paths later : List (List ℕ × Bool)) (old middle new : List Row) → AddsAllRows paths old middle → AddsAllRows later middle new
    → AddsAllRows (paths ++ later) old new
AddsAllRows_then paths later old middle new (rows, is, for) (more, then, those) =
    (rows ++ more, then ∙ ap (λ xs. xs ++ more) is ∙ append_assoc old rows more, map-append asked rows more ∙ ap (λ xs. xs ++ map asked more) for ∙ ap (λ xs. paths ++ xs) those)

-- all rows of these paths are rows of the first ones of a longer list
pub AddsRows_all : (paths later : List (List ℕ × Bool)) (old new : List Row) → AddsAllRows paths old new → AddsRows (paths ++ later) old new
AddsRows_all paths later old new (rows, is, for) = (rows, is, (length paths, for ∙ sym (take-append_seam paths later)))

pub AddsRows_then : (paths later : List (List ℕ × Bool)) (old middle new : List Row) → AddsAllRows paths old middle → AddsRows later middle new
    → AddsRows (paths ++ later) old new
AddsRows_then paths later old middle new (rows, is, for) (more, then, (n, those)) = (
  rows ++ more,
  then ∙ ap (λ xs. xs ++ more) is ∙ append_assoc old rows more,
  (length paths + n, map-append asked rows more ∙ ap (λ xs. xs ++ map asked more) for ∙ ap (λ xs. paths ++ xs) those ∙ sym (take-append-add paths later n)),
)
