-- The entries of a table that are still to be read, and the first fault of checks one after the other.
use Rattle.std.proofs.Common.{◌≡◌, ℕ, zero, suc, ◌+◌, ◌*◌, ◌-◌, ◌<◌, Bool, true, false, List, [], ◌∷◌, ◌++◌, map, Option, None, Some, refl, sym, ap, ◌∙◌, arith, append_assoc, flat_map, if◌then◌else◌}
use Rattle.std.specs.List.{range_with_len, find}
use Rattle.wc_base.specs.declared.faults.Fault.{Fault}
use Rattle.std.specs.declared.result.Result.{Result}
use Rattle.std.specs.declared.result.Result.TheVariants.{Ok, Err}
use Rattle.wc_base.specs.declared.troubles.Trouble.{Trouble}
use Rattle.wc_base.specs.declared.troubles.Trouble.TheVariants.{Fault as Refused, Memory}
use Rattle.wc_model.specs.Program.Image.{first_fault}
use Rattle.wc_elf.specs.Readings.{Stops, Reads}

-- the entries from the index on
abbrev pub rest : ℕ → ℕ → ℕ → ℕ → List ℕ
rest table size count index = map (λ k. table + size * k) (range_with_len index (count - index))

range_next : (f : ℕ → ℕ) (i left : ℕ) → 0 < left → map f (range_with_len i left) ≡ f i ∷ map f (range_with_len (i + 1) (left - 1))
range_next f i zero some = absurd (omega arith)
range_next f i (suc left) some = let less : suc left - 1 ≡ left = omega arith in rw less refl

pub rest_next : (table size count index : ℕ) → index < count → rest table size count index ≡ (table + size * index) ∷ rest table size count (index + 1)
rest_next table size count index more =
    let less : count - index - 1 ≡ count - (index + 1) = omega arith in
    range_next (λ k. table + size * k) index (count - index) (omega arith) ∙ ap (λ n. (table + size * index) ∷ map (λ k. table + size * k) (range_with_len (index + 1) n)) less

pub rest_end : (table size count : ℕ) → rest table size count count ≡ []
rest_end table size count = let none : count - count ≡ 0 = omega arith in rw none refl

pub pass : (xs ys : List (Bool × Fault)) → first_fault xs ≡ None → first_fault (xs ++ ys) ≡ first_fault ys
pass [] ys none = refl
pass ((true, f) ∷ xs) ys none = pass xs ys none
pass ((false, f) ∷ xs) ys none = grind arith

pub stop : (xs ys : List (Bool × Fault)) (fault : Fault) → first_fault xs ≡ Some fault → first_fault (xs ++ ys) ≡ Some fault
stop [] ys fault is = grind arith
stop ((true, f) ∷ xs) ys fault is = stop xs ys fault is
stop ((false, f) ∷ xs) ys fault is = is

-- one entry is read, and the others are to come
pub turn_checks : (checks : ℕ → List (Bool × Fault)) (table size count index : ℕ) (all : Option Fault) → index < count
    → first_fault (flat_map checks (rest table size count index)) ≡ all
    → first_fault (checks (table + size * index) ++ flat_map checks (rest table size count (index + 1))) ≡ all
turn_checks checks table size count index all more is = ap (λ r. first_fault (flat_map checks r)) (sym (rest_next table size count index more)) ∙ is

pub turn_pass : (checks : ℕ → List (Bool × Fault)) (table size count index : ℕ) (all : Option Fault) → index < count
    → first_fault (checks (table + size * index)) ≡ None
    → first_fault (flat_map checks (rest table size count index)) ≡ all
    → first_fault (flat_map checks (rest table size count (index + 1))) ≡ all
turn_pass checks table size count index all more none is =
    sym (pass (checks (table + size * index)) (flat_map checks (rest table size count (index + 1))) none) ∙ turn_checks checks table size count index all more is

pub turn_items : {X : Type 0} (made : ℕ → List X) (table size count index : ℕ) (old new all : List X) → index < count
    → new ≡ old ++ made (table + size * index)
    → old ++ flat_map made (rest table size count index) ≡ all
    → new ++ flat_map made (rest table size count (index + 1)) ≡ all
turn_items made table size count index old new all more is before =
    ap (λ n. n ++ flat_map made (rest table size count (index + 1))) is
    ∙ append_assoc old (made (table + size * index)) (flat_map made (rest table size count (index + 1)))
    ∙ ap (λ r. old ++ flat_map made r) (sym (rest_next table size count index more))
    ∙ before

pub turn_stops : (checks : ℕ → List (Bool × Fault)) (table size count index : ℕ) (whole : List (Bool × Fault)) (trouble : Trouble) → index < count
    → first_fault (flat_map checks (rest table size count index)) ≡ first_fault whole
    → Stops (checks (table + size * index)) trouble
    → Stops whole trouble
turn_stops checks table size count index whole (Refused fault) more before stops =
    sym (turn_checks checks table size count index (first_fault whole) more before) ∙ stop (checks (table + size * index)) (flat_map checks (rest table size count (index + 1))) fault stops
turn_stops checks table size count index whole (Memory _) more before stops = tt

pub find_next : (test : ℕ → Bool) (table size count index : ℕ) (all : Option ℕ) → index < count
    → find test (rest table size count index) ≡ all
    → (if test (table + size * index) then Some (table + size * index) else find test (rest table size count (index + 1))) ≡ all
find_next test table size count index all more is = ap (find test) (sym (rest_next table size count index more)) ∙ is

-- checks one after the other
pub stops_first : (xs ys : List (Bool × Fault)) (trouble : Trouble) → Stops xs trouble → Stops (xs ++ ys) trouble
stops_first xs ys (Refused fault) stops = stop xs ys fault stops
stops_first xs ys (Memory _) stops = tt

pub stops_later : (xs ys : List (Bool × Fault)) (trouble : Trouble) → first_fault xs ≡ None → Stops ys trouble → Stops (xs ++ ys) trouble
stops_later xs ys (Refused fault) none stops = pass xs ys none ∙ stops
stops_later xs ys (Memory _) none stops = tt

pub reads_later : {T : Type 0} (xs ys : List (Bool × Fault)) (is : T → Type 0) (result : Result T Trouble) → first_fault xs ≡ None → Reads ys is result → Reads (xs ++ ys) is result
reads_later xs ys is (Ok value) none reads = (pass xs ys none ∙ reads.0, reads.1)
reads_later xs ys is (Err trouble) none reads = stops_later xs ys trouble none reads
