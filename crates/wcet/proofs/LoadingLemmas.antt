-- What loading the files of a call says, from what reading and decoding each of them says.
use Rattle.std.proofs.Common.{◌≡◌, ℕ, zero, suc, ◌<◌, ◌≤◌, Bool, true, false, List, [], ◌∷◌, ◌++◌, map, length, take, replicate, Option, Some, None, IfSome, IsSome, Result, Ok, Err, refl, sym, ap, subst, ◌∙◌, inl, inr, arith, append-nil}
use Rattle.std.specs.Prelude.{IsTrue, Vec}
use Rattle.std.specs.declared.alloc.Global.{Global}
use Rattle.std.proofs.lemmas.List.{length-replicate, map-append}
use Rattle.wc_base.specs.declared.faults.Fault.{Fault as FaultCode}
use Rattle.wc_base.specs.declared.faults.FileWord.{FileWord}
use Rattle.wc_base.specs.declared.faults.FileWord.TheVariants.{Binary, Hardware as HardwareFile, Facts as FactsFile}
use Rattle.wc_io.specs.Reading.{AddsSourceRow}
use Rattle.wc_io.specs.Rows.{Row, row_failed, failed_count, AddsRows, AddsAllRows}
use Rattle.wc_io.proofs.RowLemmas.{failed_row_counts, failed_count_append, AddsAllRows_none, AddsAllRows_one, AddsAllRows_then, AddsRows_all, AddsRows_then}
use Rattle.wc_model.specs.declared.elf_image.Image.{Image}
use Rattle.wc_model.specs.declared.flow_facts.Fact.{Fact}
use Rattle.wc_model.specs.declared.machine.Hardware.{Hardware}
use Rattle.wc_model.specs.Workspace.Hardware.{default_hardware}
use Rattle.wcet.specs.declared.loading.Unloaded.{Unloaded}
use Rattle.wcet.specs.declared.loading.Unloaded.TheVariants.{ReadFault, Refused, Memory}
use Rattle.wcet.specs.Files.{MayBe, Holds, Within, ImageSays, TimingSays, FactsSay, FileSays, OptionalSays, BinarySays, HardwareSays, FactsFileSays, optional_path, paths_of, of_binary, of_hardware, of_facts}
use Rattle.wcet.specs.Loading.{Decodes, AreBytes, LoadsFile, LoadsOptional, Loads, OpensAll, OpensSome, IsUnfinished, at_binary, at_hardware, at_facts, past_files, binary_unread, hardware_unread, facts_unread}
use Rattle.wcet.specs.Words.{Paths}

-- the bytes that were read are those that are told
pub may_be : (told : Option (List ℕ)) (tells : Bool) (bytes : List ℕ) → IfSome told (λ all. bytes ≡ all) → (IsTrue tells → IsSome told) → MayBe told tells bytes
may_be (Some all) tells bytes same there = same
may_be None true bytes same there = let none : false ≡ true = there refl in cc
may_be None false bytes same there = tt

-- some bytes of a long file
pub long_bytes : (told : Option (List ℕ)) (tells : Bool) (most : ℕ) → IfSome told (λ all. most < length all) → (IsTrue tells → IsSome told) → (bytes : List ℕ) × MayBe told tells bytes × (most < length bytes)
long_bytes (Some all) tells most long there = (all, refl, long)
long_bytes None true most long there = let none : false ≡ true = there refl in cc
long_bytes None false most long there = (replicate (suc most) 0, tt, omega (arith, length-replicate {A = ℕ} (suc most) 0))

pub decoded : {T : Type 0} (holds : List ℕ → Type 0) (word : FileWord) (says : List ℕ → Result T FaultCode → Type 0) (path : List ℕ) (old new : List Row) (bytes : Vec ℕ Global) (result : Result T Unloaded)
    → LoadsFile holds (Within word AreBytes) path old new (Ok bytes) → Decodes says bytes.items result → LoadsFile holds (Within word says) path old new result
decoded holds word says path old new bytes (Ok x) read is = (read.0, (read.1.0, read.1.1, (read.1.2.0, subst (λ (b : List ℕ). says b (Ok x)) read.1.2.1 is)))
decoded holds word says path old new bytes (Err ReadFault) read is = absurd is
decoded holds word says path old new bytes (Err (Refused fault)) read is = (read.0, (read.1.0, read.1.1, inr (read.1.2.0, subst (λ (b : List ℕ). says b (Err fault)) read.1.2.1 is)))
decoded holds word says path old new bytes (Err Memory) read is = inr read.0

-- bytes that weren't read aren't decoded
pub unread_bytes : {T : Type 0} (holds : List ℕ → Type 0) (word : FileWord) (says : List ℕ → Result T FaultCode → Type 0) (path : List ℕ) (old new : List Row) (unloaded : Unloaded)
    → LoadsFile holds (Within word AreBytes) path old new (Err unloaded) → LoadsFile holds (Within word says) path old new (Err unloaded)
unread_bytes holds word says path old new ReadFault row = row
unread_bytes holds word says path old new (Refused fault) (row, (bytes, may, inl long)) = (row, (bytes, may, inl long))
unread_bytes holds word says path old new (Refused fault) (row, (bytes, may, inr (short, none))) = absurd none
unread_bytes holds word says path old new Memory rows = rows

-- what is known after a call that changed no file
file_says : {T : Type 0} (holds kept : List ℕ → Type 0) (says : List ℕ → Result T FaultCode → Type 0) (result : Result T FaultCode) → ((bytes : List ℕ) → kept bytes → holds bytes) → FileSays kept says result → FileSays holds says result
file_says holds kept says result same is = (is.0, same is.0 is.1, is.2)

pub holds_before : (files kept : List ℕ → Option (List ℕ)) (tells still : Bool) → ((p : List ℕ) → kept p ≡ files p) → still ≡ tells → (path bytes : List ℕ) → Holds still kept path bytes → Holds tells files path bytes
holds_before files kept tells still same_files same_tells path bytes is = subst (λ (t : Bool). MayBe (files path) t bytes) same_tells (subst (λ (o : Option (List ℕ)). MayBe o still bytes) (same_files path) is)

pub optional_before : {T : Type 0} (holds kept : List ℕ → List ℕ → Type 0) → ((path bytes : List ℕ) → kept path bytes → holds path bytes) → (absent : T) (says : List ℕ → Result T FaultCode → Type 0) (path : Option (List ℕ)) (result : Result T FaultCode)
    → OptionalSays kept absent says path result → OptionalSays holds absent says path result
optional_before holds kept same absent says None result is = is
optional_before holds kept same absent says (Some path) result is = file_says (holds path) (kept path) says result (same path) is

-- Rows of paths that follow one another.

-- one row, of a source that was opened
one_row : (path : List ℕ) (old new : List Row) → AddsSourceRow path old new → OpensAll (path ∷ []) old new
one_row path old new row = AddsAllRows_one path false row.0 old new row.1

pub failed_row : (path : List ℕ) (old new : List Row) → new ≡ old ++ row_failed path false true ∷ [] → OpensAll (path ∷ []) old new
failed_row path old new row = AddsAllRows_one path false true old new row

abbrev as_source : List ℕ → List ℕ × Bool
as_source path = (path, false)

then_all : (paths later : List (List ℕ)) (old middle new : List Row) → OpensAll paths old middle → OpensAll later middle new → OpensAll (paths ++ later) old new
then_all paths later old middle new first second =
    subst (λ (ps : List (List ℕ × Bool)). AddsAllRows ps old new) (sym (map-append as_source paths later)) (AddsAllRows_then (map as_source paths) (map as_source later) old middle new first second)

then_some : (paths later : List (List ℕ)) (old middle new : List Row) → OpensAll paths old middle → OpensSome later middle new → OpensSome (paths ++ later) old new
then_some paths later old middle new first second =
    subst (λ (ps : List (List ℕ × Bool)). AddsRows ps old new) (sym (map-append as_source paths later)) (AddsRows_then (map as_source paths) (map as_source later) old middle new first second)

pub all_some : (paths later : List (List ℕ)) (old new : List Row) → OpensAll paths old new → OpensSome (paths ++ later) old new
all_some paths later old new rows = subst (λ (ps : List (List ℕ × Bool)). AddsRows ps old new) (sym (map-append as_source paths later)) (AddsRows_all (map as_source paths) (map as_source later) old new rows)

pub all_rows : (paths : List (List ℕ)) (old new : List Row) → OpensAll paths old new → OpensSome paths old new
all_rows paths old new rows = subst (λ (ps : List (List ℕ)). OpensSome ps old new) (append-nil paths) (all_some paths [] old new rows)

-- the first of some paths are the first of more paths
pub take_more : (n : ℕ) (xs ys : List (List ℕ × Bool)) → (m : ℕ) × (take n xs ≡ take m (xs ++ ys))
take_more zero xs ys = (0, refl)
take_more (suc n) [] ys = (0, refl)
take_more (suc n) (x ∷ xs) ys = let more = take_more n xs ys in (suc more.0, ap (λ (zs : List (List ℕ × Bool)). x ∷ zs) more.1)

pub some_more : (paths later : List (List ℕ)) (old new : List Row) → OpensSome paths old new → OpensSome (paths ++ later) old new
some_more paths later old new (rows, is, (n, first)) =
    let more = take_more n (map as_source paths) (map as_source later) in
    (rows, is, (more.0, first ∙ more.1 ∙ ap (take more.0) (sym (map-append as_source paths later))))

no_rows : (paths : List (List ℕ)) (rows : List Row) → OpensSome paths rows rows
no_rows paths rows = all_some [] paths rows rows (AddsAllRows_none rows)

-- rows that are added take nothing from the count
pub count_kept : (paths : List (List ℕ)) (old new : List Row) → OpensAll paths old new → failed_count false old ≤ failed_count false new
count_kept paths old new rows = omega (arith, ap (failed_count false) rows.1, failed_count_append false old rows.0)

-- A file that may be left out.

given : {T : Type 0} (holds : List ℕ → List ℕ → Type 0) (absent : T) (says : List ℕ → Result T FaultCode → Type 0) (path : List ℕ) (old new : List Row) (result : Result T Unloaded)
    → LoadsFile (holds path) says path old new result → LoadsOptional (OptionalSays holds absent says) (Some path) old new result
given holds absent says path old new (Ok x) read = (one_row path old new read.0, read.1)
given holds absent says path old new (Err ReadFault) row = (path, refl, row)
given holds absent says path old new (Err (Refused fault)) read = (one_row path old new read.0, read.1)
given holds absent says path old new (Err Memory) (inl none) = subst (λ (rows : List Row). OpensSome (path ∷ []) old rows) (sym none) (no_rows (path ∷ []) old)
given holds absent says path old new (Err Memory) (inr row) = all_rows (path ∷ []) old new (one_row path old new row)

pub given_path : {T : Type 0} (holds : List ℕ → List ℕ → Type 0) (absent : T) (says : List ℕ → Result T FaultCode → Type 0) (word : Option (List ℕ)) (path : List ℕ) (old new : List Row) (result : Result T Unloaded)
    → word ≡ Some path → LoadsFile (holds path) says path old new result → LoadsOptional (OptionalSays holds absent says) word old new result
given_path holds absent says word path old new result is read =
    subst (λ (p : Option (List ℕ)). LoadsOptional (OptionalSays holds absent says) p old new result) (sym is) (given holds absent says path old new result read)

-- the rows of a file that was asked for after others, where it couldn't be read
pub unread_rows : (before : List (List ℕ)) (path : Option (List ℕ)) (later : List (List ℕ)) (old middle new : List Row) (unread : List ℕ) → OpensAll before old middle → path ≡ Some unread → new ≡ middle ++ row_failed unread false true ∷ []
    → OpensSome (before ++ (optional_path path ++ later)) old new
unread_rows before path later old middle new unread read named row =
    subst (λ (p : Option (List ℕ)). OpensSome (before ++ (optional_path p ++ later)) old new) (sym named) (then_some before (unread ∷ later) old middle new read (all_some (unread ∷ []) later middle new (failed_row unread middle new row)))

pub last_unread : (before : List (List ℕ)) (path : Option (List ℕ)) (old middle new : List Row) (unread : List ℕ) → OpensAll before old middle → path ≡ Some unread → new ≡ middle ++ row_failed unread false true ∷ []
    → OpensSome (before ++ optional_path path) old new
last_unread before path old middle new unread read named row =
    subst (λ (ps : List (List ℕ)). OpensSome (before ++ ps) old new) (append-nil (optional_path path)) (unread_rows before path [] old middle new unread read named row)

-- The files of a call.

-- the binary wasn't loaded
pub first_stops : (holds : List ℕ → List ℕ → Type 0) (paths : Paths) (old new : List Row) (unloaded : Unloaded)
    → LoadsFile {T = Image} (holds paths.binary) (Within Binary ImageSays) paths.binary old new (Err unloaded) → Loads holds paths old new (Err unloaded)
first_stops holds paths old new ReadFault row = (
  failed_row_counts false old new paths.binary row,
  all_some (paths.binary ∷ []) (optional_path paths.hardware ++ optional_path paths.facts) old new (failed_row paths.binary old new row),
  binary_unread row,
)
first_stops holds paths old new (Refused fault) read = record { read = paths.binary ∷ []; first = of_binary fault read.1; opened = one_row paths.binary old new read.0 }
first_stops holds paths old new Memory (inl none) = at_binary (subst (λ (rows : List Row). OpensSome (paths.binary ∷ []) old rows) (sym none) (no_rows (paths.binary ∷ []) old))
first_stops holds paths old new Memory (inr row) = at_binary (all_rows (paths.binary ∷ []) old new (one_row paths.binary old new row))

-- the paths that were asked for until memory was short
pub unfinished_rows : (holds : List ℕ → List ℕ → Type 0) (paths : Paths) (old new : List Row) → IsUnfinished holds paths old new → OpensSome (paths_of paths) old new
unfinished_rows holds paths old new (at_binary rows) = some_more (paths.binary ∷ []) (optional_path paths.hardware ++ optional_path paths.facts) old new rows
unfinished_rows holds paths old new (at_hardware image middle is first rows) =
    then_some (paths.binary ∷ []) (optional_path paths.hardware ++ optional_path paths.facts) old middle new first (some_more (optional_path paths.hardware) (optional_path paths.facts) middle new rows)
unfinished_rows holds paths old new (at_facts image hardware middle is timing first rows) = then_some (paths.binary ∷ optional_path paths.hardware) (optional_path paths.facts) old middle new first rows
unfinished_rows holds paths old new (past_files loaded inputs rows) = all_rows (paths_of paths) old new rows

-- binary and hardware were loaded, and this is what they say
abbrev pub AreBoth : (List ℕ → List ℕ → Type 0) → Paths → List Row → List Row → Image → Hardware → Type 0
AreBoth holds paths old new image hardware = BinarySays holds paths.binary (Ok image) × HardwareSays holds paths.hardware (Ok hardware) × OpensAll (paths.binary ∷ optional_path paths.hardware) old new

timing_before : (holds kept : List ℕ → List ℕ → Type 0) → ((path bytes : List ℕ) → kept path bytes → holds path bytes) → (path : Option (List ℕ)) (result : Result Hardware FaultCode) → HardwareSays kept path result → HardwareSays holds path result
timing_before holds kept same path result is = optional_before holds kept same default_hardware (Within HardwareFile TimingSays) path result is

facts_before : (holds kept : List ℕ → List ℕ → Type 0) → ((path bytes : List ℕ) → kept path bytes → holds path bytes) → (image : Image) (path : Option (List ℕ)) (result : Result (List Fact) FaultCode)
    → FactsFileSays kept image path result → FactsFileSays holds image path result
facts_before holds kept same image path result is = optional_before holds kept same [] (Within FactsFile (FactsSay image)) path result is

-- after the binary
module _ (holds kept : List ℕ → List ℕ → Type 0) (same : (path bytes : List ℕ) → kept path bytes → holds path bytes) (paths : Paths) (old middle new : List Row) (image : Image) (loaded : LoadsFile (holds paths.binary) (Within Binary ImageSays) paths.binary old middle (Ok image)) where
  first_read : OpensAll (paths.binary ∷ []) old middle
  first_read = one_row paths.binary old middle loaded.0

  pub second_stops : (unloaded : Unloaded) → LoadsOptional {T = Hardware} (HardwareSays kept) paths.hardware middle new (Err unloaded) → Loads holds paths old new (Err unloaded)
  second_stops ReadFault (unread, named, row) = (
    omega (arith, count_kept (paths.binary ∷ []) old middle first_read, failed_row_counts false middle new unread row),
    unread_rows (paths.binary ∷ []) paths.hardware (optional_path paths.facts) old middle new unread first_read named row,
    hardware_unread image unread middle loaded.1 named first_read row,
  )
  second_stops (Refused fault) (rows, says) = record {
    read = paths.binary ∷ optional_path paths.hardware;
    first = of_hardware fault image loaded.1 (timing_before holds kept same paths.hardware (Err fault) says);
    opened = then_all (paths.binary ∷ []) (optional_path paths.hardware) old middle new first_read rows;
  }
  second_stops Memory rows = at_hardware image middle loaded.1 first_read rows

  pub both_loaded : (hardware : Hardware) → LoadsOptional (HardwareSays kept) paths.hardware middle new (Ok hardware) → AreBoth holds paths old new image hardware
  both_loaded hardware (rows, says) = (loaded.1, timing_before holds kept same paths.hardware (Ok hardware) says, then_all (paths.binary ∷ []) (optional_path paths.hardware) old middle new first_read rows)

-- after binary and hardware
module _ (holds kept : List ℕ → List ℕ → Type 0) (same : (path bytes : List ℕ) → kept path bytes → holds path bytes) (paths : Paths) (old middle new : List Row) (image : Image) (hardware : Hardware) (both : AreBoth holds paths old middle image hardware) where
  abbrev before : List (List ℕ)
  before = paths.binary ∷ optional_path paths.hardware

  pub third_stops : (unloaded : Unloaded) → LoadsOptional {T = List Fact} (FactsFileSays kept image) paths.facts middle new (Err unloaded) → Loads holds paths old new (Err unloaded)
  third_stops ReadFault (unread, named, row) = (
    omega (arith, count_kept before old middle both.2, failed_row_counts false middle new unread row),
    last_unread before paths.facts old middle new unread both.2 named row,
    facts_unread image hardware unread middle both.0 both.1 named both.2 row,
  )
  third_stops (Refused fault) (rows, says) = record {
    read = paths_of paths;
    first = of_facts fault image hardware both.0 both.1 (facts_before holds kept same image paths.facts (Err fault) says);
    opened = then_all before (optional_path paths.facts) old middle new both.2 rows;
  }
  third_stops Memory rows = at_facts image hardware middle both.0 both.1 both.2 rows

  pub all_loaded : (facts : Vec Fact Global) → LoadsOptional (FactsFileSays kept image) paths.facts middle new (Ok facts.items) → Loads holds paths old new (Ok (record { image = image; hardware = hardware; facts = facts }))
  all_loaded facts (rows, says) = (
    record { image = both.0; timing = both.1; facts = facts_before holds kept same image paths.facts (Ok facts.items) says },
    then_all before (optional_path paths.facts) old middle new both.2 rows,
  )
