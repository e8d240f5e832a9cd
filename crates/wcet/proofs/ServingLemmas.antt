-- What a session leaves, from what opening, running and giving back say.
use Rattle.std.proofs.Common.{◌≡◌, ℕ, suc, ◌+◌, ◌-◌, nat_lt, Bool, true, false, List, [], ◌∷◌, ◌++◌, map, length, take, Option, None, Some, IfSome, IsSome, Result, Ok, Err, refl, sym, ap, subst, ◌∙◌, inl, inr, arith}
use Rattle.std.specs.Prelude.{IsTrue, option_map}
use Rattle.std.specs.Io.KnownBytes.{Appends}
use Rattle.wc_io.specs.Causes.{Rose, HasCause}
use Rattle.wc_io.specs.Lines.{lines_of}
use Rattle.wc_io.specs.Rows.{Row, row_failed, marked, sink_at, path_at, IsRowOf}
use Rattle.wc_io.specs.Telling.{TellsFile}
use Rattle.wc_io.specs.Writing.{Writes}
use Rattle.wc_io.proofs.RowLemmas.{marked_behind, rose_above}
use Rattle.wc_model.specs.declared.elf_image.Image.{Image}
use Rattle.wc_model.specs.declared.entries.Ended.{Ended}
use Rattle.wc_model.specs.declared.entries.Ended.TheVariants as ended
use Rattle.wc_model.specs.declared.entries.Entry.{Entry}
use Rattle.wc_model.specs.declared.entries.Entry.TheVariants as entry
use Rattle.wc_model.specs.declared.inputs.Edit.{Edit}
use Rattle.wc_model.specs.declared.values.Outcome.TheVariants as outcome
use Rattle.wc_model.specs.Workspace.Edits.{edit_of, after_edits}
use Rattle.wc_model.specs.Workspace.History.{EachRight, IsRight}
use Rattle.wc_session.specs.Served.{Gains}
use Rattle.wcet.specs.declared.loading.Loaded.{Loaded}
use Rattle.wcet.specs.Answers.{Shows}
use Rattle.wcet.specs.Opening.{session_rows}
use Rattle.wcet.specs.ServeCall.{IsEmptied}
use Rattle.wcet.specs.Chained.{covers}
use Rattle.wc_model.specs.Workspace.Chain.{chain}
use Rattle.wcet.specs.Session.{IsRun, IsSessionOver, opening_of}
use Rattle.wcet.proofs.ChainLemmas.{chain_covers}

covered : (image : Image) (edits : List Edit) (e : Entry) → IsRight chain image edits e → IsRight covers image edits e
covered image edits (entry.Answer session name at (outcome.Bound bound)) right = chain_covers (after_edits image at edits) name (outcome.Bound bound) right
covered image edits (entry.Answer session name at (outcome.Fault fault)) right = tt
covered image edits (entry.Answer session name at outcome.Memory) right = tt
covered image edits (entry.Edit _ _ _) right = tt
covered image edits (entry.NoFact _ _ _) right = tt
covered image edits (entry.Pin _ _ _) right = tt
covered image edits (entry.Start _ _ _ _) right = tt
covered image edits (entry.Finish _ _ _ _ _) right = tt
covered image edits (entry.List _ _) right = tt

pub all_covered : (image : Image) (edits : List Edit) (es : List Entry) → EachRight chain image edits es → EachRight covers image edits es
all_covered image edits [] right = tt
all_covered image edits (e ∷ es) right = (covered image edits e right.0, all_covered image (edits ++ edit_of e) es right.1)

-- Rows.

-- the places of a session's rows
first_at : (rows : List Row) (input output : List ℕ) → sink_at (length rows) (rows ++ session_rows input output 0 0) ≡ Some false
first_at [] input output = refl
first_at (r ∷ rs) input output = first_at rs input output

second_at : (rows : List Row) (input output : List ℕ) → sink_at (suc (length rows)) (rows ++ session_rows input output 0 0) ≡ Some true
second_at [] input output = refl
second_at (r ∷ rs) input output = second_at rs input output

second_path : (rows : List Row) (input output : List ℕ) → path_at (suc (length rows)) (rows ++ session_rows input output 0 0) ≡ output
second_path [] input output = refl
second_path (r ∷ rs) input output = second_path rs input output

pub source_row : (old opened : List Row) (input output : List ℕ) (place : ℕ) → opened ≡ old ++ session_rows input output 0 0 → place ≡ length old + 1 → IsRowOf place false opened
source_row old opened input output place is at =
    let i : place - 1 ≡ length old = omega (arith, at) in
    (omega (arith, at), ap (sink_at (place - 1)) is ∙ ap (λ (k : ℕ). sink_at k (old ++ session_rows input output 0 0)) i ∙ first_at old input output)

pub sink_row : (old opened : List Row) (input output : List ℕ) (place : ℕ) → opened ≡ old ++ session_rows input output 0 0 → place ≡ length old + 2 → IsRowOf place true opened
sink_row old opened input output place is at =
    let i : place - 1 ≡ suc (length old) = omega (arith, at) in
    (omega (arith, at), ap (sink_at (place - 1)) is ∙ ap (λ (k : ℕ). sink_at k (old ++ session_rows input output 0 0)) i ∙ second_at old input output)

pub sink_path : (old opened : List Row) (input output : List ℕ) (place : ℕ) → opened ≡ old ++ session_rows input output 0 0 → place ≡ length old + 2 → path_at (place - 1) opened ≡ output
sink_path old opened input output place is at =
    let i : place - 1 ≡ suc (length old) = omega (arith, at) in
    ap (path_at (place - 1)) is ∙ ap (λ (k : ℕ). path_at k (old ++ session_rows input output 0 0)) i ∙ second_path old input output

-- the rows once both came back
pub rows_back : (old opened new : List Row) (input output : List ℕ) (source reads sink writes : ℕ) → opened ≡ old ++ session_rows input output 0 0 → source ≡ length old + 1 → sink ≡ length old + 2
    → new ≡ marked (sink - 1) writes (marked (source - 1) reads opened) → new ≡ old ++ session_rows input output reads writes
rows_back old opened new input output source reads sink writes is at_source at_sink marks =
    let i : source - 1 ≡ length old + 0 = omega (arith, at_source) in
    let j : sink - 1 ≡ length old + 1 = omega (arith, at_sink) in
    marks ∙ ap (λ (rows : List Row). marked (sink - 1) writes (marked (source - 1) reads rows)) is
    ∙ ap (λ (k : ℕ). marked (sink - 1) writes (marked k reads (old ++ session_rows input output 0 0))) i
    ∙ ap (marked (sink - 1) writes) (marked_behind old (session_rows input output 0 0) 0 reads)
    ∙ ap (λ (k : ℕ). marked k writes (old ++ session_rows input output reads 0)) j
    ∙ marked_behind old (session_rows input output reads 0) 1 writes

-- the replies that a told sink gained are told
now_told : (held now : Option (List ℕ)) (text : List ℕ) → held ≡ Some [] → Appends held now text → (bytes : List ℕ) × (now ≡ Some bytes)
now_told None now text is written = absurd (cc)
now_told (Some xs) None text is written = absurd written
now_told (Some xs) (Some bytes) text is written = (bytes, refl)

gained_told : (end : Ended) (held now : Option (List ℕ)) (text : List ℕ) → held ≡ Some [] → Gains end held now text → (bytes : List ℕ) × (now ≡ Some bytes)
gained_told ended.WriteFault held now text is (n, few, written) = now_told held now (take n text) is written
gained_told ended.Quit held now text is written = now_told held now text is written
gained_told ended.End held now text is written = now_told held now text is written
gained_told ended.TooMuch held now text is written = now_told held now text is written
gained_told ended.ReadFault held now text is written = now_told held now text is written

-- what a sink that came back leaves in its file
pub file_back : (between now : List ℕ → Option (List ℕ)) (held : Option (List ℕ)) (path output : List ℕ) (bytes : List ℕ) → path ≡ output
    → IfSome (between path) (λ _. IfSome held (λ b. now path ≡ Some b)) → between output ≡ Some [] → held ≡ Some bytes → now output ≡ held
file_back between now held path output bytes is file empty told =
    let there = subst (λ (o : Option (List ℕ)). IfSome o (λ _. IfSome held (λ b. now output ≡ Some b))) empty (subst (λ (p : List ℕ). IfSome (between p) (λ _. IfSome held (λ b. now p ≡ Some b))) is file) in
    subst (λ (o : Option (List ℕ)). IfSome o (λ b. now output ≡ Some b)) told there ∙ sym told

module _ (tells : Bool) (files between now : List ℕ → Option (List ℕ)) (input output : List ℕ) (old opened new : List Row) (is : opened ≡ old ++ session_rows input output 0 0) (emptied : TellsFile tells (files output) → between output ≡ Some []) where
  module _ (source reads sink writes : ℕ) (at_source : source ≡ length old + 1) (at_sink : sink ≡ length old + 2) (marks : new ≡ marked (sink - 1) writes (marked (source - 1) reads opened)) (held replies : Option (List ℕ)) (empty : TellsFile tells (files output) → held ≡ Some [])
      (file : IfSome (between (path_at (sink - 1) opened)) (λ _. IfSome replies (λ b. now (path_at (sink - 1) opened) ≡ Some b))) where
    pub session_over : (loaded : Loaded) (history : List Entry) (end : Ended) (left : Option (List ℕ)) (reads_before writes_before : ℕ) → reads_before ≡ 0 → writes_before ≡ 0
        → (IsTrue tells → IsSome (files input)) → IfSome (files input) (λ bytes. left ≡ Some bytes)
        → (end ≡ ended.ReadFault → Rose reads_before reads) → (end ≡ ended.WriteFault → Rose writes_before writes)
        → IsRun chain (opening_of loaded) (option_map lines_of left) held replies history end
        → IsSessionOver loaded tells files now input output old new history end
    session_over loaded history end left reads_before writes_before no_reads no_writes there script_here read write run = record {
      script = option_map lines_of left;
      script_is = scripted (files input) script_here;
      script_told = there;
      held = held;
      replies = replies;
      empty = empty;
      output_is = λ told. let bytes = gained_told end held replies run.served.text (empty told) run.served.written in file_back between now replies (path_at (sink - 1) opened) output bytes.0 (sink_path old opened input output sink is at_sink) file (emptied told) bytes.1;
      run = run;
      bounds = all_covered loaded.image [] history run.legal.answers;
      read_failed = nat_lt 0 reads;
      write_failed = nat_lt 0 writes;
      rows = rows_back old opened new input output source reads sink writes is at_source at_sink marks;
      read_fault = λ e. rose_above reads_before reads no_reads (read e);
      write_fault = λ e. rose_above writes_before writes no_writes (write e);
    }
      where
        scripted : (file : Option (List ℕ)) → IfSome file (λ bytes. left ≡ Some bytes) → IfSome file (λ bytes. option_map lines_of left ≡ Some (lines_of bytes))
        scripted None told = tt
        scripted (Some bytes) told = ap (option_map lines_of) told

    -- both came back without a session
    pub nothing_ran : reads ≡ 0 → writes ≡ 0 → replies ≡ held → (new ≡ old ++ row_failed input false false ∷ row_failed output true false ∷ []) × IsEmptied tells files now output
    nothing_ran no_reads no_writes same = (
      rows_back old opened new input output source reads sink writes is at_source at_sink marks ∙ ap (λ (n : ℕ). old ++ session_rows input output n writes) no_reads ∙ ap (λ (n : ℕ). old ++ session_rows input output 0 n) no_writes,
      λ told. file_back between now replies (path_at (sink - 1) opened) output [] (sink_path old opened input output sink is at_sink) file (emptied told) (same ∙ empty told) ∙ same ∙ empty told,
    )

-- a line that was written, or not wholly
pub shows_written : {E : Type 0} (result : Result (Unit {0}) E) (old new : Option (List ℕ)) (before now : ℕ) (line : List ℕ) → Writes old new result line → HasCause before now result → Shows old new before now line
shows_written (Ok _) old new before now line text cause = inl text
shows_written (Err _) old new before now line text cause = inr (text, cause.failed)
