-- What a call of `serve` answers before it prints, from what loading its files and running over them say.
use Rattle.std.proofs.Common.{◌≡◌, ℕ, ◌<◌, Bool, true, false, List, [], ◌∷◌, ◌++◌, map, take, Option, Some, IfSome, IsSome, Result, Ok, Err, sym, ap, subst, ◌∙◌, inl, inr, arith}
use Rattle.std.specs.Prelude.{IsTrue}
use Rattle.wc_io.specs.Lines.{lines_of}
use Rattle.wc_io.specs.Rows.{Row, row_failed, asked, failed_count, AddsRows}
use Rattle.wc_io.specs.Telling.{TellsFile}
use Rattle.wc_io.proofs.RowLemmas.{failed_row_counts, failed_count_append, AddsRows_then}
use Rattle.wc_model.specs.declared.entries.Ended.{Ended}
use Rattle.wc_model.specs.declared.entries.Entry.{Entry}
use Rattle.wcet.specs.declared.loading.Loaded.{Loaded}
use Rattle.wcet.specs.declared.loading.Unloaded.{Unloaded}
use Rattle.wcet.specs.declared.loading.Unloaded.TheVariants as unloaded
use Rattle.wcet.specs.declared.opening.Unopened.{Unopened}
use Rattle.wcet.specs.declared.opening.Unopened.TheVariants as unopened
use Rattle.wcet.specs.declared.serve.Served.{Served}
use Rattle.wcet.specs.declared.serve.Unserved.{Unserved}
use Rattle.wcet.specs.declared.serve.Unserved.TheVariants.{Unloaded as NotLoaded, WriteFault}
use Rattle.wcet.specs.Files.{Holds, optional_path, paths_of}
use Rattle.wcet.specs.Loading.{IsUnread, binary_unread, hardware_unread, facts_unread, past_files, Loads, OpensAll, OpensSome}
use Rattle.wcet.specs.Opening.{OpensBoth}
use Rattle.wcet.specs.ServeCall.{AfterFiles, AreKept, RunsLoaded, Serves, serve_paths, unserved_by}
use Rattle.wcet.specs.Session.{IsSessionOver}
use Rattle.wcet.specs.Words.{Paths}
use Rattle.wcet.proofs.LoadingLemmas.{all_some, count_kept, failed_row, last_unread, take_more, unread_rows}

-- neither was opened, or not both of them
pub not_opened : (loaded : Loaded) (tells : Bool) (files now : List ℕ → Option (List ℕ)) (input output : List ℕ) (old new : List Row) (error : Unopened) (unserved : Unserved)
    → unserved ≡ unserved_by error → OpensBoth {T = Unit {0}} input output old new (Err error) → AreKept files now → RunsLoaded loaded tells files now input output old new (Err unserved)
not_opened loaded tells files now input output old new error unserved is rows kept = subst (λ (u : Unserved). RunsLoaded loaded tells files now input output old new (Err u)) (sym is) (by error rows)
  where
    by : (e : Unopened) → OpensBoth {T = Unit {0}} input output old new (Err e) → RunsLoaded loaded tells files now input output old new (Err (unserved_by e))
    by unopened.ReadFault row = (row, kept)
    by unopened.WriteFault row = (row, kept)
    by unopened.Memory rows = inl (rows, kept)

-- what is known after calls that changed no file
module _ (tells still : Bool) (files kept now : List ℕ → Option (List ℕ)) (same_files : (p : List ℕ) → kept p ≡ files p) (same_tells : still ≡ tells) where
  before_told : IsTrue tells → IsTrue still
  before_told told = subst (λ (t : Bool). IsTrue t) (sym same_tells) told

  file_told : (path : List ℕ) → TellsFile tells (files path) → TellsFile still (kept path)
  file_told path (inl all) = inl (before_told all)
  file_told path (inr one) = inr (subst (λ (o : Option (List ℕ)). IsSome o) (sym (same_files path)) one)

  session_before : (loaded : Loaded) (input output : List ℕ) (old new : List Row) (history : List Entry) (end : Ended)
      → IsSessionOver loaded still kept now input output old new history end → IsSessionOver loaded tells files now input output old new history end
  session_before loaded input output old new history end s = record {
    script = s.script;
    script_is = subst (λ (o : Option (List ℕ)). IfSome o (λ bytes. s.script ≡ Some (lines_of bytes))) (same_files input) s.script_is;
    script_told = λ told. subst (λ (o : Option (List ℕ)). IsSome o) (same_files input) (s.script_told (before_told told));
    held = s.held;
    replies = s.replies;
    empty = λ told. s.empty (file_told output told);
    output_is = λ told. s.output_is (file_told output told);
    run = s.run;
    bounds = s.bounds;
    read_failed = s.read_failed;
    write_failed = s.write_failed;
    rows = s.rows;
    read_fault = s.read_fault;
    write_fault = s.write_fault;
  }

  kept_before : AreKept kept now → AreKept files now
  kept_before same p = same p ∙ same_files p

  module _ (paths : Paths) (input output : List ℕ) (old middle new : List Row) (loaded : Loaded) (loads : Loads (Holds tells files) paths old middle (Ok loaded)) where
    after_files : (rows : List Row) → new ≡ middle ++ rows → AfterFiles (Holds tells files) paths old new rows
    after_files rows is = record { loaded = loaded; inputs = loads.0; before = middle; opened = loads.1; behind = is }

    pub over_loaded : (result : Result Served Unserved) → RunsLoaded loaded still kept now input output middle new result → Serves tells files now paths input output old new result
    over_loaded (Ok served) (session, runs, kinds) = (
      record {
        loaded = loaded;
        inputs = loads.0;
        before = middle;
        opened = loads.1;
        session = session_before loaded input output middle new served.history.items served.ended session;
      },
      runs,
      kinds,
    )
    over_loaded (Err WriteFault) (row, same) = (after_files (row_failed input false false ∷ row_failed output true true ∷ []) row, kept_before same)
    over_loaded (Err (NotLoaded unloaded.ReadFault)) (row, same) = (inr (after_files (row_failed input false true ∷ []) row), kept_before same)
    over_loaded (Err (NotLoaded (unloaded.Refused fault))) runs = absurd runs
    over_loaded (Err (NotLoaded unloaded.Memory)) (inl (inl none, same)) = inl (inl (past_files loaded loads.0 (subst (λ (rows : List Row). OpensAll (paths_of paths) old rows) (sym none) loads.1)), kept_before same)
    over_loaded (Err (NotLoaded unloaded.Memory)) (inl (inr row, same)) = inl (inr (after_files (row_failed input false false ∷ []) row), kept_before same)
    over_loaded (Err (NotLoaded unloaded.Memory)) (inr (row, empty)) =
        inr (after_files (row_failed input false false ∷ row_failed output true false ∷ []) row, λ told. empty (file_told output told))

-- paths that were asked for are the first of more paths
pub some_rows : (paths : Paths) (input output : List ℕ) (old new : List Row) → OpensSome (paths_of paths) old new → AddsRows (serve_paths paths input output) old new
some_rows paths input output old new (rows, is, (n, first)) =
    let more = take_more n (map (λ (path : List ℕ). (path, false)) (paths_of paths)) ((input, false) ∷ (output, true) ∷ []) in
    (rows, is, (more.0, first ∙ more.1))

-- a file that couldn't be read
pub unread_counts : (holds : List ℕ → List ℕ → Type 0) (paths : Paths) (old new : List Row) → IsUnread holds paths old new → failed_count false old < failed_count false new
unread_counts holds paths old new (binary_unread row) = failed_row_counts false old new paths.binary row
unread_counts holds paths old new (hardware_unread _ path middle _ _ read row) = omega (arith, count_kept (paths.binary ∷ []) old middle read, failed_row_counts false middle new path row)
unread_counts holds paths old new (facts_unread _ _ path middle _ _ _ read row) =
    omega (arith, count_kept (paths.binary ∷ optional_path paths.hardware) old middle read, failed_row_counts false middle new path row)

pub unread_opened : (holds : List ℕ → List ℕ → Type 0) (paths : Paths) (old new : List Row) → IsUnread holds paths old new → OpensSome (paths_of paths) old new
unread_opened holds paths old new (binary_unread row) = all_some (paths.binary ∷ []) (optional_path paths.hardware ++ optional_path paths.facts) old new (failed_row paths.binary old new row)
unread_opened holds paths old new (hardware_unread _ path middle _ named read row) = unread_rows (paths.binary ∷ []) paths.hardware (optional_path paths.facts) old middle new path read named row
unread_opened holds paths old new (facts_unread _ _ path middle _ _ named read row) = last_unread (paths.binary ∷ optional_path paths.hardware) paths.facts old middle new path read named row

-- rows behind those of the files
module _ (holds : List ℕ → List ℕ → Type 0) (paths : Paths) (old new rows : List Row) (after : AfterFiles holds paths old new rows) where
  pub after_counts : (sink : Bool) → failed_count sink rows ≡ 1 → failed_count sink old < failed_count sink new
  after_counts sink one =
      omega (arith, one, ap (failed_count sink) after.behind, failed_count_append sink after.before rows, ap (failed_count sink) after.opened.1, failed_count_append sink old after.opened.0)

  pub after_rows : (input output : List ℕ) (n : ℕ) → map asked rows ≡ take n ((input, false) ∷ (output, true) ∷ []) → AddsRows (serve_paths paths input output) old new
  after_rows input output n first =
      AddsRows_then (map (λ (path : List ℕ). (path, false)) (paths_of paths)) ((input, false) ∷ (output, true) ∷ []) old after.before new after.opened (rows, after.behind, (n, first))

-- a file wasn't loaded
pub not_loaded : (tells : Bool) (files now : List ℕ → Option (List ℕ)) (paths : Paths) (input output : List ℕ) (old new : List Row) (reason : Unloaded)
    → AreKept files now → Loads (Holds tells files) paths old new (Err reason) → Serves tells files now paths input output old new (Err (NotLoaded reason))
not_loaded tells files now paths input output old new unloaded.ReadFault kept loads = (inl loads.2, kept)
not_loaded tells files now paths input output old new (unloaded.Refused fault) kept loads = (loads, kept)
not_loaded tells files now paths input output old new unloaded.Memory kept loads = inl (inl loads, kept)
