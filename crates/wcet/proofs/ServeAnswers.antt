-- What each status of the command `serve` tells.
use Rattle.std.proofs.Common.{◌≡◌, ◌≢◌, ℕ, ◌<◌, ◌≤◌, Bool, true, false, List, [], ◌∷◌, ◌++◌, map, refl, sym, ap, ◌∙◌, subst, ◌⊎◌, ◌↔◌, inl, inr, arith}
use Rattle.std.specs.Prelude.{Option, Some, None, IfSome, codes}
use Rattle.std.specs.Io.KnownBytes.{Appends}
use Rattle.wc_base.specs.declared.faults.Fault.{Fault as FaultCode}
use Rattle.wc_io.specs.Causes.{Rose}
use Rattle.wc_io.specs.Rows.{Row, row_failed, failed_count, AddsRows}
use Rattle.wc_io.proofs.RowLemmas.{failed_count_append, AddsRows_then}
use Rattle.wc_model.specs.declared.entries.Ended.{Ended}
use Rattle.wc_model.specs.declared.entries.Ended.TheVariants as ended
use Rattle.wc_model.specs.declared.entries.Entry.{Entry}
use Rattle.wcet.specs.declared.loading.Unloaded.TheVariants as unloaded
use Rattle.wcet.specs.declared.serve.Unserved.{Unserved}
use Rattle.wcet.specs.declared.serve.Unserved.TheVariants.{Unloaded as NotLoaded, WriteFault}
use Rattle.wcet.specs.Answers.{Shows}
use Rattle.wcet.specs.Files.{Holds, IsTold, IsFirstFault, paths_of}
use Rattle.wc_report.specs.ReportText.{printed as report_text}
use Rattle.wcet.specs.ServeCall.{AreKept, Prevents, unserved_line, unserved_status, Reports, IsHeadline, IsUnserved, IsDone, ShowsReport, RefusesFile, HasFaultyFile, HasSoundFiles, OpensInOrder, KeepsFiles, serve_paths}
use Rattle.wcet.specs.Session.{IsSession}
use Rattle.wcet.specs.Starts.{all_starts, bound_runs}
use Rattle.wcet.specs.Words.{IsServeCall, IsFaultyServe, optional_word, Paths}
use Rattle.wcet.proofs.BoundAnswers.{fault_rows, same_optional, same_paths}
use Rattle.wcet.proofs.LoadingLemmas.{unfinished_rows}
use Rattle.wcet.proofs.CallLemmas.{after_counts, after_rows, some_rows, unread_counts, unread_opened}
use Rattle.wcet.proofs.OneAnswer.{inputs_faultless, told_fault}

named_path : (h : Option (List ℕ)) (output : List ℕ) → IfSome h (λ path. (path ≢ codes "-") × (output ≢ path)) → IfSome h (λ path. path ≢ codes "-")
named_path None output is = tt
named_path (Some path) output is = is.0

-- words name one list of files, one script and one output
same_serve : (words : List (List ℕ)) (p q : Paths) (i j o k : List ℕ) → IsServeCall words p i o → IsServeCall words q j k → (P : Paths → List ℕ → List ℕ → Type 0) → P p i o → P q j k
same_serve words p q i j o k one other P holds =
    let form = sym one.form ∙ other.form in
    let binaries : p.binary ≡ q.binary = cc in
    let flows : optional_word p.facts ≡ optional_word q.facts = cc in
    let timings : optional_word p.hardware ≡ optional_word q.hardware = cc in
    let inputs : i ≡ j = cc in
    let outputs : o ≡ k = cc in
    same_paths p q binaries
    (same_optional p.hardware q.hardware (named_path p.hardware o one.hardware) (named_path q.hardware k other.hardware) timings)
    (same_optional p.facts q.facts (named_path p.facts o one.facts) (named_path q.facts k other.facts) flows)
    (λ ps. P ps j k) (subst (λ (x : List ℕ). P p j x) outputs (subst (λ (x : List ℕ). P p x o) inputs holds))

read_counts : (input output : List ℕ) (failed write : Bool) → failed ≡ true → failed_count false (row_failed input false failed ∷ row_failed output true write ∷ []) ≡ 1
read_counts input output true true is = refl
read_counts input output true false is = refl
read_counts input output false write is = absurd (cc)

write_counts : (input output : List ℕ) (failed read : Bool) → failed ≡ true → failed_count true (row_failed input false read ∷ row_failed output true failed ∷ []) ≡ 1
write_counts input output true true is = refl
write_counts input output true false is = refl
write_counts input output false read is = absurd (cc)

module _ (words : List (List ℕ)) (tells : Bool) (files now : List ℕ → Option (List ℕ)) (paths : Paths) (input output : List ℕ) (call : IsServeCall words paths input output) (old new : List Row) (held after : Option (List ℕ)) (before later status : ℕ) where
  -- A session was served.
  module _ (history : List Entry) (runs : ℕ) (runs_are : bound_runs runs ≡ all_starts history) where
    abbrev Session : Ended → Type 0
    Session end = IsSession tells files now paths input output old new history end

    abbrev Printed : Ended → Type 0
    Printed end = Reports (report_text history (bound_runs runs) (end ∷ [])) end held after before later status

    headline : (prints : List ℕ → Type 0) (end : Ended) → Session end → prints (report_text history (bound_runs runs) (end ∷ [])) → IsHeadline words tells files now old new prints end
    headline prints end s printed = record {
      paths = paths;
      input = input;
      output = output;
      call = call;
      history = history;
      session = s;
      printed = subst (λ (rs : List ℕ). prints (report_text history rs (end ∷ []))) runs_are printed;
    }

    shown : (end : Ended) → Printed end → Shows held after before later (report_text history (bound_runs runs) (end ∷ []))
    shown end printed = elim printed [ inl t ↦ inl t.1 | inr t ↦ inr (t.1, t.2) ]

    four : (end : Ended) → Printed end → ((status ≡ 0) ⊎ (status ≡ 4)) ⊎ ((status ≡ 3) ⊎ (status ≡ 7))
    four ended.Quit r = elim r [ inl t ↦ inl (inl t.0) | inr t ↦ inl (inr t.0) ]
    four ended.End r = elim r [ inl t ↦ inl (inl t.0) | inr t ↦ inl (inr t.0) ]
    four ended.TooMuch r = elim r [ inl t ↦ inr (inr t.0) | inr t ↦ inr (inr t.0) ]
    four ended.ReadFault r = elim r [ inl t ↦ inr (inl t.0) | inr t ↦ inr (inl t.0) ]
    four ended.WriteFault r = elim r [ inl t ↦ inl (inr t.0) | inr t ↦ inl (inr t.0) ]

    is_four : (n : ℕ) → n ≢ 0 → n ≢ 3 → n ≢ 4 → n ≢ 7 → (end : Ended) → Printed end → status ≡ n → ⊥
    is_four n a b c d end r z = elim (four end r) [ inl x ↦ elim x [ inl t ↦ a (sym z ∙ t) | inr t ↦ c (sym z ∙ t) ] | inr x ↦ elim x [ inl t ↦ b (sym z ∙ t) | inr t ↦ d (sym z ∙ t) ] ]

    counted : (sink : Bool) (rows middle : List Row) → (more : List Row) × (middle ≡ old ++ more) → new ≡ middle ++ rows → failed_count sink rows ≡ 1 → failed_count sink old < failed_count sink new
    counted sink rows middle (more, first) is one =
        omega (arith, one, ap (failed_count sink) is, failed_count_append sink middle rows, ap (failed_count sink) first, failed_count_append sink old more)

    read_rose : Session ended.ReadFault → failed_count false old < failed_count false new
    read_rose s = counted false (row_failed input false s.session.read_failed ∷ row_failed output true s.session.write_failed ∷ []) s.before (s.opened.0, s.opened.1) s.session.rows (read_counts input output s.session.read_failed s.session.write_failed (s.session.read_fault refl))

    write_rose : Session ended.WriteFault → failed_count true old < failed_count true new
    write_rose s = counted true (row_failed input false s.session.read_failed ∷ row_failed output true s.session.write_failed ∷ []) s.before (s.opened.0, s.opened.1) s.session.rows (write_counts input output s.session.write_failed s.session.read_failed (s.session.write_fault refl))

    pub ok_served : (end : Ended) → Session end → Printed end → status ≡ 0 → (e : Ended) × IsDone e × IsHeadline words tells files now old new (Appends held after) e
    ok_served ended.Quit s r z = (ended.Quit, tt, headline (Appends held after) ended.Quit s (elim r [ inl t ↦ t.1 | inr t ↦ absurd (omega (arith, t.0)) ]))
    ok_served ended.End s r z = (ended.End, tt, headline (Appends held after) ended.End s (elim r [ inl t ↦ t.1 | inr t ↦ absurd (omega (arith, t.0)) ]))
    ok_served ended.TooMuch s r z = absurd (elim r [ inl t ↦ omega (arith, t.0) | inr t ↦ omega (arith, t.0) ])
    ok_served ended.ReadFault s r z = absurd (elim r [ inl t ↦ omega (arith, t.0) | inr t ↦ omega (arith, t.0) ])
    ok_served ended.WriteFault s r z = absurd (elim r [ inl t ↦ omega (arith, t.0) | inr t ↦ omega (arith, t.0) ])

    pub not_two : (end : Ended) → Printed end → status ≡ 2 → ⊥
    not_two = is_four 2 (λ e. omega (arith, e)) (λ e. omega (arith, e)) (λ e. omega (arith, e)) (λ e. omega (arith, e))

    pub not_five : (end : Ended) → Printed end → status ≡ 5 → ⊥
    not_five = is_four 5 (λ e. omega (arith, e)) (λ e. omega (arith, e)) (λ e. omega (arith, e)) (λ e. omega (arith, e))

    pub not_six : (end : Ended) → Printed end → status ≡ 6 → ⊥
    not_six = is_four 6 (λ e. omega (arith, e)) (λ e. omega (arith, e)) (λ e. omega (arith, e)) (λ e. omega (arith, e))

    pub ok_usage : (end : Ended) → Printed end → (status ≡ 2) ↔ IsFaultyServe words
    ok_usage end r = (λ z. absurd (not_two end r z), λ faulty. absurd (faulty paths input output call))

    pub ok_read : (end : Ended) → Session end → Printed end → status ≡ 3 → failed_count false old < failed_count false new
    ok_read ended.ReadFault s r z = read_rose s
    ok_read ended.Quit s r z = absurd (elim r [ inl t ↦ omega (arith, t.0) | inr t ↦ omega (arith, t.0) ])
    ok_read ended.End s r z = absurd (elim r [ inl t ↦ omega (arith, t.0) | inr t ↦ omega (arith, t.0) ])
    ok_read ended.TooMuch s r z = absurd (elim r [ inl t ↦ omega (arith, t.0) | inr t ↦ omega (arith, t.0) ])
    ok_read ended.WriteFault s r z = absurd (elim r [ inl t ↦ omega (arith, t.0) | inr t ↦ omega (arith, t.0) ])

    pub ok_read_line : (end : Ended) → Session end → Printed end → status ≡ 3 → IsHeadline words tells files now old new (Shows held after before later) ended.ReadFault
    ok_read_line ended.ReadFault s r z = headline (Shows held after before later) ended.ReadFault s (shown ended.ReadFault r)
    ok_read_line ended.Quit s r z = absurd (elim r [ inl t ↦ omega (arith, t.0) | inr t ↦ omega (arith, t.0) ])
    ok_read_line ended.End s r z = absurd (elim r [ inl t ↦ omega (arith, t.0) | inr t ↦ omega (arith, t.0) ])
    ok_read_line ended.TooMuch s r z = absurd (elim r [ inl t ↦ omega (arith, t.0) | inr t ↦ omega (arith, t.0) ])
    ok_read_line ended.WriteFault s r z = absurd (elim r [ inl t ↦ omega (arith, t.0) | inr t ↦ omega (arith, t.0) ])

    pub ok_write : (end : Ended) → Session end → Printed end → status ≡ 4 → (failed_count true old < failed_count true new) ⊎ Rose before later
    ok_write ended.WriteFault s r z = inl (write_rose s)
    ok_write ended.Quit s r z = inr (elim r [ inl t ↦ absurd (omega (arith, t.0)) | inr t ↦ t.2 ])
    ok_write ended.End s r z = inr (elim r [ inl t ↦ absurd (omega (arith, t.0)) | inr t ↦ t.2 ])
    ok_write ended.TooMuch s r z = absurd (elim r [ inl t ↦ omega (arith, t.0) | inr t ↦ omega (arith, t.0) ])
    ok_write ended.ReadFault s r z = absurd (elim r [ inl t ↦ omega (arith, t.0) | inr t ↦ omega (arith, t.0) ])

    pub ok_write_line : (end : Ended) → Session end → Printed end → status ≡ 4 → (e : Ended) × IsHeadline words tells files now old new (ShowsReport e held after before later) e
    ok_write_line ended.WriteFault s r z = (ended.WriteFault, headline (ShowsReport ended.WriteFault held after before later) ended.WriteFault s (shown ended.WriteFault r))
    ok_write_line ended.Quit s r z = (ended.Quit, headline (ShowsReport ended.Quit held after before later) ended.Quit s (elim r [ inl t ↦ absurd (omega (arith, t.0)) | inr t ↦ (t.1, t.2) ]))
    ok_write_line ended.End s r z = (ended.End, headline (ShowsReport ended.End held after before later) ended.End s (elim r [ inl t ↦ absurd (omega (arith, t.0)) | inr t ↦ (t.1, t.2) ]))
    ok_write_line ended.TooMuch s r z = absurd (elim r [ inl t ↦ omega (arith, t.0) | inr t ↦ omega (arith, t.0) ])
    ok_write_line ended.ReadFault s r z = absurd (elim r [ inl t ↦ omega (arith, t.0) | inr t ↦ omega (arith, t.0) ])

    pub ok_many : (end : Ended) → Session end → Printed end → status ≡ 7 → IsHeadline words tells files now old new (Shows held after before later) ended.TooMuch
    ok_many ended.TooMuch s r z = headline (Shows held after before later) ended.TooMuch s (shown ended.TooMuch r)
    ok_many ended.Quit s r z = absurd (elim r [ inl t ↦ omega (arith, t.0) | inr t ↦ omega (arith, t.0) ])
    ok_many ended.End s r z = absurd (elim r [ inl t ↦ omega (arith, t.0) | inr t ↦ omega (arith, t.0) ])
    ok_many ended.ReadFault s r z = absurd (elim r [ inl t ↦ omega (arith, t.0) | inr t ↦ omega (arith, t.0) ])
    ok_many ended.WriteFault s r z = absurd (elim r [ inl t ↦ omega (arith, t.0) | inr t ↦ omega (arith, t.0) ])

    pub ok_bad_file : {A : Type 0} (end : Ended) → Session end → HasFaultyFile words files → A
    ok_bad_file end s t =
        absurd (inputs_faultless files tells paths s.loaded t.fault t.read s.inputs (same_serve words t.paths paths t.input input t.output output t.call call (λ p i o. IsFirstFault (IsTold files) p t.fault t.read) t.first))

    pub ok_complete : (end : Ended) → Session end → Printed end → failed_count false new ≡ failed_count false old → failed_count true new ≡ failed_count true old → (Rose before later → ⊥) → (status ≡ 0) ⊎ ((status ≡ 7) ⊎ (status ≡ 5))
    ok_complete ended.Quit s r reads writes quiet = inl (elim r [ inl t ↦ t.0 | inr t ↦ absurd (quiet t.2) ])
    ok_complete ended.End s r reads writes quiet = inl (elim r [ inl t ↦ t.0 | inr t ↦ absurd (quiet t.2) ])
    ok_complete ended.TooMuch s r reads writes quiet = inr (inl (elim r [ inl t ↦ t.0 | inr t ↦ t.0 ]))
    ok_complete ended.ReadFault s r reads writes quiet = absurd (let more = read_rose s in omega (arith, more, reads))
    ok_complete ended.WriteFault s r reads writes quiet = absurd (let more = write_rose s in omega (arith, more, writes))

    pub ok_known : (end : Ended) → Printed end → (status ≤ 7) × (status ≢ 1)
    ok_known end r = (
      elim (four end r) [ inl x ↦ elim x [ inl t ↦ omega (arith, t) | inr t ↦ omega (arith, t) ] | inr x ↦ elim x [ inl t ↦ omega (arith, t) | inr t ↦ omega (arith, t) ] ],
      is_four 1 (λ e. omega (arith, e)) (λ e. omega (arith, e)) (λ e. omega (arith, e)) (λ e. omega (arith, e)) end r,
    )

    pub ok_opened : (end : Ended) → Session end → OpensInOrder words old new
    ok_opened end s p i o other =
        same_serve words paths p input i output o call other (λ p i o. AddsRows (serve_paths p i o) old new)
        (AddsRows_then (map (λ (path : List ℕ). (path, false)) (paths_of paths)) ((input, false) ∷ (output, true) ∷ []) old s.before new s.opened (row_failed input false s.session.read_failed ∷ row_failed output true s.session.write_failed ∷ [], s.session.rows, (2, refl)))

  pub keeps : ((p : List ℕ) → p ≢ output → now p ≡ files p) → KeepsFiles words files now
  keeps others p i o other = same_serve words paths p input i output o call other (λ p i o. (p : List ℕ) → p ≢ o → now p ≡ files p) others

  -- No session was served.
  abbrev Why : Unserved → Type 0
  Why u = Prevents tells files now paths input output old new u

  abbrev Told : Unserved → Type 0
  Told u = IsUnserved words tells files now old new u

  told : (u : Unserved) → Why u → Told u
  told u why = record { paths = paths; input = input; output = output; call = call; prevents = why }

  pub err_opened : (u : Unserved) → Why u → OpensInOrder words old new
  err_opened u why p i o other = same_serve words paths p input i output o call other (λ p i o. AddsRows (serve_paths p i o) old new) (by u why)
    where
      by : (x : Unserved) → Why x → AddsRows (serve_paths paths input output) old new
      by WriteFault w = after_rows (Holds tells files) paths old new (row_failed input false false ∷ row_failed output true true ∷ []) w.0 input output 2 refl
      by (NotLoaded unloaded.ReadFault) w = elim w.0 [
        | inl u ↦ some_rows paths input output old new (unread_opened (Holds tells files) paths old new u)
        | inr a ↦ after_rows (Holds tells files) paths old new (row_failed input false true ∷ []) a input output 1 refl
      ]
      by (NotLoaded (unloaded.Refused fault)) w = some_rows paths input output old new (fault_rows (Holds tells files) paths old new fault w.0.read w.0.first w.0.opened)
      by (NotLoaded unloaded.Memory) w = elim w [
        | inl a ↦ elim a.0 [
          | inl u ↦ some_rows paths input output old new (unfinished_rows (Holds tells files) paths old new u)
          | inr b ↦ after_rows (Holds tells files) paths old new (row_failed input false false ∷ []) b input output 1 refl
        ]
        | inr a ↦ after_rows (Holds tells files) paths old new (row_failed input false false ∷ row_failed output true false ∷ []) a.0 input output 2 refl
      ]

  read_counted : Why (NotLoaded unloaded.ReadFault) → failed_count false old < failed_count false new
  read_counted w = elim w.0 [ inl u ↦ unread_counts (Holds tells files) paths old new u | inr a ↦ after_counts (Holds tells files) paths old new (row_failed input false true ∷ []) a false refl ]

  write_counted : Why WriteFault → failed_count true old < failed_count true new
  write_counted w = after_counts (Holds tells files) paths old new (row_failed input false false ∷ row_failed output true true ∷ []) w.0 true refl

  pub err_read : (u : Unserved) → Why u → status ≡ unserved_status u → status ≡ 3 → failed_count false old < failed_count false new
  err_read WriteFault why is z = absurd (omega (arith, is))
  err_read (NotLoaded unloaded.ReadFault) why is z = read_counted why
  err_read (NotLoaded (unloaded.Refused fault)) why is z = absurd (omega (arith, is))
  err_read (NotLoaded unloaded.Memory) why is z = absurd (omega (arith, is))

  pub err_read_line : (u : Unserved) → Shows held after before later (unserved_line u) → status ≡ unserved_status u → status ≡ 3 → Shows held after before later (codes "read fault\n")
  err_read_line WriteFault line is z = absurd (omega (arith, is))
  err_read_line (NotLoaded unloaded.ReadFault) line is z = line
  err_read_line (NotLoaded (unloaded.Refused fault)) line is z = absurd (omega (arith, is))
  err_read_line (NotLoaded unloaded.Memory) line is z = absurd (omega (arith, is))

  pub err_read_why : (u : Unserved) → Why u → status ≡ unserved_status u → status ≡ 3 → Told (NotLoaded unloaded.ReadFault)
  err_read_why WriteFault why is z = absurd (omega (arith, is))
  err_read_why (NotLoaded unloaded.ReadFault) why is z = told (NotLoaded unloaded.ReadFault) why
  err_read_why (NotLoaded (unloaded.Refused fault)) why is z = absurd (omega (arith, is))
  err_read_why (NotLoaded unloaded.Memory) why is z = absurd (omega (arith, is))

  pub err_write_why : (u : Unserved) → Why u → status ≡ unserved_status u → status ≡ 4 → Told WriteFault
  err_write_why WriteFault why is z = told WriteFault why
  err_write_why (NotLoaded unloaded.ReadFault) why is z = absurd (omega (arith, is))
  err_write_why (NotLoaded (unloaded.Refused fault)) why is z = absurd (omega (arith, is))
  err_write_why (NotLoaded unloaded.Memory) why is z = absurd (omega (arith, is))

  pub err_memory_why : (u : Unserved) → Why u → status ≡ unserved_status u → status ≡ 5 → Told (NotLoaded unloaded.Memory)
  err_memory_why WriteFault why is z = absurd (omega (arith, is))
  err_memory_why (NotLoaded unloaded.ReadFault) why is z = absurd (omega (arith, is))
  err_memory_why (NotLoaded (unloaded.Refused fault)) why is z = absurd (omega (arith, is))
  err_memory_why (NotLoaded unloaded.Memory) why is z = told (NotLoaded unloaded.Memory) why

  pub err_write : (u : Unserved) → Why u → status ≡ unserved_status u → status ≡ 4 → (failed_count true old < failed_count true new) ⊎ Rose before later
  err_write WriteFault why is z = inl (write_counted why)
  err_write (NotLoaded unloaded.ReadFault) why is z = absurd (omega (arith, is))
  err_write (NotLoaded (unloaded.Refused fault)) why is z = absurd (omega (arith, is))
  err_write (NotLoaded unloaded.Memory) why is z = absurd (omega (arith, is))

  pub err_write_line : (u : Unserved) → Shows held after before later (unserved_line u) → status ≡ unserved_status u → status ≡ 4 → Shows held after before later (codes "write fault\n")
  err_write_line WriteFault line is z = line
  err_write_line (NotLoaded unloaded.ReadFault) line is z = absurd (omega (arith, is))
  err_write_line (NotLoaded (unloaded.Refused fault)) line is z = absurd (omega (arith, is))
  err_write_line (NotLoaded unloaded.Memory) line is z = absurd (omega (arith, is))

  pub err_memory_line : (u : Unserved) → Shows held after before later (unserved_line u) → status ≡ unserved_status u → status ≡ 5 → Shows held after before later (codes "memory\n")
  err_memory_line WriteFault line is z = absurd (omega (arith, is))
  err_memory_line (NotLoaded unloaded.ReadFault) line is z = absurd (omega (arith, is))
  err_memory_line (NotLoaded (unloaded.Refused fault)) line is z = absurd (omega (arith, is))
  err_memory_line (NotLoaded unloaded.Memory) line is z = line

  pub err_file : (u : Unserved) → Why u → Shows held after before later (unserved_line u) → status ≡ unserved_status u → status ≡ 6 → (fault : FaultCode) × RefusesFile words (Holds tells files) old new (Shows held after before later) fault
  err_file (NotLoaded (unloaded.Refused fault)) why line is z = (fault, record { paths = paths; input = input; output = output; call = call; refused = why.0; printed = line })
  err_file WriteFault why line is z = absurd (omega (arith, is))
  err_file (NotLoaded unloaded.ReadFault) why line is z = absurd (omega (arith, is))
  err_file (NotLoaded unloaded.Memory) why line is z = absurd (omega (arith, is))

  pub err_kept : (u : Unserved) → Why u → status ≡ unserved_status u → status ≡ 6 → AreKept files now
  err_kept (NotLoaded (unloaded.Refused fault)) why is z = why.1
  err_kept WriteFault why is z = absurd (omega (arith, is))
  err_kept (NotLoaded unloaded.ReadFault) why is z = absurd (omega (arith, is))
  err_kept (NotLoaded unloaded.Memory) why is z = absurd (omega (arith, is))

  -- such a status is 3, 4, 5 or 6
  pub err_between : (u : Unserved) → status ≡ unserved_status u → (3 ≤ status) × (status ≤ 6)
  err_between WriteFault is = (omega (arith, is), omega (arith, is))
  err_between (NotLoaded unloaded.ReadFault) is = (omega (arith, is), omega (arith, is))
  err_between (NotLoaded (unloaded.Refused fault)) is = (omega (arith, is), omega (arith, is))
  err_between (NotLoaded unloaded.Memory) is = (omega (arith, is), omega (arith, is))

  pub err_usage : (u : Unserved) → status ≡ unserved_status u → (status ≡ 2) ↔ IsFaultyServe words
  err_usage u is = (λ z. absurd (let b = err_between u is in omega (arith, b.0)), λ faulty. absurd (faulty paths input output call))

  pub err_bad_file : (u : Unserved) → Why u → status ≡ unserved_status u → HasFaultyFile words files → (status ≡ 6) ⊎ ((status ≡ 3) ⊎ (status ≡ 5))
  err_bad_file WriteFault why is t =
      absurd (inputs_faultless files tells paths why.0.loaded t.fault t.read why.0.inputs (same_serve words t.paths paths t.input input t.output output t.call call (λ p i o. IsFirstFault (IsTold files) p t.fault t.read) t.first))
  err_bad_file (NotLoaded unloaded.ReadFault) why is t = inr (inl is)
  err_bad_file (NotLoaded (unloaded.Refused fault)) why is t = inl is
  err_bad_file (NotLoaded unloaded.Memory) why is t = inr (inr is)

  pub err_complete : (u : Unserved) → Why u → status ≡ unserved_status u → HasSoundFiles words files → failed_count false new ≡ failed_count false old → failed_count true new ≡ failed_count true old → (status ≡ 0) ⊎ ((status ≡ 7) ⊎ (status ≡ 5))
  err_complete WriteFault why is t reads writes = absurd (let more = write_counted why in omega (arith, more, writes))
  err_complete (NotLoaded unloaded.ReadFault) why is t reads writes = absurd (let more = read_counted why in omega (arith, more, reads))
  err_complete (NotLoaded (unloaded.Refused fault)) why is t reads writes =
      let first : IsFirstFault (Holds tells files) t.paths fault why.0.read = same_serve words paths t.paths input t.input output t.output call t.call (λ p i o. IsFirstFault (Holds tells files) p fault why.0.read) why.0.first in
      absurd (t.faultless fault why.0.read (told_fault files tells t.paths fault why.0.read t.told first))
  err_complete (NotLoaded unloaded.Memory) why is t reads writes = inr (inr is)
