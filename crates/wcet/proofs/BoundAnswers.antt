-- What each status of the command `bound` tells.
use Rattle.std.proofs.Common.{◌≡◌, ℕ, ◌<◌, Bool, false, List, [], ◌∷◌, ◌++◌, refl, sym, ap, ◌∙◌, subst, ◌⊎◌, ◌↔◌, inl, inr, arith}
use Rattle.std.specs.Prelude.{◌≢◌, Option, Some, None, IfSome, codes}
use Rattle.std.specs.Io.KnownBytes.{Appends}
use Rattle.wc_base.specs.declared.faults.Fault.{Fault as FaultCode}
use Rattle.wc_io.specs.Causes.{Rose}
use Rattle.wc_io.specs.Rows.{Row, failed_count}
use Rattle.wc_io.specs.Writing.{AppendsPart}
use Rattle.wc_model.specs.declared.values.Outcome.{Outcome}
use Rattle.wc_model.specs.declared.values.Outcome.TheVariants.{Bound, Fault, Memory}
use Rattle.wcet.specs.declared.answers.Answer.{Answer}
use Rattle.wcet.specs.declared.answers.Answer.TheVariants as answer
use Rattle.wcet.specs.Answers.{Finishes, Shows, line_of}
use Rattle.wcet.specs.BoundCall.{Explains, Prints, Refuses, RunsOut, HasFault, AreSound, Opens, StopsReading}
use Rattle.wcet.specs.Files.{Holds, IsTold, IsFirstFault, of_binary, of_hardware, of_facts, optional_path, paths_of}
use Rattle.wcet.specs.Loading.{OpensAll, OpensSome, past_files}
use Rattle.wcet.specs.Words.{Paths, IsBoundCall, IsFaultyCall, optional_word}
use Rattle.wcet.proofs.LoadingLemmas.{all_rows, all_some, unfinished_rows}
use Rattle.wcet.proofs.OneAnswer.{inputs_faultless, told_fault}

-- a word stands for one path or none
pub same_optional : (h k : Option (List ℕ)) → IfSome h (λ path. path ≢ codes "-") → IfSome k (λ path. path ≢ codes "-") → optional_word h ≡ optional_word k → h ≡ k
same_optional None None named also same = refl
same_optional None (Some path) named also same = absurd (also (sym same))
same_optional (Some path) None named also same = absurd (named same)
same_optional (Some path) (Some other) named also same = ap (λ (p : List ℕ). Some p) same

pub same_paths : (a b : Paths) → a.binary ≡ b.binary → a.hardware ≡ b.hardware → a.facts ≡ b.facts → (P : Paths → Type 0) → P a → P b
same_paths a b binaries timings facts P holds =
    let one : P (record { binary = b.binary; hardware = a.hardware; facts = a.facts }) = subst (λ (x : List ℕ). P (record { binary = x; hardware = a.hardware; facts = a.facts })) binaries holds in
    let two : P (record { binary = b.binary; hardware = b.hardware; facts = a.facts }) = subst (λ (x : Option (List ℕ)). P (record { binary = b.binary; hardware = x; facts = a.facts })) timings one in
    subst (λ (x : Option (List ℕ)). P (record { binary = b.binary; hardware = b.hardware; facts = x })) facts two

-- words name the paths of one call
same_call : (words : List (List ℕ)) (paths other : Paths) (name label : List ℕ) → IsBoundCall words paths name → IsBoundCall words other label → (P : Paths → Type 0) → P paths → P other
same_call words paths other name label a b P holds =
    let form = sym a.form ∙ b.form in
    let binaries : paths.binary ≡ other.binary = cc in
    let flows : optional_word paths.facts ≡ optional_word other.facts = cc in
    let timings : optional_word paths.hardware ≡ optional_word other.hardware = cc in
    same_paths paths other binaries (same_optional paths.hardware other.hardware a.hardware b.hardware timings) (same_optional paths.facts other.facts a.facts b.facts flows) P holds

-- a line that was finished is shown
shown : (a : Answer) (name : List ℕ) (held after : Option (List ℕ)) (before now status : ℕ) → Finishes name a held after before now status → Shows held after before now (line_of name a)
shown a name held after before now status (inl f) = inl f.1
shown a name held after before now status (inr f) = inr (f.1, f.2)

pub fault_rows : (holds : List ℕ → List ℕ → Type 0) (paths : Paths) (old new : List Row) (fault : FaultCode) (read : List (List ℕ))
    → IsFirstFault holds paths fault read → OpensAll read old new → OpensSome (paths_of paths) old new
fault_rows holds paths old new fault read (of_binary _ _) rows = all_some (paths.binary ∷ []) (optional_path paths.hardware ++ optional_path paths.facts) old new rows
fault_rows holds paths old new fault read (of_hardware _ _ _ _) rows = all_some (paths.binary ∷ optional_path paths.hardware) (optional_path paths.facts) old new rows
fault_rows holds paths old new fault read (of_facts _ _ _ _ _ _) rows = all_rows (paths_of paths) old new rows

module _ (words : List (List ℕ)) (holds : List ℕ → List ℕ → Type 0) (paths : Paths) (name : List ℕ) (call : IsBoundCall words paths name) (old new : List Row) where
  pub opened : (a : Answer) → Explains holds paths name old new a → Opens words old new
  opened answer.Usage e other label also = absurd e
  opened answer.ReadFault e other label also = same_call words paths other name label call also (λ ps. OpensSome (paths_of ps) old new) e.1
  opened answer.Memory e other label also = same_call words paths other name label call also (λ ps. OpensSome (paths_of ps) old new) (unfinished_rows holds paths old new e)
  opened (answer.Refused fault) e other label also = same_call words paths other name label call also (λ ps. OpensSome (paths_of ps) old new) (fault_rows holds paths old new fault e.read e.first e.opened)
  opened (answer.Analysed outcome) e other label also = same_call words paths other name label call also (λ ps. OpensSome (paths_of ps) old new) (all_rows (paths_of paths) old new e.opened)

module _ (words : List (List ℕ)) (holds : List ℕ → List ℕ → Type 0) (paths : Paths) (name : List ℕ) (call : IsBoundCall words paths name) (old new : List Row) (held after : Option (List ℕ)) (before now status : ℕ) where
  pub bound : (a : Answer) → Explains holds paths name old new a → Finishes name a held after before now status → status ≡ 0 → (cycles : ℕ) × Prints words holds old new (Appends held after) (Bound cycles)
  bound (answer.Analysed (Bound cycles)) e f z = (cycles, record { paths = paths; name = name; call = call; analysed = e; printed = elim f [ inl t ↦ t.1 | inr t ↦ absurd (omega (arith, t.0)) ] })
  bound a e f z = absurd (elim f [ inl t ↦ omega (arith, t.0) | inr t ↦ omega (arith, t.0) ])

  pub refused : (a : Answer) → Explains holds paths name old new a → Finishes name a held after before now status → status ≡ 1 → (fault : FaultCode) × Prints words holds old new (Appends held after) (Fault fault)
  refused (answer.Analysed (Fault fault)) e f z = (fault, record { paths = paths; name = name; call = call; analysed = e; printed = elim f [ inl t ↦ t.1 | inr t ↦ absurd (omega (arith, t.0)) ] })
  refused a e f z = absurd (elim f [ inl t ↦ omega (arith, t.0) | inr t ↦ omega (arith, t.0) ])

  pub read : (a : Answer) → Explains holds paths name old new a → Finishes name a held after before now status → status ≡ 3 → failed_count false old < failed_count false new
  read answer.ReadFault e f z = e.0
  read (answer.Analysed (Bound _)) e f z = absurd (elim f [ inl t ↦ omega (arith, t.0) | inr t ↦ omega (arith, t.0) ])
  read (answer.Analysed (Fault _)) e f z = absurd (elim f [ inl t ↦ omega (arith, t.0) | inr t ↦ omega (arith, t.0) ])
  read (answer.Analysed Memory) e f z = absurd (elim f [ inl t ↦ omega (arith, t.0) | inr t ↦ omega (arith, t.0) ])
  read a e f z = absurd (elim f [ inl t ↦ omega (arith, t.0) | inr t ↦ omega (arith, t.0) ])

  pub unread : (a : Answer) → Explains holds paths name old new a → Finishes name a held after before now status → status ≡ 3 → StopsReading words holds old new
  unread answer.ReadFault e f z = record { paths = paths; name = name; call = call; unread = e.2 }
  unread (answer.Analysed (Bound _)) e f z = absurd (elim f [ inl t ↦ omega (arith, t.0) | inr t ↦ omega (arith, t.0) ])
  unread (answer.Analysed (Fault _)) e f z = absurd (elim f [ inl t ↦ omega (arith, t.0) | inr t ↦ omega (arith, t.0) ])
  unread (answer.Analysed Memory) e f z = absurd (elim f [ inl t ↦ omega (arith, t.0) | inr t ↦ omega (arith, t.0) ])
  unread a e f z = absurd (elim f [ inl t ↦ omega (arith, t.0) | inr t ↦ omega (arith, t.0) ])

  pub read_line : (a : Answer) → Explains holds paths name old new a → Finishes name a held after before now status → status ≡ 3 → Shows held after before now (codes "read fault\n")
  read_line answer.ReadFault e f z = shown answer.ReadFault name held after before now status f
  read_line (answer.Analysed (Bound _)) e f z = absurd (elim f [ inl t ↦ omega (arith, t.0) | inr t ↦ omega (arith, t.0) ])
  read_line (answer.Analysed (Fault _)) e f z = absurd (elim f [ inl t ↦ omega (arith, t.0) | inr t ↦ omega (arith, t.0) ])
  read_line (answer.Analysed Memory) e f z = absurd (elim f [ inl t ↦ omega (arith, t.0) | inr t ↦ omega (arith, t.0) ])
  read_line a e f z = absurd (elim f [ inl t ↦ omega (arith, t.0) | inr t ↦ omega (arith, t.0) ])

  pub memory_line : (a : Answer) → Explains holds paths name old new a → Finishes name a held after before now status → status ≡ 5 → Shows held after before now (codes "memory\n")
  memory_line answer.Memory e f z = shown answer.Memory name held after before now status f
  memory_line (answer.Analysed Memory) e f z = shown (answer.Analysed Memory) name held after before now status f
  memory_line (answer.Analysed (Bound _)) e f z = absurd (elim f [ inl t ↦ omega (arith, t.0) | inr t ↦ omega (arith, t.0) ])
  memory_line (answer.Analysed (Fault _)) e f z = absurd (elim f [ inl t ↦ omega (arith, t.0) | inr t ↦ omega (arith, t.0) ])
  memory_line a e f z = absurd (elim f [ inl t ↦ omega (arith, t.0) | inr t ↦ omega (arith, t.0) ])

  pub memory : (a : Answer) → Explains holds paths name old new a → Finishes name a held after before now status → status ≡ 5 → RunsOut words holds old new
  memory answer.Memory e f z = record { paths = paths; name = name; call = call; unfinished = e }
  memory (answer.Analysed Memory) e f z = record { paths = paths; name = name; call = call; unfinished = past_files e.loaded e.inputs e.opened }
  memory (answer.Analysed (Bound _)) e f z = absurd (elim f [ inl t ↦ omega (arith, t.0) | inr t ↦ omega (arith, t.0) ])
  memory (answer.Analysed (Fault _)) e f z = absurd (elim f [ inl t ↦ omega (arith, t.0) | inr t ↦ omega (arith, t.0) ])
  memory a e f z = absurd (elim f [ inl t ↦ omega (arith, t.0) | inr t ↦ omega (arith, t.0) ])

  pub file : (a : Answer) → Explains holds paths name old new a → Finishes name a held after before now status → status ≡ 6 → (fault : FaultCode) × Refuses words holds old new (Shows held after before now) fault
  file (answer.Refused fault) e f z = (fault, record { paths = paths; name = name; call = call; refused = e; printed = shown (answer.Refused fault) name held after before now status f })
  file (answer.Analysed (Bound _)) e f z = absurd (elim f [ inl t ↦ omega (arith, t.0) | inr t ↦ omega (arith, t.0) ])
  file (answer.Analysed (Fault _)) e f z = absurd (elim f [ inl t ↦ omega (arith, t.0) | inr t ↦ omega (arith, t.0) ])
  file (answer.Analysed Memory) e f z = absurd (elim f [ inl t ↦ omega (arith, t.0) | inr t ↦ omega (arith, t.0) ])
  file a e f z = absurd (elim f [ inl t ↦ omega (arith, t.0) | inr t ↦ omega (arith, t.0) ])

  pub write_line : (a : Answer) → Explains holds paths name old new a → Finishes name a held after before now status → status ≡ 4 → ((cycles : ℕ) × Prints words holds old new (AppendsPart held after) (Bound cycles)) ⊎ ((fault : FaultCode) × Prints words holds old new (AppendsPart held after) (Fault fault))
  write_line (answer.Analysed (Bound cycles)) e f z = inl (cycles, record { paths = paths; name = name; call = call; analysed = e; printed = elim f [ inl t ↦ absurd (omega (arith, t.0)) | inr t ↦ t.1 ] })
  write_line (answer.Analysed (Fault fault)) e f z = inr (fault, record { paths = paths; name = name; call = call; analysed = e; printed = elim f [ inl t ↦ absurd (omega (arith, t.0)) | inr t ↦ t.1 ] })
  write_line (answer.Analysed Memory) e f z = absurd (elim f [ inl t ↦ omega (arith, t.0) | inr t ↦ omega (arith, t.0) ])
  write_line a e f z = absurd (elim f [ inl t ↦ omega (arith, t.0) | inr t ↦ omega (arith, t.0) ])

  not_usage : (a : Answer) → Explains holds paths name old new a → Finishes name a held after before now status → status ≡ 2 → ⊥
  not_usage answer.Usage e f z = e
  not_usage (answer.Analysed (Bound _)) e f z = elim f [ inl t ↦ omega (arith, t.0) | inr t ↦ omega (arith, t.0) ]
  not_usage (answer.Analysed (Fault _)) e f z = elim f [ inl t ↦ omega (arith, t.0) | inr t ↦ omega (arith, t.0) ]
  not_usage (answer.Analysed Memory) e f z = elim f [ inl t ↦ omega (arith, t.0) | inr t ↦ omega (arith, t.0) ]
  not_usage a e f z = elim f [ inl t ↦ omega (arith, t.0) | inr t ↦ omega (arith, t.0) ]

  pub usage : (a : Answer) → Explains holds paths name old new a → Finishes name a held after before now status → (status ≡ 2) ↔ IsFaultyCall words
  usage a e f = (λ z. absurd (not_usage a e f z), λ faulty. absurd (faulty paths name call))

module _ (words : List (List ℕ)) (files : List ℕ → Option (List ℕ)) (tells : Bool) (paths : Paths) (name : List ℕ) (call : IsBoundCall words paths name) (old new : List Row) (held after : Option (List ℕ)) (before now status : ℕ) where
  pub bad_file : (a : Answer) → Explains (Holds tells files) paths name old new a → Finishes name a held after before now status → HasFault words files → (status ≡ 6) ⊎ ((status ≡ 3) ⊎ (status ≡ 5))
  bad_file answer.Usage e f t = absurd e
  bad_file answer.ReadFault e f t = inr (inl (elim f [ inl s ↦ s.0 | inr s ↦ s.0 ]))
  bad_file answer.Memory e f t = inr (inr (elim f [ inl s ↦ s.0 | inr s ↦ s.0 ]))
  bad_file (answer.Refused fault) e f t = inl (elim f [ inl s ↦ s.0 | inr s ↦ s.0 ])
  bad_file (answer.Analysed outcome) e f t =
      absurd (inputs_faultless files tells paths e.loaded t.fault t.read e.inputs (same_call words t.paths paths t.name name t.call call (λ ps. IsFirstFault (IsTold files) ps t.fault t.read) t.first))

  pub complete : (a : Answer) → Explains (Holds tells files) paths name old new a → Finishes name a held after before now status → AreSound words files → failed_count false new ≡ failed_count false old → (Rose before now → ⊥) → (status ≡ 0) ⊎ ((status ≡ 1) ⊎ (status ≡ 5))
  complete answer.Usage e f t same quiet = absurd e
  complete answer.ReadFault e f t same quiet = absurd (omega (arith, e.0))
  complete answer.Memory e f t same quiet = inr (inr (elim f [ inl s ↦ s.0 | inr s ↦ s.0 ]))
  complete (answer.Refused fault) e f t same quiet =
      let first : IsFirstFault (Holds tells files) t.paths fault e.read = same_call words paths t.paths name t.name call t.call (λ ps. IsFirstFault (Holds tells files) ps fault e.read) e.first in
      absurd (t.faultless fault e.read (told_fault files tells t.paths fault e.read t.told first))
  complete (answer.Analysed (Bound cycles)) e f t same quiet = inl (elim f [ inl s ↦ s.0 | inr s ↦ absurd (quiet s.2) ])
  complete (answer.Analysed (Fault fault)) e f t same quiet = inr (inl (elim f [ inl s ↦ s.0 | inr s ↦ absurd (quiet s.2) ]))
  complete (answer.Analysed Memory) e f t same quiet = inr (inr (elim f [ inl s ↦ s.0 | inr s ↦ s.0 ]))
