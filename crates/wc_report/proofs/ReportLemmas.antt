-- Numbered lines that are written one after the other.
use Rattle.std.proofs.Common.{◌≡◌, ℕ, zero, suc, ◌+◌, ◌<◌, List, [], ◌∷◌, ◌++◌, length, get_or, take, Option, refl, sym, ap, subst, ◌∙◌, arith, append_assoc, append-nil}
use Rattle.std.proofs.KnownBytes.{Appends-trans}
use Rattle.std.specs.Io.KnownBytes.{Appends}
use Rattle.wc_io.specs.Writing.{AppendsPart}
use Rattle.wc_io.proofs.WritingLemmas.{part_longer, part_after}
use Rattle.wc_report.specs.ReportText.{lines_from}

module _ {X : Type 0} (line : ℕ → X → List ℕ) where
  -- the lines of the first items, and that of the next
  lines_next : (n m : ℕ) (xs : List X) (i : ℕ) (d : X) → i < length xs → m ≡ n + i
      → lines_from line n (take (suc i) xs) ≡ lines_from line n (take i xs) ++ line m (get_or xs i d)
  lines_next n m [] i d within is = absurd (omega arith)
  lines_next n m (x ∷ xs) zero d within is =
      let same : n ≡ m = omega (arith, is) in
      append-nil (line n x) ∙ ap (λ (k : ℕ). line k x) same
  lines_next n m (x ∷ xs) (suc i) d within is =
      ap (λ (text : List ℕ). line n x ++ text) (lines_next (n + 1) m xs i d (omega arith) (omega (arith, is))) ∙ sym (append_assoc (line n x) (lines_from line (n + 1) (take i xs)) (line m (get_or xs i d)))

  -- all lines begin with those of the first items
  lines_rest : (n : ℕ) (xs : List X) (i : ℕ) → (rest : List ℕ) × (lines_from line n xs ≡ lines_from line n (take i xs) ++ rest)
  lines_rest n xs zero = (lines_from line n xs, refl)
  lines_rest n [] (suc i) = ([], refl)
  lines_rest n (x ∷ xs) (suc i) =
      let more = lines_rest (n + 1) xs i in
      (more.0, ap (λ (text : List ℕ). line n x ++ text) more.1 ∙ sym (append_assoc (line n x) (lines_from line (n + 1) (take i xs)) more.0))

  module _ (a b c : Option (List ℕ)) (xs : List X) (i m : ℕ) (d : X) (within : i < length xs) (is : m ≡ 1 + i) (before : Appends a b (lines_from line 1 (take i xs))) where
    pub line_written : Appends b c (line m (get_or xs i d)) → Appends a c (lines_from line 1 (take (i + 1) xs))
    line_written written =
        let next : suc i ≡ i + 1 = omega arith in
        subst (λ (k : ℕ). Appends a c (lines_from line 1 (take k xs))) next
        (subst (λ (text : List ℕ). Appends a c text) (sym (lines_next 1 m xs i d within is)) (Appends-trans a b c (lines_from line 1 (take i xs)) (line m (get_or xs i d)) before written))

    pub line_partly : AppendsPart b c (line m (get_or xs i d)) → AppendsPart a c (lines_from line 1 xs)
    line_partly part =
        let rest = lines_rest 1 xs (suc i) in
        subst (λ (text : List ℕ). AppendsPart a c text) (sym (rest.1 ∙ ap (λ (text : List ℕ). text ++ rest.0) (lines_next 1 m xs i d within is)))
        (part_longer a c (lines_from line 1 (take i xs) ++ line m (get_or xs i d)) rest.0 (part_after a b c (lines_from line 1 (take i xs)) (line m (get_or xs i d)) before part))
