-- What a line of a script says, and what it doesn't.
use Rattle.std.proofs.Common.{◌≡◌, ◌≢◌, ℕ, ◌+◌, true, false, List, ◌++◌, length, take, drop, sym, ap, ◌∙◌, nat_eq, take-append-drop, Option, None, Some, MatchOption}
use Rattle.std.proofs.Math.Seq.{take-append_seam}
use Rattle.std.proofs.lemmas.Slice.Eq.{bytes_eq-Decides}
use Rattle.std.specs.Cmp.Lexicographic.{pointwise}

-- A word at the front of a line.

no_front : (word line rest : List ℕ) → pointwise nat_eq (take (length word) line) word ≡ false → line ≢ word ++ rest
no_front word line rest other is =
    let front : take (length word) line ≡ word = ap (take (length word)) is ∙ take-append_seam word rest in
    let same : pointwise nat_eq (take (length word) line) word ≡ true = (bytes_eq-Decides (take (length word) line) word).1 front in
    absurd (cc)

front : (word line : List ℕ) → pointwise nat_eq (take (length word) line) word ≡ true → line ≡ word ++ drop (length word) line
front word line same =
    let first : take (length word) line ≡ word = (bytes_eq-Decides (take (length word) line) word).0 same in
    sym (take-append-drop (length word) line) ∙ ap (λ (l : List ℕ). l ++ drop (length word) line) first

pub after_cases : {A : Type 0} (now : A → List ℕ) (word line : List ℕ) (r : Option A)
    → MatchOption r (pointwise nat_eq (take (length word) line) word ≡ false)
    (λ x. (pointwise nat_eq (take (length word) line) word ≡ true) × (now x ≡ drop (length word) line) × (length (now x) + length word ≡ length line))
    → MatchOption r ((rest : List ℕ) → line ≢ word ++ rest) (λ x. line ≡ word ++ now x)
after_cases now word line None other = λ rest. no_front word line rest other
after_cases now word line (Some x) found = front word line found.0 ∙ ap (λ (l : List ℕ). word ++ l) (sym found.1)
