-- The lines of a script, found piece by piece.
use Rattle.std.proofs.Common.{◌≡◌, ℕ, suc, ◌+◌, ◌-◌, ◌<◌, ◌≤◌, ◌==◌, Bool, true, false, List, [], ◌∷◌, ◌++◌, length, take, drop, get_or, refl, sym, ap, ◌∙◌, subst, arith}
use Rattle.std.proofs.lemmas.Bool.Decides.{nat_tests}
use Rattle.std.proofs.lemmas.List.{drop-take, drop-drop, length-take}
use Rattle.wc_io.proofs.FeedLemmas.{NoFeed}
use Rattle.wc_io.specs.Lines.{RawLine, raw_lines, with_front, size, without_return}
use Rattle.wc_io.specs.Parts.{unended}

-- a range without its first elements
pub range_drop : (xs range : List ℕ) (i j n : ℕ) → take (j - i) (drop i xs) ≡ range → n ≤ length range → take (j - (i + n)) (drop (i + n) xs) ≡ drop n range
range_drop xs range i j n is few =
    let short : n ≤ j - i = omega (arith, ap length is, length-take (j - i) (drop i xs)) in
    let split : n + (j - (i + n)) ≡ j - i = omega arith in
    ap (take (j - (i + n))) (sym (drop-drop n i xs)) ∙ sym (drop-take n (j - (i + n)) (drop i xs)) ∙ ap (λ m. drop n (take m (drop i xs))) split ∙ ap (drop n) is

not_equal : (a b : ℕ) → (a ≡ b → ⊥) → (a == b) ≡ false
not_equal a b other = grind (arith, nat_tests)

equal : (a b : ℕ) → a ≡ b → (a == b) ≡ true
equal a b same = grind (arith, nat_tests)

-- ---- the CR at the end of a line

pub return_dropped : (xs : List ℕ) (n d : ℕ) → n ≡ length xs → 0 < n → get_or xs (n - 1) d ≡ 13 → take (n - 1) xs ≡ without_return xs
return_dropped [] n d many some last = absurd (omega arith)
return_dropped (b ∷ []) n d many some last =
    let first : n - 1 ≡ 0 = omega arith in
    let is : b ≡ 13 = ap (λ i. get_or (b ∷ []) i d) (sym first) ∙ last in
    let test : (b == 13) ≡ true = equal b 13 is in
    ap (λ i. take i (b ∷ [])) first ∙ rw test
return_dropped (b ∷ c ∷ bs) n d many some last =
    let back : n - 1 ≡ suc ((n - 1) - 1) = omega arith in
    ap (λ i. take i (b ∷ c ∷ bs)) back
    ∙ ap (λ ys. b ∷ ys) (return_dropped (c ∷ bs) (n - 1) d (omega arith) (omega arith) (ap (λ i. get_or (b ∷ c ∷ bs) i d) (sym back) ∙ last))

pub return_absent : (xs : List ℕ) (n d : ℕ) → n ≡ length xs → (0 < n → get_or xs (n - 1) d ≡ 13 → ⊥) → xs ≡ without_return xs
return_absent [] n d many other = refl
return_absent (b ∷ []) n d many other =
    let first : 0 ≡ n - 1 = omega arith in
    let test : (b == 13) ≡ false = not_equal b 13 (λ same. other (omega arith) (ap (λ i. get_or (b ∷ []) i d) (sym first) ∙ same)) in
    rw test
return_absent (b ∷ c ∷ bs) n d many other =
    let back : n - 1 ≡ suc ((n - 1) - 1) = omega arith in
    ap (λ ys. b ∷ ys) (return_absent (c ∷ bs) (n - 1) d (omega arith) (λ some last. other (omega arith) (ap (λ i. get_or (b ∷ c ∷ bs) i d) back ∙ last)))

-- ---- the first line of some bytes

pub raw_first : (c rest : List ℕ) → NoFeed c → raw_lines (c ++ 10 ∷ rest) ≡ (c, true) ∷ raw_lines rest
raw_first [] rest clean = refl
raw_first (b ∷ c) rest clean = let other = not_equal b 10 clean.0 in rw other (ap (with_front b) (raw_first c rest clean.1))

pub raw_unended : (c : List ℕ) → NoFeed c → raw_lines c ≡ unended c
raw_unended [] clean = refl
raw_unended (b ∷ []) clean = let other = not_equal b 10 clean.0 in rw other
raw_unended (b ∷ d ∷ c) clean = let other = not_equal b 10 clean.0 in rw other (ap (with_front b) (raw_unended (d ∷ c) clean.1))

-- these bytes begin with a line of at least so many
abbrev pub StartsLong : List RawLine → ℕ → Type 0
StartsLong lines n = (line : RawLine) × ((later : List RawLine) × (lines ≡ line ∷ later)) × (n ≤ size line)

one_more : (b : ℕ) (bytes : List ℕ) (ended : Bool) → size (b ∷ bytes, ended) ≡ size (bytes, ended) + 1
one_more b bytes true = omega arith
one_more b bytes false = omega arith

front_of : (b : ℕ) (lines : List RawLine) → StartsLong (with_front b lines) 1
front_of b [] = ((b ∷ [], false), ([], refl), omega arith)
front_of b (l ∷ ls) = ((b ∷ l.0, l.1), (ls, refl), omega (arith, one_more b l.0 l.1))

front_longer : (b : ℕ) (lines : List RawLine) (n : ℕ) → StartsLong lines n → StartsLong (with_front b lines) (n + 1)
front_longer b lines n (line, (later, is), long) = ((b ∷ line.0, line.1), (later, ap (with_front b) is), omega (arith, one_more b line.0 line.1))

pub raw_longer : (b : ℕ) (c rest : List ℕ) → NoFeed (b ∷ c) → StartsLong (raw_lines (b ∷ c ++ rest)) (length (b ∷ c))
raw_longer b [] rest clean = let other = not_equal b 10 clean.0 in rw other (front_of b (raw_lines rest))
raw_longer b (d ∷ c) rest clean =
    let other = not_equal b 10 clean.0 in
    let e : length (d ∷ c) + 1 ≡ length (b ∷ d ∷ c) = omega arith in
    rw other (subst (StartsLong (with_front b (raw_lines (d ∷ c ++ rest)))) e (front_longer b (raw_lines (d ∷ c ++ rest)) (length (d ∷ c)) (raw_longer d c rest clean.1)))
