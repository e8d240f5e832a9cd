-- A line that is collected piece by piece, and the bytes that its source tells.
use Rattle.std.proofs.Common.{◌≡◌, ℕ, zero, suc, ◌+◌, ◌-◌, ◌<◌, true, List, [], ◌∷◌, ◌++◌, length, take, drop, Option, Some, None, IfSome, refl, sym, ap, ◌∙◌, subst, arith, append_assoc, append-nil, length-append, take-append-drop}
use Rattle.std.proofs.KnownBytes.{Consumes-trans}
use Rattle.std.specs.Io.KnownBytes.{Consumes, IsAtEnd, prepend_known}
use Rattle.wc_io.specs.Ahead.{Ahead, to_come}
use Rattle.wc_io.proofs.FeedLemmas.{NoFeed, IsFirstFeed, NoFeed_append, take_feed}
use Rattle.wc_io.specs.Lines.{RawLine, raw_lines, size}
use Rattle.wc_io.specs.Parts.{Buffered, IsPartOf, unended}
use Rattle.wc_io.proofs.LineLemmas.{raw_first, raw_unended, raw_longer, StartsLong}

-- the bytes skipped come first
known_skipped : (unread : List ℕ) (left : Option (List ℕ)) (n : ℕ) → Consumes (prepend_known unread left) (prepend_known (drop n unread) left) (take n unread)
known_skipped unread None n = tt
known_skipped unread (Some xs) n = ap (λ ys. ys ++ xs) (sym (take-append-drop n unread)) ∙ append_assoc (take n unread) (drop n unread) xs

pub skipped : (a b : Ahead) (n : ℕ) → b ≡ record a { unread = drop n a.unread } → Consumes (to_come a) (to_come b) (take n a.unread)
skipped a b n is = subst (λ (x : Ahead). Consumes (to_come a) (to_come x) (take n a.unread)) (sym is) (known_skipped a.unread a.left n)

known_end : (unread : List ℕ) (left : Option (List ℕ)) → unread ≡ [] → IsAtEnd left → IsAtEnd (prepend_known unread left)
known_end unread None none end = tt
known_end unread (Some xs) none end = ap (λ ys. ys ++ xs) none ∙ end

pub at_end : (a : Ahead) → a.unread ≡ [] → IsAtEnd a.left → IsAtEnd (to_come a)
at_end a none end = known_end a.unread a.left none end

firsts : (n : ℕ) (line piece : List ℕ) → take n line ++ take (n - length (take n line)) piece ≡ take n (line ++ piece)
firsts zero line piece = let none : 0 - length (take 0 line) ≡ 0 = omega arith in ap (λ m. take m piece) none
firsts (suc n) [] piece = let all : suc n - 0 ≡ suc n = omega arith in ap (λ m. take m piece) all
firsts (suc n) (b ∷ line) piece =
    let fewer : suc n - length (b ∷ take n line) ≡ n - length (take n line) = omega arith in
    ap (λ m. b ∷ take n line ++ take m piece) fewer ∙ ap (λ ys. b ∷ ys) (firsts n line piece)

first_of : (line piece : List ℕ) → take 4097 line ++ take (4097 - length (take 4097 line)) piece ≡ take 4097 (line ++ piece)
first_of line piece = firsts 4097 line piece

-- a longer part of a line
pub part_grows : (old new : Buffered) (line piece : List ℕ) → IsPartOf old line → new.part ≡ old.part ++ take (4097 - length old.part) piece
    → new.count ≡ old.count + length piece → IsPartOf new (line ++ piece)
part_grows old new line piece (part, count) part_is count_is =
    (part_is ∙ ap (λ p. p ++ take (4097 - length p) piece) part ∙ first_of line piece, count_is ∙ ap (λ n. n + length piece) count ∙ sym (length-append line piece))

-- everything is read
pub ended : (old new : Option (List ℕ)) (line : List ℕ) → Consumes old new line → IsAtEnd new → NoFeed line
    → IfSome old (λ bytes. (new ≡ Some []) × (raw_lines bytes ≡ unended line))
ended None new line taken end clean = tt
ended (Some bytes) None line taken end clean = absurd taken
ended (Some bytes) (Some rest) line taken end clean =
    (ap (λ r. Some r) end, ap raw_lines (taken ∙ ap (λ r. line ++ r) end ∙ append-nil line) ∙ raw_unended line clean)

-- a line is read with its LF
known_line : (old new : Option (List ℕ)) (line : List ℕ) → Consumes old new (line ++ 10 ∷ []) → NoFeed line
    → IfSome old (λ bytes. (rest : List ℕ) × (new ≡ Some rest) × (raw_lines bytes ≡ (line, true) ∷ raw_lines rest))
known_line None new line taken clean = tt
known_line (Some bytes) None line taken clean = absurd taken
known_line (Some bytes) (Some rest) line taken clean = (rest, refl, ap raw_lines (taken ∙ append_assoc line (10 ∷ []) rest) ∙ raw_first line rest clean)

pub fed : (old middle new : Option (List ℕ)) (line unread : List ℕ) (i : ℕ) → Consumes old middle line → Consumes middle new (take (i + 1) unread) → NoFeed line
    → IsFirstFeed unread i → IfSome old (λ bytes. (rest : List ℕ) × (new ≡ Some rest) × (raw_lines bytes ≡ (line ++ take i unread, true) ∷ raw_lines rest))
fed old middle new line unread i first next clean feed =
    known_line old new (line ++ take i unread)
    (subst (Consumes old new) (ap (λ t. line ++ t) (take_feed unread i feed) ∙ sym (append_assoc line (take i unread) (10 ∷ [])))
    (Consumes-trans old middle new line (take (i + 1) unread) first next))
    (NoFeed_append line (take i unread) clean feed.before)

-- a line that is longer than there is room for, by its LF or without one
abbrev pub IsBeyond : Option (List ℕ) → ℕ → Type 0
IsBeyond old room = IfSome old (λ bytes. (line : RawLine) × ((later : List RawLine) × (raw_lines bytes ≡ line ∷ later)) × (room < size line))

pub fed_beyond : (old new : Option (List ℕ)) (line : List ℕ) (room : ℕ) → room < length line + 1
    → IfSome old (λ bytes. (rest : List ℕ) × (new ≡ Some rest) × (raw_lines bytes ≡ (line, true) ∷ raw_lines rest)) → IsBeyond old room
fed_beyond None new line room long found = tt
fed_beyond (Some bytes) new line room long (rest, is, first) = ((line, true), (raw_lines rest, first), long)

begins_long : (line rest : List ℕ) (room : ℕ) → NoFeed line → room < length line → StartsLong (raw_lines (line ++ rest)) (suc room)
begins_long [] rest room clean long = absurd (omega arith)
begins_long (b ∷ c) rest room clean long = let (line, first, many) = raw_longer b c rest clean in (line, first, omega arith)

pub unfed_beyond : (old new : Option (List ℕ)) (line : List ℕ) (room : ℕ) → Consumes old new line → NoFeed line → room < length line → IsBeyond old room
unfed_beyond None new line room taken clean long = tt
unfed_beyond (Some bytes) None line room taken clean long = absurd taken
unfed_beyond (Some bytes) (Some rest) line room taken clean long =
    subst (λ (bs : List ℕ). (l : RawLine) × ((later : List RawLine) × (raw_lines bs ≡ l ∷ later)) × (room < size l)) (sym taken)
    (let (l, first, many) = begins_long line rest room clean long in (l, first, omega arith))

pub none_of : (xs : List ℕ) → length xs ≡ 0 → xs ≡ []
none_of [] few = refl
none_of (x ∷ xs) few = absurd (omega arith)
