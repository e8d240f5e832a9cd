-- The tokens of a text of flow facts. A token takes as many bytes as it can.
use Rattle.std.specs.Prelude.{ℕ, zero, suc, ◌+◌, ◌-◌, ◌^◌, ◌&&◌, ◌==◌, nat_lt, if◌then◌else◌, List, [], ◌∷◌, codes, bytes_eq, map, drop, take, sum_by, Option, None, Some}
use Rattle.std.specs.Str.Parse.{digits_value}
use Rattle.wc_f4.specs.declared.tokens.Mark.{Mark}
use Rattle.wc_f4.specs.declared.tokens.Mark.TheVariants as sign
use Rattle.wc_f4.specs.declared.tokens.Word.{Word}
use Rattle.wc_f4.specs.declared.tokens.Word.TheVariants.{Loop, Multibranch, Multicall, Noreturn, Checksum, Limit, To, In, Other}
use Rattle.wc_f4.specs.declared.runs.Kind.TheVariants as kind
use Rattle.wc_f4.specs.Bytes.{is_blank, is_letter, is_digit, run, run_length, has_at, closing_length}

pub data Token : Type 0 where
  word : Word → Token
  number : ℕ → Token
  quoted : List ℕ → Token
  mark : Mark → Token
  -- an unended string or comment, a number of 2^32 or more, or a byte that begins no token
  wrong : Token
  text_end : Token

-- a word of small letters; all words that no fact has are alike
abbrev pub word_of : List ℕ → Word
word_of w =
    if bytes_eq w (codes "loop") then Loop else (if bytes_eq w (codes "multibranch") then Multibranch else
    (if bytes_eq w (codes "multicall") then Multicall else (if bytes_eq w (codes "noreturn") then Noreturn else
    (if bytes_eq w (codes "checksum") then Checksum else (if bytes_eq w (codes "limit") then Limit else
    (if bytes_eq w (codes "to") then To else (if bytes_eq w (codes "in") then In else Other)))))))

abbrev pub mark_of : ℕ → Token
mark_of b =
    if b == 59 then mark sign.Semicolon else (if b == 44 then mark sign.Comma else (if b == 63 then mark sign.Question else
    (if b == 43 then mark sign.Plus else (if b == 45 then mark sign.Minus else (if b == 42 then mark sign.Star else
    (if b == 91 then mark sign.Open else (if b == 93 then mark sign.Close else wrong)))))))

-- numbers are below 2^32
abbrev pub number_of : ℕ → List ℕ → Token
number_of base digits = if nat_lt (digits_value base digits) (2 ^ 32) then number (digits_value base digits) else wrong

-- What stands at the front of a text that isn't empty: a token, or nothing where it is a blank or a comment, and how many
-- bytes it takes.
abbrev pub Piece : Type 0
Piece = Option Token × ℕ

abbrev pub word_at : List ℕ → Piece
word_at rest = (Some (word (word_of (run kind.Letter rest))), run_length kind.Letter rest)

-- decimal digits, or `0x` and hexadecimal digits
abbrev pub number_at : List ℕ → Piece
number_at rest =
    if has_at rest 0 48 && has_at rest 1 120 && nat_lt 0 (run_length kind.Hexadecimal (drop 2 rest))
    then (Some (number_of 16 (run kind.Hexadecimal (drop 2 rest))), 2 + run_length kind.Hexadecimal (drop 2 rest))
    else (Some (number_of 10 (run kind.Decimal rest)), run_length kind.Decimal rest)

-- bytes between two quotation marks
abbrev pub quoted_at : List ℕ → Piece
quoted_at rest =
    if has_at rest (run_length kind.Quoted (drop 1 rest) + 1) 34
    then (Some (quoted (run kind.Quoted (drop 1 rest))), run_length kind.Quoted (drop 1 rest) + 2)
    else (Some wrong, 1)

abbrev pub closed_comment : Option ℕ → Piece
closed_comment None = (Some wrong, 1)
closed_comment (Some n) = (None, 2 + n)

-- from `//` to the end of the line, or from `/*` to the first `*/` behind it
abbrev pub comment_at : List ℕ → Piece
comment_at rest =
    if has_at rest 1 47 then (None, run_length kind.Line rest) else
    (if has_at rest 1 42 then closed_comment (closing_length (drop 2 rest)) else (Some wrong, 1))

abbrev pub at_most_at : List ℕ → Piece
at_most_at rest = if has_at rest 1 61 then (Some (mark sign.AtMost), 2) else (Some wrong, 1)

abbrev pub piece_from : ℕ → List ℕ → Piece
piece_from first rest =
    if is_blank first then (None, 1) else
    (if is_letter first then word_at rest else
    (if is_digit first then number_at rest else
    (if first == 34 then quoted_at rest else
    (if first == 47 then comment_at rest else
    (if first == 60 then at_most_at rest else
    (Some (mark_of first), 1))))))

unfoldable pub piece_at : ℕ → List ℕ → Piece
piece_at first rest = piece_from first rest

-- a token and the place of its first byte
abbrev pub Placed : Type 0
Placed = Token × ℕ

abbrev pub with_token : Option Token → ℕ → List Placed → List Placed
with_token None place rest = rest
with_token (Some t) place rest = (t, place) ∷ rest

-- The tokens of the bytes that stand from a place on, of which the first `inside` belong to the piece before. The end of the
-- text is a token.
unfoldable pub tokens_from : ℕ → ℕ → List ℕ → List Placed
tokens_from place inside [] = (text_end, place) ∷ []
tokens_from place (suc inside) (b ∷ bs) = tokens_from (suc place) inside bs
tokens_from place zero (b ∷ bs) = with_token (piece_at b (b ∷ bs)).0 place (tokens_from (suc place) ((piece_at b (b ∷ bs)).1 - 1) bs)

abbrev pub placed_tokens : List ℕ → List Placed
placed_tokens text = tokens_from 0 0 text

abbrev pub tokens_of : List Placed → List Token
tokens_of placed = map (λ p. p.0) placed

-- the line of a place, from 1
abbrev pub line_at : List ℕ → ℕ → ℕ
line_at text place = 1 + sum_by (λ b. if b == 10 then 1 else 0) (take place text)
