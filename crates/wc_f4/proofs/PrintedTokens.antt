-- The tokens of a printed fact.
use Rattle.std.proofs.Common.{◌≡◌, ℕ, zero, suc, ◌+◌, ◌-◌, ◌/◌, ◌%◌, ◌^◌, ◌<◌, Bool, true, false, ◌&&◌, ◌==◌, cond, nat_lt, List, [], ◌∷◌, ◌++◌, length, take, drop, get_or, slice_index, Option, None, Some, refl, ap, ◌∙◌, arith, add-one, length-append, ⊎_elim, decimal}
use Rattle.std.proofs.Math.Seq.{drop-append_seam}
use Rattle.std.proofs.lemmas.Bool.{eq-eqb}
use Rattle.std.proofs.lemmas.Bool.Decides.{nat_tests}
use Rattle.std.proofs.lemmas.Str.Parse.{digit_at}
use Rattle.std.proofs.str.Laws.{order}
use Rattle.std.proofs.lemmas.Fmt.{decimal_is_IsNumeral}
use Rattle.std.proofs.lemmas.Grind.{common_steps}
use Rattle.std.specs.List.{AllByRecursion}
use Rattle.std.specs.Prelude.{codes}
use Rattle.std.specs.Char.{digit_value}
use Rattle.std.specs.Str.Parse.{AllDigits, digits_value}
use Rattle.wc_base.specs.FaultTexts.{address, hex_digit}
use Rattle.wc_f4.specs.declared.runs.Kind.{Kind}
use Rattle.wc_f4.specs.declared.runs.Kind.TheVariants as kind
use Rattle.wc_f4.specs.declared.tokens.Mark.TheVariants as sign
use Rattle.wc_f4.specs.declared.tokens.Word.TheVariants as keyword
use Rattle.wc_f4.specs.Bytes.{IsInside, has_at, is_blank, is_digit, is_hexadecimal, is_letter, is_of, is_quoted, run_length}
use Rattle.wc_f4.specs.Tokens.{Token, Placed, number_at, number_of, piece_at, quoted_at, tokens_from, tokens_of, with_token, word, number, quoted, mark, wrong, text_end}
use Rattle.wc_f4.proofs.RunLemmas.{number_below}
use Rattle.wc_f4.proofs.TokenLemmas.{first_piece}

-- the tokens of bytes, without their places
abbrev pub lex : List ℕ → List Token
lex bytes = tokens_of (tokens_from 0 0 bytes)

with_token_alike : (t : Option Token) (p q : ℕ) (us vs : List Placed) → tokens_of us ≡ tokens_of vs → tokens_of (with_token t p us) ≡ tokens_of (with_token t q vs)
with_token_alike None p q us vs same = same
with_token_alike (Some t) p q us vs same = ap (λ (ts : List Token). t ∷ ts) same

anywhere : (bytes : List ℕ) (p q inside : ℕ) → tokens_of (tokens_from p inside bytes) ≡ tokens_of (tokens_from q inside bytes)
unfolding tokens_from
anywhere [] p q inside = refl
anywhere (b ∷ bs) p q (suc inside) = anywhere bs (suc p) (suc q) inside
anywhere (b ∷ bs) p q zero = with_token_alike (piece_at b (b ∷ bs)).0 p q _ _ (anywhere bs (suc p) (suc q) ((piece_at b (b ∷ bs)).1 - 1))

-- the first piece's token, and the tokens behind it
lex_token : (b : ℕ) (bs rest : List ℕ) (t : Token) (n : ℕ) → piece_at b (b ∷ bs) ≡ (Some t, n) → IsInside n (b ∷ bs) → drop n (b ∷ bs) ≡ rest → lex (b ∷ bs) ≡ t ∷ lex rest
lex_token b bs rest t n is inside left =
    ap tokens_of (first_piece 0 (b ∷ bs) (Some t) n is inside)
    ∙ ap (λ (ts : List Token). t ∷ ts) (anywhere (drop n (b ∷ bs)) (0 + n) 0 0 ∙ ap lex left)

lex_none : (b : ℕ) (bs rest : List ℕ) (n : ℕ) → piece_at b (b ∷ bs) ≡ (None, n) → IsInside n (b ∷ bs) → drop n (b ∷ bs) ≡ rest → lex (b ∷ bs) ≡ lex rest
lex_none b bs rest n is inside left =
    ap tokens_of (first_piece 0 (b ∷ bs) None n is inside) ∙ anywhere (drop n (b ∷ bs)) (0 + n) 0 0 ∙ ap lex left

pub lex_space : (rest : List ℕ) → lex (32 ∷ rest) ≡ lex rest
unfolding piece_at
lex_space rest = lex_none 32 rest rest 1 refl (omega arith, omega arith) refl

pub lex_semicolon : (rest : List ℕ) → lex (59 ∷ rest) ≡ mark sign.Semicolon ∷ lex rest
unfolding piece_at
lex_semicolon rest = lex_token 59 rest rest (mark sign.Semicolon) 1 refl (omega arith, omega arith) refl

pub lex_comma : (rest : List ℕ) → lex (44 ∷ rest) ≡ mark sign.Comma ∷ lex rest
unfolding piece_at
lex_comma rest = lex_token 44 rest rest (mark sign.Comma) 1 refl (omega arith, omega arith) refl

pub lex_question : (rest : List ℕ) → lex (63 ∷ rest) ≡ mark sign.Question ∷ lex rest
unfolding piece_at
lex_question rest = lex_token 63 rest rest (mark sign.Question) 1 refl (omega arith, omega arith) refl

pub lex_plus : (rest : List ℕ) → lex (43 ∷ rest) ≡ mark sign.Plus ∷ lex rest
unfolding piece_at
lex_plus rest = lex_token 43 rest rest (mark sign.Plus) 1 refl (omega arith, omega arith) refl

pub lex_star : (rest : List ℕ) → lex (42 ∷ rest) ≡ mark sign.Star ∷ lex rest
unfolding piece_at
lex_star rest = lex_token 42 rest rest (mark sign.Star) 1 refl (omega arith, omega arith) refl

pub lex_open : (rest : List ℕ) → lex (91 ∷ rest) ≡ mark sign.Open ∷ lex rest
unfolding piece_at
lex_open rest = lex_token 91 rest rest (mark sign.Open) 1 refl (omega arith, omega arith) refl

pub lex_close : (rest : List ℕ) → lex (93 ∷ rest) ≡ mark sign.Close ∷ lex rest
unfolding piece_at
lex_close rest = lex_token 93 rest rest (mark sign.Close) 1 refl (omega arith, omega arith) refl

-- a byte at a place
here : (x y : ℕ) (xs : List ℕ) → has_at (x ∷ xs) 0 y ≡ (x == y)
here x y xs = let some : nat_lt 0 (length (x ∷ xs)) ≡ true = grind (arith, nat_tests) in rw some refl

second : (x y z : ℕ) (xs : List ℕ) → has_at (x ∷ z ∷ xs) 1 y ≡ (z == y)
second x y z xs = let some : nat_lt 1 (length (x ∷ z ∷ xs)) ≡ true = grind (arith, nat_tests) in rw some refl

pub lex_at_most : (rest : List ℕ) → lex (60 ∷ 61 ∷ rest) ≡ mark sign.AtMost ∷ lex rest
unfolding piece_at
lex_at_most rest = lex_token 60 (61 ∷ rest) rest (mark sign.AtMost) 2 (ap (λ (b : Bool). cond b (Some (mark sign.AtMost), 2) (Some wrong, 1)) (second 60 61 61 rest)) (omega arith, omega arith) refl

-- words, each with the blank behind it
lex_word : (b : ℕ) (bs rest : List ℕ) (t : Token) (n : ℕ) → piece_at b (b ∷ bs) ≡ (Some t, n) → IsInside n (b ∷ bs) → drop n (b ∷ bs) ≡ 32 ∷ rest → lex (b ∷ bs) ≡ t ∷ lex rest
lex_word b bs rest t n is inside left = lex_token b bs (32 ∷ rest) t n is inside left ∙ ap (λ (ts : List Token). t ∷ ts) (lex_space rest)

pub lex_loop : (rest : List ℕ) → lex (codes "loop " ++ rest) ≡ word keyword.Loop ∷ lex rest
unfolding piece_at run_length
lex_loop rest = lex_word 108 _ rest (word keyword.Loop) 4 refl (omega arith, omega arith) refl

pub lex_multibranch : (rest : List ℕ) → lex (codes "multibranch " ++ rest) ≡ word keyword.Multibranch ∷ lex rest
unfolding piece_at run_length
lex_multibranch rest = lex_word 109 _ rest (word keyword.Multibranch) 11 refl (omega arith, omega arith) refl

pub lex_multicall : (rest : List ℕ) → lex (codes "multicall " ++ rest) ≡ word keyword.Multicall ∷ lex rest
unfolding piece_at run_length
lex_multicall rest = lex_word 109 _ rest (word keyword.Multicall) 9 refl (omega arith, omega arith) refl

pub lex_noreturn : (rest : List ℕ) → lex (codes "noreturn " ++ rest) ≡ word keyword.Noreturn ∷ lex rest
unfolding piece_at run_length
lex_noreturn rest = lex_word 110 _ rest (word keyword.Noreturn) 8 refl (omega arith, omega arith) refl

pub lex_checksum : (rest : List ℕ) → lex (codes "checksum " ++ rest) ≡ word keyword.Checksum ∷ lex rest
unfolding piece_at run_length
lex_checksum rest = lex_word 99 _ rest (word keyword.Checksum) 8 refl (omega arith, omega arith) refl

pub lex_limit : (rest : List ℕ) → lex (codes "limit " ++ rest) ≡ word keyword.Limit ∷ lex rest
unfolding piece_at run_length
lex_limit rest = lex_word 108 _ rest (word keyword.Limit) 5 refl (omega arith, omega arith) refl

pub lex_to : (rest : List ℕ) → lex (codes "to " ++ rest) ≡ word keyword.To ∷ lex rest
unfolding piece_at run_length
lex_to rest = lex_word 116 _ rest (word keyword.To) 2 refl (omega arith, omega arith) refl

pub lex_in : (rest : List ℕ) → lex (codes "in " ++ rest) ≡ word keyword.In ∷ lex rest
unfolding piece_at run_length
lex_in rest = lex_word 105 _ rest (word keyword.In) 2 refl (omega arith, omega arith) refl

-- runs of bytes of a kind, before another byte
run_over : (k : Kind) (ds rest : List ℕ) → AllByRecursion (λ b. is_of k b ≡ true) ds → run_length k rest ≡ 0 → run_length k (ds ++ rest) ≡ length ds
unfolding run_length
run_over k [] rest all stops = stops
run_over k (d ∷ ds) rest (is, all) stops = rw is (ap suc (run_over k ds rest all stops))

stop_here : (k : Kind) (b : ℕ) (rest : List ℕ) → is_of k b ≡ false → run_length k (b ∷ rest) ≡ 0
unfolding run_length
stop_here k b rest other = rw other refl

-- a byte that ends a number
pub record Breaks (rest : List ℕ) : Type 0 where
  pub byte : ℕ
  pub more : List ℕ
  pub is : rest ≡ byte ∷ more
  pub no_digit : is_digit byte ≡ false
  pub no_hexadecimal : is_hexadecimal byte ≡ false
  pub no_x : (byte == 120) ≡ false

pub breaks : (b : ℕ) (rest : List ℕ) → is_digit b ≡ false → is_hexadecimal b ≡ false → (b == 120) ≡ false → Breaks (b ∷ rest)
breaks b rest digit hexadecimal x = record { byte = b; more = rest; is = refl; no_digit = digit; no_hexadecimal = hexadecimal; no_x = x }

taken : (ds rest : List ℕ) → take (length ds) (ds ++ rest) ≡ ds
taken ds rest = grind (arith, common_steps)

seam : (s rest : List ℕ) (x : ℕ) → drop (suc (suc (length s))) (x ∷ (s ++ x ∷ rest)) ≡ rest
seam [] rest x = refl
seam (b ∷ s) rest x = seam s rest x

-- strings
at_seam : (s rest : List ℕ) (x : ℕ) → get_or (s ++ x ∷ rest) (length s) 0 ≡ x
at_seam [] rest x = refl
at_seam (b ∷ s) rest x = at_seam s rest x

has_at_is : (bytes : List ℕ) (place x : ℕ) → place < length bytes → slice_index bytes place ≡ x → has_at bytes place x ≡ true
has_at_is bytes place x more is = let inside : nat_lt place (length bytes) ≡ true = grind (arith, nat_tests) in rw inside (eq-eqb (slice_index bytes place) x is)

quoted_piece : (bytes : List ℕ) (n : ℕ) → run_length kind.Quoted (drop 1 bytes) ≡ n → has_at bytes (n + 1) 34 ≡ true → quoted_at bytes ≡ (Some (quoted (take n (drop 1 bytes))), n + 2)
quoted_piece bytes n count closed = rw (count, closed) refl

pub lex_quoted : (s rest : List ℕ) → AllByRecursion (λ b. is_quoted b ≡ true) s → lex (34 ∷ (s ++ 34 ∷ rest)) ≡ quoted s ∷ lex rest
unfolding piece_at
lex_quoted s rest all =
    let count : run_length kind.Quoted (s ++ 34 ∷ rest) ≡ length s = run_over kind.Quoted s (34 ∷ rest) all (stop_here kind.Quoted 34 rest refl) in
    let long : length (s ++ 34 ∷ rest) ≡ length s + suc (length rest) = length-append s (34 ∷ rest) in
    let next : slice_index (34 ∷ (s ++ 34 ∷ rest)) (length s + 1) ≡ 34 = rw add-one (at_seam s rest 34) in
    let closed : has_at (34 ∷ (s ++ 34 ∷ rest)) (length s + 1) 34 ≡ true = has_at_is (34 ∷ (s ++ 34 ∷ rest)) (length s + 1) 34 (omega (arith, long)) next in
    let two : length s + 2 ≡ suc (length s + 1) = omega arith in
    let one : length s + 1 ≡ suc (length s) = omega arith in
    let left : drop (length s + 2) (34 ∷ (s ++ 34 ∷ rest)) ≡ rest = rw (two, one) (seam s rest 34) in
    lex_token 34 (s ++ 34 ∷ rest) rest (quoted s) (length s + 2)
    (quoted_piece (34 ∷ (s ++ 34 ∷ rest)) (length s) count closed ∙ ap (λ (t : List ℕ). (Some (quoted t), length s + 2)) (taken s (34 ∷ rest)))
    (omega arith, omega (arith, long))
    left

number_is : (base n : ℕ) (ds : List ℕ) → digits_value base ds ≡ n → n < 2 ^ 32 → number_of base ds ≡ number n
number_is base n ds is small = number_below (digits_value base ds) (omega (arith, is)) ∙ ap number is

-- hexadecimal digits
hex_is : (d : ℕ) → d < 16 → is_hexadecimal (hex_digit d) ≡ true
hex_is d few = ⊎_elim
    (λ low. let small : nat_lt d 10 ≡ true = grind (arith, nat_tests) in rw small (grind (arith, nat_tests)))
    (λ high. let great : nat_lt d 10 ≡ false = grind (arith, nat_tests) in rw great (grind (arith, nat_tests)))
    (order d 10)

hex_value : (d : ℕ) → d < 16 → digit_value (hex_digit d) ≡ d
hex_value d few = ⊎_elim
    (λ low. let small : nat_lt d 10 ≡ true = grind (arith, nat_tests) in rw small (grind (arith, nat_tests)))
    (λ high. let great : nat_lt d 10 ≡ false = grind (arith, nat_tests) in rw great (grind (arith, nat_tests)))
    (order d 10)

number_hex : (ds rest : List ℕ) → AllByRecursion (λ b. is_hexadecimal b ≡ true) ds → 0 < length ds → run_length kind.Hexadecimal rest ≡ 0
    → number_at (48 ∷ 120 ∷ (ds ++ rest)) ≡ (Some (number_of 16 ds), 2 + length ds)
number_hex ds rest all some stops =
    let count : run_length kind.Hexadecimal (ds ++ rest) ≡ length ds = run_over kind.Hexadecimal ds rest all stops in
    let more : nat_lt 0 (length ds) ≡ true = grind (arith, nat_tests) in
    let zero_first : has_at (48 ∷ 120 ∷ (ds ++ rest)) 0 48 ≡ true = here 48 48 (120 ∷ (ds ++ rest)) in
    let x_second : has_at (48 ∷ 120 ∷ (ds ++ rest)) 1 120 ≡ true = second 48 120 120 (ds ++ rest) in
    rw (zero_first, x_second, count, more, taken ds rest) refl

nibble : (at p : ℕ) → at / p % 16 < 16
nibble at p = omega arith

pub lex_address : (at : ℕ) (rest : List ℕ) → at < 2 ^ 32 → Breaks rest → lex (address at ++ rest) ≡ number at ∷ lex rest
unfolding piece_at
lex_address at rest small ends =
    let ds : List ℕ = drop 2 (address at) in
    let stops : run_length kind.Hexadecimal rest ≡ 0 = ap (run_length kind.Hexadecimal) ends.is ∙ stop_here kind.Hexadecimal ends.byte ends.more ends.no_hexadecimal in
    let all : AllByRecursion (λ b. is_hexadecimal b ≡ true) ds = (hex_is (at / 2 ^ 28 % 16) (omega arith), (hex_is (at / 2 ^ 24 % 16) (omega arith), (hex_is (at / 2 ^ 20 % 16) (omega arith), (hex_is (at / 2 ^ 16 % 16) (omega arith), (hex_is (at / 2 ^ 12 % 16) (omega arith), (hex_is (at / 2 ^ 8 % 16) (omega arith), (hex_is (at / 2 ^ 4 % 16) (omega arith), (hex_is (at % 16) (omega arith), tt)))))))) in
    let value : digits_value 16 ds ≡ at = rw (hex_value (at / 2 ^ 28 % 16) (omega arith), hex_value (at / 2 ^ 24 % 16) (omega arith), hex_value (at / 2 ^ 20 % 16) (omega arith), hex_value (at / 2 ^ 16 % 16) (omega arith), hex_value (at / 2 ^ 12 % 16) (omega arith), hex_value (at / 2 ^ 8 % 16) (omega arith), hex_value (at / 2 ^ 4 % 16) (omega arith), hex_value (at % 16) (omega arith)) (omega arith) in
    lex_token 48 (120 ∷ (ds ++ rest)) rest (number at) 10
    (number_hex ds rest all (omega arith) stops ∙ ap (λ (t : Token). (Some t, 10)) (number_is 16 at ds value small))
    (omega arith, omega arith)
    refl

-- decimal digits
decimal_all : (ds : List ℕ) → AllDigits 10 ds → AllByRecursion (λ b. is_digit b ≡ true) ds
decimal_all [] all = tt
decimal_all (d ∷ ds) all = let range = digit_at (d ∷ ds) 0 all (omega arith) in (grind (arith, nat_tests, range.0, range.1), decimal_all ds all.1)

and_false : (a c : Bool) → (a && false && c) ≡ false
and_false true c = refl
and_false false c = refl

not_x : (ds rest : List ℕ) → 0 < length ds → AllByRecursion (λ b. is_digit b ≡ true) ds → Breaks rest → has_at (ds ++ rest) 1 120 ≡ false
not_x [] rest some all ends = absurd (omega arith)
not_x (d ∷ []) rest some all ends = ap (λ (r : List ℕ). has_at (d ∷ r) 1 120) ends.is ∙ second d 120 ends.byte ends.more ∙ ends.no_x
not_x (d ∷ e ∷ ds) rest some all ends = second d 120 e (ds ++ rest) ∙ digit_not_x e all.1.0
  where
    digit_not_x : (b : ℕ) → is_digit b ≡ true → (b == 120) ≡ false
    digit_not_x b is = grind (arith, nat_tests)

number_dec : (ds rest : List ℕ) → AllByRecursion (λ b. is_digit b ≡ true) ds → 0 < length ds → Breaks rest → number_at (ds ++ rest) ≡ (Some (number_of 10 ds), length ds)
number_dec ds rest all some ends =
    let stops : run_length kind.Decimal rest ≡ 0 = ap (run_length kind.Decimal) ends.is ∙ stop_here kind.Decimal ends.byte ends.more ends.no_digit in
    let count : run_length kind.Decimal (ds ++ rest) ≡ length ds = run_over kind.Decimal ds rest all stops in
    rw (not_x ds rest some all ends, and_false, count, taken ds rest) refl

digit_piece : (d : ℕ) (bytes : List ℕ) → is_digit d ≡ true → piece_at d bytes ≡ number_at bytes
unfolding piece_at
digit_piece d bytes is =
    let no_blank : is_blank d ≡ false = grind (arith, nat_tests) in
    let no_letter : is_letter d ≡ false = grind (arith, nat_tests) in
    rw (no_blank, no_letter, is) refl

decimal_lex : (ds : List ℕ) (n : ℕ) (rest : List ℕ) → 0 < length ds → AllDigits 10 ds → digits_value 10 ds ≡ n → n < 2 ^ 32 → Breaks rest → lex (ds ++ rest) ≡ number n ∷ lex rest
decimal_lex [] n rest some all value small ends = absurd (omega arith)
decimal_lex (d ∷ ds) n rest some all value small ends =
    let digits = decimal_all (d ∷ ds) all in
    lex_token d (ds ++ rest) rest (number n) (length (d ∷ ds))
    (digit_piece d (d ∷ (ds ++ rest)) digits.0 ∙ number_dec (d ∷ ds) rest digits some ends
    ∙ ap (λ (t : Token). (Some t, length (d ∷ ds))) (number_is 10 n (d ∷ ds) value small))
    (omega arith, omega (arith, length-append ds rest))
    (drop-append_seam (d ∷ ds) rest)

pub lex_decimal : (n : ℕ) (rest : List ℕ) → n < 2 ^ 32 → Breaks rest → lex (decimal n ++ rest) ≡ number n ∷ lex rest
lex_decimal n rest small ends = let numeral = decimal_is_IsNumeral n (omega arith) in decimal_lex (decimal n) n rest numeral.0.0 numeral.0.1 numeral.1 small ends

pub lex_nothing : lex [] ≡ text_end ∷ []
unfolding tokens_from
lex_nothing = refl
