-- The tokens of a text, piece by piece.
use Rattle.std.proofs.Common.{◌≡◌, ℕ, zero, suc, ◌+◌, ◌-◌, ◌≤◌, Bool, true, false, cond, ◌&&◌, ◌==◌, nat_lt, List, [], ◌∷◌, length, slice_index, drop, Option, None, Some, refl, sym, ap, ◌∙◌, arith, add-zero, ◌⊎◌, inl, inr}
use Rattle.std.proofs.lemmas.List.{drop_all}
use Rattle.std.proofs.lemmas.Grind.{common_steps}
use Rattle.std.specs.Prelude.{option_map}
use Rattle.wc_f4.specs.Bytes.{IsInside, run, run_length, closing_length, is_blank, is_letter, is_digit, has_at}
use Rattle.wc_f4.specs.Tokens.{Token, Piece, Placed, piece_at, number_of, closed_comment, mark_of, tokens_from, with_token, word, number, quoted, mark, wrong, text_end}
use Rattle.wc_f4.specs.declared.tokens.Mark.{Mark}
use Rattle.wc_f4.specs.declared.tokens.Word.{Word}
use Rattle.wc_f4.specs.declared.runs.Kind.TheVariants as kind
use Rattle.wc_f4.specs.declared.pieces.Piece.{Piece as CodePiece}
use Rattle.wc_f4.specs.declared.readers.Reader.{Reader}
use Rattle.wc_f4.specs.declared.tokens.Token.{Token as CodeToken}
use Rattle.wc_f4.specs.declared.tokens.Token.TheVariants as code
use Rattle.wc_f4.specs.Views.{seen, piece_of, behind, from_placed, left}

-- what is left of a piece is passed over
pass : (bytes : List ℕ) (place inside : ℕ) → inside ≤ length bytes → tokens_from place inside bytes ≡ tokens_from (place + inside) 0 (drop inside bytes)
unfolding tokens_from
pass bytes place zero few = rw add-zero refl
pass [] place (suc inside) few = absurd (omega arith)
pass (b ∷ bs) place (suc inside) few =
    let same : suc place + inside ≡ place + suc inside = omega arith in
    pass bs (suc place) inside (omega arith) ∙ ap (λ p. tokens_from p 0 (drop inside bs)) same

tokens_nil : (place : ℕ) → tokens_from place 0 [] ≡ (text_end, place) ∷ []
unfolding tokens_from
tokens_nil place = refl

tokens_cons : (place b : ℕ) (bs : List ℕ)
    → tokens_from place 0 (b ∷ bs) ≡ with_token (piece_at b (b ∷ bs)).0 place (tokens_from (suc place) ((piece_at b (b ∷ bs)).1 - 1) bs)
unfolding tokens_from
tokens_cons place b bs = refl

pub tokens_end : (text : List ℕ) (place : ℕ) → length text ≤ place → tokens_from place 0 (drop place text) ≡ (text_end, place) ∷ []
tokens_end text place end = rw (drop_all place text end) (tokens_nil place)

-- the first piece of bytes gives its token, and the rest stands behind it
pub first_piece : (place : ℕ) (bytes : List ℕ) (token : Option Token) (n : ℕ) → piece_at (slice_index bytes 0) bytes ≡ (token, n) → IsInside n bytes
    → tokens_from place 0 bytes ≡ with_token token place (tokens_from (place + n) 0 (drop n bytes))
first_piece place [] token n is inside = absurd (omega arith)
first_piece place (b ∷ bs) token zero is inside = absurd (omega arith)
first_piece place (b ∷ bs) token (suc m) is inside =
    let one_less : suc m - 1 ≡ m = omega arith in
    let next : suc place + m ≡ place + suc m = omega arith in
    tokens_cons place b bs
    ∙ ap (λ (p : Piece). with_token p.0 place (tokens_from (suc place) (p.1 - 1) bs)) is
    ∙ ap (λ (k : ℕ). with_token token place (tokens_from (suc place) k bs)) one_less
    ∙ ap (with_token token place) (pass bs (suc place) m (omega arith) ∙ ap (λ (q : ℕ). tokens_from q 0 (drop m bs)) next)

-- no piece is the end of the text
abbrev NoEnd : Option Token → Type 0
NoEnd token = token ≡ Some text_end → ⊥

either : (b : Bool) (x y : Piece) → NoEnd x.0 → NoEnd y.0 → NoEnd (cond b x y).0
either true x y first second = first
either false x y first second = second

either_token : (b : Bool) (x y : Token) → (x ≡ text_end → ⊥) → (y ≡ text_end → ⊥) → cond b x y ≡ text_end → ⊥
either_token true x y first second = first
either_token false x y first second = second

mark_other : (m : Mark) → mark m ≡ text_end → ⊥
mark_other m is = cc

wrong_other : wrong ≡ text_end → ⊥
wrong_other is = cc

number_other : (n : ℕ) → number n ≡ text_end → ⊥
number_other n is = cc

some_no_end : (t : Token) → (t ≡ text_end → ⊥) → NoEnd (Some t)
some_no_end t other is = other (cc)

none_no_end : NoEnd None
none_no_end is = cc

wrong_no_end : NoEnd (Some wrong)
wrong_no_end is = cc

word_no_end : (w : Word) → NoEnd (Some (word w))
word_no_end w is = cc

quoted_no_end : (s : List ℕ) → NoEnd (Some (quoted s))
quoted_no_end s is = cc

number_no_end : (base : ℕ) (digits : List ℕ) → NoEnd (Some (number_of base digits))
number_no_end base digits = some_no_end (number_of base digits) (either_token _ (number _) wrong (number_other _) wrong_other)

closed_no_end : (n : Option ℕ) → NoEnd (closed_comment n).0
closed_no_end None = wrong_no_end
closed_no_end (Some n) = none_no_end

a_mark : (t : Bool) (m : Mark) (y : Token) → (y ≡ text_end → ⊥) → cond t (mark m) y ≡ text_end → ⊥
a_mark t m y other = either_token t (mark m) y (mark_other m) other

mark_no_end : (b : ℕ) → NoEnd (Some (mark_of b))
mark_no_end b =
    some_no_end (mark_of b) (a_mark (b == 59) _ _ (a_mark (b == 44) _ _ (a_mark (b == 63) _ _ (a_mark (b == 43) _ _
    (a_mark (b == 45) _ _ (a_mark (b == 42) _ _ (a_mark (b == 91) _ _ (a_mark (b == 93) _ _ wrong_other))))))))

pub no_end : (first : ℕ) (rest : List ℕ) → NoEnd (piece_at first rest).0
unfolding piece_at
no_end first rest =
    either (is_blank first) _ _ none_no_end
    (either (is_letter first) _ _ (word_no_end _)
    (either (is_digit first) _ _
    (either (has_at rest 0 48 && has_at rest 1 120 && nat_lt 0 (run_length kind.Hexadecimal (drop 2 rest))) _ _ (number_no_end 16 (run kind.Hexadecimal (drop 2 rest))) (number_no_end 10 (run kind.Decimal rest)))
    (either (first == 34) _ _ (either (has_at rest (run_length kind.Quoted (drop 1 rest) + 1) 34) _ _ (quoted_no_end _) wrong_no_end)
    (either (first == 47) _ _ (either (has_at rest 1 47) _ _ none_no_end (either (has_at rest 1 42) _ _ (closed_no_end (closing_length (drop 2 rest))) wrong_no_end))
    (either (first == 60) _ _ (either (has_at rest 1 61) _ _ (some_no_end _ (mark_other _)) wrong_no_end)
    (mark_no_end first))))))

-- the code's pieces
behind_is : (t : CodeToken) (after : ℕ) (text : List ℕ) → (seen t ≡ text_end → ⊥) → behind t after text ≡ tokens_from after 0 (drop after text)
behind_is (code.Word w) after text other = refl
behind_is (code.Number n) after text other = refl
behind_is (code.Quoted s) after text other = refl
behind_is (code.Mark m) after text other = refl
behind_is code.Wrong after text other = refl
behind_is code.End after text other = absurd (other refl)

drop-drop_here : (text : List ℕ) (i n : ℕ) → drop n (drop i text) ≡ drop (i + n) text
drop-drop_here text i n = grind (arith, common_steps)

pub found_token : (text rest : List ℕ) (place : ℕ) (t : CodeToken) (p : CodePiece) → rest ≡ drop place text → p.token ≡ Some t
    → piece_of p ≡ piece_at (slice_index rest 0) rest → IsInside p.length rest
    → tokens_from place 0 (drop place text) ≡ from_placed text (record { token = t; place = place; after = place + p.length })
found_token text rest place t p same is piece inside =
    let pair : piece_at (slice_index rest 0) rest ≡ (Some (seen t), p.length) = sym piece ∙ ap (λ (o : Option CodeToken). (option_map seen o, p.length)) is in
    let other : seen t ≡ text_end → ⊥ = λ end. no_end (slice_index rest 0) rest (ap (λ (q : Piece). q.0) pair ∙ ap Some end) in
    ap (tokens_from place 0) (sym same)
    ∙ first_piece place rest (Some (seen t)) p.length pair inside
    ∙ ap (λ (r : List ℕ). (seen t, place) ∷ tokens_from (place + p.length) 0 (drop p.length r)) same
    ∙ ap (λ (r : List ℕ). (seen t, place) ∷ tokens_from (place + p.length) 0 r) (drop-drop_here text place p.length)
    ∙ ap (λ (ts : List Placed). (seen t, place) ∷ ts) (sym (behind_is t (place + p.length) text other))

pub passed_piece : (text rest : List ℕ) (place : ℕ) (p : CodePiece) → rest ≡ drop place text → p.token ≡ None
    → piece_of p ≡ piece_at (slice_index rest 0) rest → IsInside p.length rest
    → tokens_from (place + p.length) 0 (drop (place + p.length) text) ≡ tokens_from place 0 (drop place text)
passed_piece text rest place p same is piece inside =
    let pair : piece_at (slice_index rest 0) rest ≡ (None, p.length) = sym piece ∙ ap (λ (o : Option CodeToken). (option_map seen o, p.length)) is in
    sym (ap (tokens_from place 0) (sym same)
    ∙ first_piece place rest None p.length pair inside
    ∙ ap (λ (r : List ℕ). tokens_from (place + p.length) 0 (drop p.length r)) same
    ∙ ap (tokens_from (place + p.length) 0) (drop-drop_here text place p.length))

pub read_on : (r : Reader) (t : CodeToken) (new : List Placed) → r.next.token ≡ t → behind r.next.token r.next.after r.text.now ≡ new
    → left r ≡ (seen t, r.next.place) ∷ new
unfolding left
read_on r t new is on =
    ap (λ s. (seen s, r.next.place) ∷ behind r.next.token r.next.after r.text.now) is ∙ ap (λ rest. (seen t, r.next.place) ∷ rest) on

-- the end of the text is the last token, and no other one
abbrev pub IsEnded : List Placed → Type 0
IsEnded [] = ⊥
IsEnded (t ∷ ts) = ((t.0 ≡ text_end) × (ts ≡ [])) ⊎ ((t.0 ≡ text_end → ⊥) × IsEnded ts)

ended_with : (t : Option Token) (place : ℕ) (rest : List Placed) → NoEnd t → IsEnded rest → IsEnded (with_token t place rest)
ended_with None place rest other ended = ended
ended_with (Some t) place rest other ended = inr (λ is. other (ap Some is), ended)

pub tokens_ended : (bytes : List ℕ) (place inside : ℕ) → IsEnded (tokens_from place inside bytes)
unfolding tokens_from
tokens_ended [] place inside = inl (refl, refl)
tokens_ended (b ∷ bs) place (suc inside) = tokens_ended bs (suc place) inside
tokens_ended (b ∷ bs) place zero = ended_with (piece_at b (b ∷ bs)).0 place _ (no_end b (b ∷ bs)) (tokens_ended bs (suc place) ((piece_at b (b ∷ bs)).1 - 1))
