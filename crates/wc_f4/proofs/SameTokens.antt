-- Which tokens are one mark or one word.
use Rattle.std.proofs.Common.{◌≡◌, Bool, true, false, cond, refl, ap}
use Rattle.wc_f4.specs.declared.tokens.Mark.{Mark}
use Rattle.wc_f4.specs.declared.tokens.Mark.TheVariants as sign
use Rattle.wc_f4.specs.declared.tokens.Word.{Word}
use Rattle.wc_f4.specs.declared.tokens.Word.TheVariants as keyword
use Rattle.wc_f4.specs.Places.{Turn, is_this, on_this, same_mark, same_word}
use Rattle.wc_f4.specs.Tokens.{Token, word, mark}

same_is : (m k : Mark) → same_mark m k ≡ true → m ≡ k
same_is sign.Semicolon sign.Semicolon is = refl
same_is sign.Comma sign.Comma is = refl
same_is sign.Question sign.Question is = refl
same_is sign.Plus sign.Plus is = refl
same_is sign.Minus sign.Minus is = refl
same_is sign.Star sign.Star is = refl
same_is sign.Open sign.Open is = refl
same_is sign.Close sign.Close is = refl
same_is sign.AtMost sign.AtMost is = refl
same_is _ _ is = absurd (cc)

same_word_is : (w v : Word) → same_word w v ≡ true → w ≡ v
same_word_is keyword.Loop keyword.Loop is = refl
same_word_is keyword.Multibranch keyword.Multibranch is = refl
same_word_is keyword.Multicall keyword.Multicall is = refl
same_word_is keyword.Noreturn keyword.Noreturn is = refl
same_word_is keyword.Checksum keyword.Checksum is = refl
same_word_is keyword.Limit keyword.Limit is = refl
same_word_is keyword.To keyword.To is = refl
same_word_is keyword.In keyword.In is = refl
same_word_is keyword.Other keyword.Other is = refl
same_word_is _ _ is = absurd (cc)

pub this_is : (u t : Token) → is_this u t ≡ true → u ≡ t
this_is (mark m) (mark k) is = ap mark (same_is m k is)
this_is (word w) (word v) is = ap word (same_word_is w v is)
this_is _ _ is = absurd (cc)

same_other : (m k : Mark) → (k ≡ m → ⊥) → same_mark m k ≡ false
same_other sign.Semicolon sign.Semicolon other = absurd (other refl)
same_other sign.Comma sign.Comma other = absurd (other refl)
same_other sign.Question sign.Question other = absurd (other refl)
same_other sign.Plus sign.Plus other = absurd (other refl)
same_other sign.Minus sign.Minus other = absurd (other refl)
same_other sign.Star sign.Star other = absurd (other refl)
same_other sign.Open sign.Open other = absurd (other refl)
same_other sign.Close sign.Close other = absurd (other refl)
same_other sign.AtMost sign.AtMost other = absurd (other refl)
same_other _ _ other = refl

same_word_other : (w v : Word) → (v ≡ w → ⊥) → same_word w v ≡ false
same_word_other keyword.Loop keyword.Loop other = absurd (other refl)
same_word_other keyword.Multibranch keyword.Multibranch other = absurd (other refl)
same_word_other keyword.Multicall keyword.Multicall other = absurd (other refl)
same_word_other keyword.Noreturn keyword.Noreturn other = absurd (other refl)
same_word_other keyword.Checksum keyword.Checksum other = absurd (other refl)
same_word_other keyword.Limit keyword.Limit other = absurd (other refl)
same_word_other keyword.To keyword.To other = absurd (other refl)
same_word_other keyword.In keyword.In other = absurd (other refl)
same_word_other keyword.Other keyword.Other other = absurd (other refl)
same_word_other _ _ other = refl

is_other : (u t : Token) → (t ≡ u → ⊥) → is_this u t ≡ false
is_other (mark m) (mark k) other = same_other m k (λ is. other (ap mark is))
is_other (word w) (word v) other = same_word_other w v (λ is. other (ap word is))
is_other _ _ other = refl

pub other_this : (u t : Token) (is other : Turn) → (t ≡ u → ⊥) → on_this u t is other ≡ other
other_this u t is other differs = ap (λ (b : Bool). cond b is other) (is_other u t differs)
