-- What the tokens of a text are like, and so the facts that they state.
use Rattle.std.proofs.Common.{◌≡◌, ℕ, zero, suc, ◌+◌, ◌-◌, ◌<◌, ◌^◌, Bool, true, false, ◌&&◌, ◌==◌, cond, nat_lt, List, [], ◌∷◌, ◌++◌, drop, Option, None, Some, refl, subst, arith, inl, inr}
use Rattle.std.proofs.lemmas.Bool.Decides.{nat_tests}
use Rattle.std.specs.List.{AllByRecursion}
use Rattle.std.specs.Prelude.{IfSome}
use Rattle.std.specs.Str.Parse.{digits_value}
use Rattle.wc_model.specs.declared.flow_facts.Fact.{Fact}
use Rattle.wc_model.specs.declared.flow_facts.Fact.TheVariants.{Loop, Multibranch, Multicall, Noreturn, Checksum, Limit}
use Rattle.wc_model.specs.declared.flow_facts.Term.{Term}
use Rattle.wc_model.specs.declared.flow_facts.Term.TheVariants.{Constant, Visits}
use Rattle.wc_f4.specs.declared.runs.Kind.TheVariants as kind
use Rattle.wc_f4.specs.declared.tokens.Mark.{Mark}
use Rattle.wc_f4.specs.declared.tokens.Mark.TheVariants as sign
use Rattle.wc_f4.specs.declared.tokens.Word.{Word}
use Rattle.wc_f4.specs.declared.tokens.Word.TheVariants as keyword
use Rattle.wc_f4.specs.Bytes.{closing_length, has_at, is_blank, is_digit, is_letter, is_quoted, run, run_length}
use Rattle.wc_f4.specs.Grammar.{Names, IsAddress, plain, named, above, below, AreAddresses, IsBranching, IsFact, IsSum, IsTerm, IsText, IsWithin, IsBound, bracketed}
use Rattle.wc_f4.specs.Stated.{IsFilled, IsSmall, IsStated, IsStatedTerm}
use Rattle.wc_f4.specs.Tokens.{Token, Piece, Placed, closed_comment, mark_of, number_of, piece_at, tokens_from, tokens_of, with_token, word, number, quoted, mark, wrong}
use Rattle.wc_f4.proofs.GrammarLemmas.{Bounded}
use Rattle.wc_f4.proofs.RunLemmas.{run_sound}

-- a number has 32 bits, and a string's bytes can stand in one
abbrev IsSound : Token → Type 0
IsSound (number n) = IsSmall n
IsSound (quoted s) = AllByRecursion (λ b. is_quoted b ≡ true) s
IsSound _ = Unit {0}

abbrev pub AreSound : List Token → Type 0
AreSound ts = AllByRecursion IsSound ts

abbrev OfPiece : Option Token → Type 0
OfPiece None = Unit {0}
OfPiece (Some t) = IsSound t

either : (b : Bool) (x y : Piece) → OfPiece x.0 → OfPiece y.0 → OfPiece (cond b x y).0
either true x y first second = first
either false x y first second = second

a_mark : (b : Bool) (m : Mark) (y : Token) → IsSound y → IsSound (cond b (mark m) y)
a_mark true m y other = tt
a_mark false m y other = other

mark_sound : (b : ℕ) → IsSound (mark_of b)
mark_sound b =
    a_mark (b == 59) _ _ (a_mark (b == 44) _ _ (a_mark (b == 63) _ _ (a_mark (b == 43) _ _ (a_mark (b == 45) _ _ (a_mark (b == 42) _ _ (a_mark (b == 91) _ _ (a_mark (b == 93) _ wrong tt)))))))

below_limit : (v : ℕ) (small : Bool) → nat_lt v (2 ^ 32) ≡ small → IsSound (cond small (number v) wrong)
below_limit v true is = grind (arith, nat_tests)
below_limit v false is = tt

number_sound : (base : ℕ) (digits : List ℕ) → IsSound (number_of base digits)
number_sound base digits = below_limit (digits_value base digits) (nat_lt (digits_value base digits) (2 ^ 32)) refl

closed_sound : (n : Option ℕ) → OfPiece (closed_comment n).0
closed_sound None = tt
closed_sound (Some n) = tt

piece_sound : (first : ℕ) (rest : List ℕ) → OfPiece (piece_at first rest).0
unfolding piece_at
piece_sound first rest =
    either (is_blank first) _ _ tt
    (either (is_letter first) _ _ tt
    (either (is_digit first) _ _
    (either (has_at rest 0 48 && has_at rest 1 120 && nat_lt 0 (run_length kind.Hexadecimal (drop 2 rest))) _ _ (number_sound 16 (run kind.Hexadecimal (drop 2 rest))) (number_sound 10 (run kind.Decimal rest)))
    (either (first == 34) _ _ (either (has_at rest (run_length kind.Quoted (drop 1 rest) + 1) 34) _ _ (run_sound kind.Quoted (drop 1 rest)) tt)
    (either (first == 47) _ _ (either (has_at rest 1 47) _ _ tt (either (has_at rest 1 42) _ _ (closed_sound (closing_length (drop 2 rest))) tt))
    (either (first == 60) _ _ (either (has_at rest 1 61) _ _ tt tt)
    (mark_sound first))))))

with_sound : (t : Option Token) (place : ℕ) (rest : List Placed) → OfPiece t → AreSound (tokens_of rest) → AreSound (tokens_of (with_token t place rest))
with_sound None place rest is all = all
with_sound (Some t) place rest is all = (is, all)

pub tokens_sound : (bytes : List ℕ) (place inside : ℕ) → AreSound (tokens_of (tokens_from place inside bytes))
unfolding tokens_from
tokens_sound [] place inside = (tt, tt)
tokens_sound (b ∷ bs) place (suc inside) = tokens_sound bs (suc place) inside
tokens_sound (b ∷ bs) place zero = with_sound (piece_at b (b ∷ bs)).0 place _ (piece_sound b (b ∷ bs)) (tokens_sound bs (suc place) ((piece_at b (b ∷ bs)).1 - 1))

-- parts of sound tokens
front_sound : (us vs : List Token) → AreSound (us ++ vs) → AreSound us
front_sound [] vs all = tt
front_sound (u ∷ us) vs all = (all.0, front_sound us vs all.1)

back_sound : (us vs : List Token) → AreSound (us ++ vs) → AreSound vs
back_sound [] vs all = all
back_sound (u ∷ us) vs all = back_sound us vs all.1

module _ (names : Names) (bounded : Bounded names) where
  address_small : (us : List Token) (at : ℕ) → IsAddress names us at → AreSound us → IsSmall at
  address_small us at (plain is) all = let sound : AreSound (number at ∷ []) = subst AreSound is all in sound.0
  address_small us at (named s is stands) all = bounded s at stands
  address_small us at (above s base n is stands sum fits) all = fits
  address_small us at (below s base n is stands sum) all = let small : base < 2 ^ 32 = bounded s base stands in omega (arith, small, sum)

  addresses_small : (ws : List Token) (list : List ℕ) → AreAddresses names ws list → AreSound ws → IsFilled list × AllByRecursion IsSmall list
  addresses_small ws [] are all = absurd are
  addresses_small ws (a ∷ []) is all = (tt, (address_small ws a is all, tt))
  addresses_small ws (a ∷ b ∷ list) (us, vs, same, is, are) all =
      let sound : AreSound (us ++ (mark sign.Comma ∷ vs)) = subst AreSound same all in
      (tt, (address_small us a is (front_sound us (mark sign.Comma ∷ vs) sound), (addresses_small vs (b ∷ list) are (back_sound us (mark sign.Comma ∷ vs) sound).1).1))

  within_small : (ws : List Token) (within : List ℕ) → IsWithin names ws within → AreSound ws → AllByRecursion IsSmall within
  within_small ws [] none all = tt
  within_small ws (a ∷ more) (us, same, are) all =
      let sound : AreSound (word keyword.In ∷ us) = subst AreSound same all in
      (addresses_small us (a ∷ more) are sound.1).1

  visits_small : (us vs : List Token) (at : ℕ) (within : List ℕ) → IsAddress names us at → IsWithin names vs within → AreSound (bracketed us vs) → IsSmall at × AllByRecursion IsSmall within
  visits_small us vs at within is are (open_sound, sound) = (
    address_small us at is (front_sound us (vs ++ mark sign.Close ∷ []) sound),
    within_small vs within are (front_sound vs (mark sign.Close ∷ []) (back_sound us (vs ++ mark sign.Close ∷ []) sound)),
  )

  term_stated : (ts : List Token) (t : Term) → IsTerm names ts t → AreSound ts → IsStatedTerm t
  term_stated ts (Constant n) is all = let sound : AreSound (number n ∷ []) = subst AreSound is all in sound.0
  term_stated ts (Visits times at within) (us, vs, is, are, inl (once, same)) all =
      let sound : AreSound (bracketed us vs) = subst AreSound same all in
      let small = visits_small us vs at within is are sound in (omega (arith, once), small.0, small.1)
  term_stated ts (Visits times at within) (us, vs, is, are, inr same) all =
      let sound : AreSound (number times ∷ mark sign.Star ∷ bracketed us vs) = subst AreSound same all in
      let small = visits_small us vs at within is are sound.1.1 in (sound.0, small.0, small.1)

  sum_stated : (ws : List Token) (terms : List Term) → IsSum names ws terms → AreSound ws → IsFilled terms × AllByRecursion IsStatedTerm terms
  sum_stated ws [] are all = absurd are
  sum_stated ws (t ∷ []) is all = (tt, (term_stated ws t is all, tt))
  sum_stated ws (t ∷ u ∷ terms) (us, vs, same, is, are) all =
      let sound : AreSound (us ++ (mark sign.Plus ∷ vs)) = subst AreSound same all in
      (tt, (term_stated us t is (front_sound us (mark sign.Plus ∷ vs) sound), (sum_stated vs (u ∷ terms) are (back_sound us (mark sign.Plus ∷ vs) sound).1).1))

  branching_stated : (w : Word) (ts : List Token) (at : ℕ) (list : List ℕ) → IsBranching names w ts at list → AreSound ts → IsSmall at × IsFilled list × AllByRecursion IsSmall list
  branching_stated w ts at list (us, vs, same, is, are) all =
      let sound : AreSound (word w ∷ us ++ (word keyword.To ∷ vs ++ mark sign.Semicolon ∷ [])) = subst AreSound same all in
      let small = addresses_small vs list are (front_sound vs (mark sign.Semicolon ∷ []) (back_sound us (word keyword.To ∷ vs ++ mark sign.Semicolon ∷ []) sound.1).1) in
      (address_small us at is (front_sound us (word keyword.To ∷ vs ++ mark sign.Semicolon ∷ []) sound.1), small.0, small.1)

  bound_small : (t : Token) (b : Option ℕ) → IsBound t b → IsSound t → IfSome b IsSmall
  bound_small t None is sound = tt
  bound_small t (Some n) is sound = subst IsSound is sound

  fact_stated : (ts : List Token) (f : Fact) → IsFact names ts f → AreSound ts → IsStated f
  fact_stated ts (Loop at b within) (us, t, vs, same, is, bounds, are) all =
      let sound : AreSound (word keyword.Loop ∷ us ++ (t ∷ (vs ++ mark sign.Semicolon ∷ []))) = subst AreSound same all in
      let rest = back_sound us (t ∷ (vs ++ mark sign.Semicolon ∷ [])) sound.1 in (
        address_small us at is (front_sound us (t ∷ (vs ++ mark sign.Semicolon ∷ [])) sound.1),
        bound_small t b bounds rest.0,
        within_small vs within are (front_sound vs (mark sign.Semicolon ∷ []) rest.1),
      )
  fact_stated ts (Multibranch at list) is all = branching_stated keyword.Multibranch ts at list is all
  fact_stated ts (Multicall at list) is all = branching_stated keyword.Multicall ts at list is all
  fact_stated ts (Noreturn at) (us, same, is) all =
      let sound : AreSound (word keyword.Noreturn ∷ us ++ mark sign.Semicolon ∷ []) = subst AreSound same all in
      address_small us at is (front_sound us (mark sign.Semicolon ∷ []) sound.1)
  fact_stated ts (Checksum s n) same all =
      let sound : AreSound (word keyword.Checksum ∷ quoted s ∷ number n ∷ mark sign.Semicolon ∷ []) = subst AreSound same all in
      (sound.1.0, sound.1.1.0)
  fact_stated ts (Limit first second) (us, vs, same, are, others) all =
      let sound : AreSound (word keyword.Limit ∷ us ++ (mark sign.AtMost ∷ vs ++ mark sign.Semicolon ∷ [])) = subst AreSound same all in
      let left = sum_stated us first are (front_sound us (mark sign.AtMost ∷ vs ++ mark sign.Semicolon ∷ []) sound.1) in
      let right = sum_stated vs second others (front_sound vs (mark sign.Semicolon ∷ []) (back_sound us (mark sign.AtMost ∷ vs ++ mark sign.Semicolon ∷ []) sound.1).1) in
      (left.0, left.1, right.0, right.1)

  pub text_stated : (ts : List Token) (fs : List Fact) → IsText names ts fs → AreSound ts → AllByRecursion IsStated fs
  text_stated ts [] is all = tt
  text_stated ts (f ∷ fs) (us, vs, same, is, text) all =
      let sound : AreSound (us ++ vs) = subst AreSound same all in
      (fact_stated us f is (front_sound us vs sound), text_stated vs fs text (back_sound us vs sound))
