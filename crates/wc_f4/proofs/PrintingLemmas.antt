-- What a call has written that stopped part of the way.
use Rattle.std.proofs.Common.{◌≡◌, ℕ, ◌<◌, List, ◌++◌, length, take, flat_map, get_or, Option, Result, IsErr, subst}
use Rattle.std.proofs.lemmas.Result.{MatchResult-from_err}
use Rattle.std.specs.Io.KnownBytes.{Appends}
use Rattle.wc_io.specs.Writing.{AppendsPart, Writes}
use Rattle.wc_io.proofs.WritingLemmas.{part_longer, part_of_pieces}

pub Writes_stopped : {E : Type 0} (a b : Option (List ℕ)) (result : Result (Unit {0}) E) (front rest : List ℕ) → IsErr result → AppendsPart a b front → Writes a b result (front ++ rest)
Writes_stopped a b result front rest failed part = MatchResult-from_err result _ _ failed (λ _. part_longer a b front rest part)

pub Writes_item : {E X : Type 0} (a b c : Option (List ℕ)) (result : Result (Unit {0}) E) (f : X → List ℕ) (xs : List X) (i : ℕ) (x d : X) → IsErr result → i < length xs → x ≡ get_or xs i d
    → Appends a b (flat_map f (take i xs)) → AppendsPart b c (f x) → Writes a c result (flat_map f xs)
Writes_item a b c result f xs i x d failed inside is before part =
    MatchResult-from_err result _ _ failed (λ _. part_of_pieces a b c f xs i d inside before (subst (λ (y : _). AppendsPart b c (f y)) is part))
