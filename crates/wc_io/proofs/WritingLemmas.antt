-- Texts that are appended piece by piece.
use Rattle.std.proofs.Common.{◌≡◌, ℕ, suc, ◌+◌, ◌-◌, ◌<◌, ◌≤◌, List, ◌∷◌, ◌++◌, get_or, flat_map, append_assoc, take-append-drop, drop-cons, ◌∙◌, Option, Result, Ok, Err, length, length-append, take, drop, subst, sym, ap, arith, length-drop}
use Rattle.std.proofs.Math.Seq.{take-add, take-append-add}
use Rattle.std.proofs.lemmas.List.{take-append-le}
use Rattle.std.proofs.lemmas.Grind.{common_steps, flat_map-append}
use Rattle.std.proofs.lemmas.List.Concat.{flat_map-cons}
use Rattle.std.proofs.KnownBytes.{Appends-trans}
use Rattle.std.specs.Io.KnownBytes.{Appends}
use Rattle.wc_io.specs.Causes.{HasCause}
use Rattle.wc_io.specs.Writing.{AppendsPart, Writes, WritesTo}
use Rattle.wc_io.specs.declared.streams.Sink.{Ghosts}

-- the text from an index on, as a range of a slice
pub rest_whole : (text : List ℕ) (done : ℕ) → take (length text - done) (drop done text) ≡ drop done text
rest_whole text done = grind (arith, common_steps)

-- the next n bytes of a text after its first bytes
pub Appends_next : (a b c : Option (List ℕ)) (text rest : List ℕ) (done n : ℕ) → rest ≡ drop done text
    → Appends a b (take done text) → Appends b c (take n rest) → Appends a c (take (done + n) text)
Appends_next a b c text rest done n is first next =
    subst (Appends a c) (sym (take-add done n text))
    (Appends-trans a b c (take done text) (take n (drop done text)) first (subst (λ (r : List ℕ). Appends b c (take n r)) is next))

pub next_within : (text rest : List ℕ) (done n : ℕ) → rest ≡ drop done text → done ≤ length text → n ≤ length rest → done + n ≤ length text
next_within text rest done n is below few = omega (arith, ap length is, length-drop done text)

-- a shorter prefix of the front is one of the whole
pub part_longer : (a b : Option (List ℕ)) (front rest : List ℕ) → AppendsPart a b front → AppendsPart a b (front ++ rest)
part_longer a b front rest (n, few, written) =
    (n, omega (arith, length-append front rest), subst (λ (t : List ℕ). Appends a b t) (sym (take-append-le n front rest (omega arith))) written)

-- what is written after the front is written behind it
pub part_after : (a b c : Option (List ℕ)) (front rest : List ℕ) → Appends a b front → AppendsPart b c rest → AppendsPart a c (front ++ rest)
part_after a b c front rest first (n, few, written) =
    (length front + n, omega (arith, length-append front rest), subst (λ (t : List ℕ). Appends a c t) (sym (take-append-add front rest n)) (Appends-trans a b c front (take n rest) first written))

pub Writes_after : {E : Type 0} (a b c : Option (List ℕ)) (result : Result (Unit {0}) E) (front rest : List ℕ)
    → Appends a b front → Writes b c result rest → Writes a c result (front ++ rest)
Writes_after a b c (Ok _) front rest first written = Appends-trans a b c front rest first written
Writes_after a b c (Err _) front rest first written = part_after a b c front rest first written

-- the texts of all pieces: those of the first, of the next, and of the rest
flat_map_around : {X : Type 0} (f : X → List ℕ) (xs : List X) (i : ℕ) (d : X) → i < length xs
    → flat_map f xs ≡ (flat_map f (take i xs) ++ f (get_or xs i d)) ++ flat_map f (drop (suc i) xs)
flat_map_around f xs i d within =
    ap (flat_map f) (sym (take-append-drop i xs) ∙ ap (λ ys. take i xs ++ ys) (drop-cons xs i d within))
    ∙ flat_map-append f (take i xs) (get_or xs i d ∷ drop (suc i) xs)
    ∙ ap (λ t. flat_map f (take i xs) ++ t) (flat_map-cons f (get_or xs i d) (drop (suc i) xs))
    ∙ sym (append_assoc (flat_map f (take i xs)) (f (get_or xs i d)) (flat_map f (drop (suc i) xs)))

-- a prefix of the text of a piece, behind the texts of those before it
pub part_of_pieces : {X : Type 0} (a b c : Option (List ℕ)) (f : X → List ℕ) (xs : List X) (i : ℕ) (d : X) → i < length xs
    → Appends a b (flat_map f (take i xs)) → AppendsPart b c (f (get_or xs i d)) → AppendsPart a c (flat_map f xs)
part_of_pieces a b c f xs i d within before part =
    subst (AppendsPart a c) (sym (flat_map_around f xs i d within))
    (part_longer a c (flat_map f (take i xs) ++ f (get_or xs i d)) (flat_map f (drop (suc i) xs)) (part_after a b c _ _ before part))

-- ---- the whole record of a call

causes_after : {E F : Type 0} (a b c : ℕ) (u : Unit {0}) (result : Result (Unit {0}) E) → HasCause {E = F} a b (Ok u) → HasCause b c result → HasCause a c result
causes_after a b c u (Ok v) first next = record { later = omega (arith, first.later, next.later); failed = tt }
causes_after a b c u (Err e) first next = record { later = omega (arith, first.later, next.later); failed = omega (arith, first.later, next.failed) }

module _ {K : Type 0} (sink : Ghosts K) where
  -- the rest after the front
  pub WritesTo_after : {E F : Type 0} (a b c : K) (u : Unit {0}) (result : Result (Unit {0}) E) (front rest : List ℕ)
      → WritesTo {E = F} sink a b (Ok u) front → WritesTo sink b c result rest → WritesTo sink a c result (front ++ rest)
  WritesTo_after a b c u result front rest first next = record {
    text = Writes_after (sink.held a) (sink.held b) (sink.held c) result front rest first.text next.text;
    cause = causes_after (sink.faults a) (sink.faults b) (sink.faults c) u result first.cause next.cause;
    place = next.place ∙ first.place;
  }

  -- no rest after a front that failed
  pub WritesTo_stopped : {E F : Type 0} (a b : K) (d : F) (e : E) (front rest : List ℕ) → WritesTo sink a b (Err d) front → WritesTo sink a b (Err e) (front ++ rest)
  WritesTo_stopped a b d e front rest first = record {
    text = part_longer (sink.held a) (sink.held b) front rest first.text;
    cause = record { later = first.cause.later; failed = first.cause.failed };
    place = first.place;
  }

  -- a piece that failed behind the texts of those before it
  pub WritesTo_pieces : {E F X : Type 0} (a b c : K) (u : Unit {0}) (e e' : E) (f : X → List ℕ) (xs : List X) (i : ℕ) (d : X) → i < length xs
      → WritesTo {E = F} sink a b (Ok u) (flat_map f (take i xs)) → WritesTo sink b c (Err e) (f (get_or xs i d)) → WritesTo sink a c (Err e') (flat_map f xs)
  WritesTo_pieces a b c u e e' f xs i d within before part = record {
    text = part_of_pieces (sink.held a) (sink.held b) (sink.held c) f xs i d within before.text part.text;
    cause = record { later = omega (arith, before.cause.later, part.cause.later); failed = omega (arith, before.cause.later, part.cause.failed) };
    place = part.place ∙ before.place;
  }
