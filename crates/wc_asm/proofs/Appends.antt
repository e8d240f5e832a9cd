-- Parts that were appended one after the other.
use Rattle.std.proofs.Common.{◌≡◌, ℕ, ◌+◌, ◌^◌, ◌<◌, List, [], ◌∷◌, ◌++◌, refl, sym, ap, subst, ◌∙◌, append_assoc, length, drop, get_or, drop-cons, add-one, below_more, arith}
use Rattle.std.proofs.lemmas.List.{get_or_read}
use Rattle.wc_asm.specs.Files.{names_size, symbol, symbols_from}

pub six_parts : (n0 n1 n2 n3 n4 n5 n6 h p w y s z t : List ℕ) → n0 ≡ [] → n1 ≡ n0 ++ (h ++ p) → n2 ≡ n1 ++ w → n3 ≡ n2 ++ y → n4 ≡ n3 ++ s → n5 ≡ n4 ++ z → n6 ≡ n5 ++ t → n6 ≡ h ++ (p ++ (w ++ (y ++ (s ++ (z ++ t)))))
six_parts n0 n1 n2 n3 n4 n5 n6 h p w y s z t e0 e1 e2 e3 e4 e5 e6 = rw (e6, e5, e4, e3, e2, e1, e0) (simp append_assoc refl)

pub same_two : (f : ℕ → ℕ → List ℕ) (a b x y : ℕ) → a ≡ x → b ≡ y → f a b ≡ f x y
same_two f a b x y e g = rw (e, g) refl

pub same_four : (f : ℕ → ℕ → ℕ → ℕ → List ℕ) (a b c d x y z w : ℕ) → a ≡ x → b ≡ y → c ≡ z → d ≡ w → f a b c d ≡ f x y z w
same_four f a b c d x y z w e g h i = rw (e, g, h, i) refl

-- the names from the index on begin with the name there
names_next : (names : List (List ℕ × ℕ)) (index : ℕ) (name : List ℕ × ℕ) → index < length names → name ≡ get_or names index name → drop index names ≡ name ∷ drop (index + 1) names
names_next names index name more is = rw (drop-cons names index name, ← is, ← add-one) refl

pub symbols_turn : (names : List (List ℕ × ℕ)) (index place : ℕ) (name : List ℕ × ℕ) (text old new all : List ℕ) → index < length names → name ≡ get_or names index name → text ≡ name.0 → new ≡ old ++ symbol place name.1 → old ++ symbols_from place (drop index names) ≡ all → new ++ symbols_from (place + (length text + 1)) (drop (index + 1) names) ≡ all
symbols_turn names index place name text old new all more is same written before =
    ap (λ t. new ++ symbols_from (place + (length t + 1)) (drop (index + 1) names)) same
    ∙ ap (λ n. n ++ symbols_from (place + (length name.0 + 1)) (drop (index + 1) names)) written
    ∙ append_assoc old (symbol place name.1) (symbols_from (place + (length name.0 + 1)) (drop (index + 1) names))
    ∙ ap (λ r. old ++ symbols_from place r) (sym (names_next names index name more is))
    ∙ before

-- what holds of the names before the index and of the name there
pub addresses_turn : (names : List (List ℕ × ℕ)) (index : ℕ) (name : List ℕ × ℕ) → index < length names → name ≡ get_or names index name → name.1 < 2 ^ 32
    → ((k : ℕ) (d : List ℕ × ℕ) → k < index → (get_or names k d).1 < 2 ^ 32) → (k : ℕ) (d : List ℕ × ℕ) → k < index + 1 → (get_or names k d).1 < 2 ^ 32
addresses_turn names index name more is small before k d few =
    below_more (λ j. (e : List ℕ × ℕ) → (get_or names j e).1 < 2 ^ 32) index (λ j below e. before j e below) (λ e. subst (λ (n : List ℕ × ℕ). n.1 < 2 ^ 32) (get_or_read names index name more is e) small) k few d

pub size_turn : (names : List (List ℕ × ℕ)) (index place : ℕ) (name : List ℕ × ℕ) (text : List ℕ) (all : ℕ) → index < length names → name ≡ get_or names index name → text ≡ name.0 → place + names_size (drop index names) ≡ all → place + (length text + 1) + names_size (drop (index + 1) names) ≡ all
size_turn names index place name text all more is same before =
    let e : names_size (drop index names) ≡ length name.0 + 1 + names_size (drop (index + 1) names) = ap names_size (names_next names index name more is) in
    omega (arith, e, ap length same, before)
