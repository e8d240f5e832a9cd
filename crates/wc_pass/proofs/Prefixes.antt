-- Lists that begin alike, and the entries of one session in them.
use Rattle.std.proofs.Common.{◌≡◌, ◌≢◌, ℕ, ◌≤◌, List, [], ◌∷◌, ◌++◌, length, refl, sym, ap, ◌∙◌, append_assoc, length-append, arith}
use Rattle.std.proofs.lemmas.List.{append-nil}
use Rattle.std.proofs.lemmas.List.Elements.{filter-append}
use Rattle.std.proofs.lemmas.Bool.{ne_eqb}
use Rattle.wc_model.specs.declared.entries.Entry.{Entry}
use Rattle.wc_model.specs.Workspace.Entries.{session_of, entries_of}
use Rattle.wc_pass.specs.Known.{IsPrefix}

pub prefix_refl : (a : List Entry) → IsPrefix a a
prefix_refl a = ([], sym (append-nil a))

pub prefix_more : (a b : List Entry) (e : Entry) → IsPrefix a b → IsPrefix a (b ++ e ∷ [])
prefix_more a b e p = (p.0 ++ e ∷ [], ap (λ (z : List Entry). z ++ e ∷ []) p.1 ∙ append_assoc a p.0 (e ∷ []))

pub prefix_trans : (a b c : List Entry) → IsPrefix a b → IsPrefix b c → IsPrefix a c
prefix_trans a b c p q = (p.0 ++ q.0, q.1 ∙ ap (λ (z : List Entry). z ++ q.0) p.1 ∙ append_assoc a p.0 q.0)

shorter_of : (a b r s : List Entry) → a ++ r ≡ b ++ s → length a ≤ length b → IsPrefix a b
shorter_of [] b r s e le = (b, refl)
shorter_of (x ∷ xs) [] r s e le = absurd (omega arith)
shorter_of (x ∷ xs) (y ∷ ys) r s e le =
    let same : xs ++ r ≡ ys ++ s = cc in
    let p = shorter_of xs ys r s same (omega arith) in
    let head : x ≡ y = cc in
    let tail : ys ≡ xs ++ p.0 = p.1 in
    (p.0, ap (λ (z : Entry). z ∷ ys) (sym head) ∙ ap (λ (z : List Entry). x ∷ z) tail)

-- of two beginnings of one list the shorter one begins the other
pub prefix_shorter : (a b c : List Entry) → IsPrefix a c → IsPrefix b c → length a ≤ length b → IsPrefix a b
prefix_shorter a b c p q le = shorter_of a b p.0 q.0 (sym p.1 ∙ q.1) le

-- an entry of another session changes nothing for this one
pub entries_of_other : (s : ℕ) (es : List Entry) (e : Entry) → session_of e ≢ s → entries_of s (es ++ e ∷ []) ≡ entries_of s es
entries_of_other s es e ne =
    let none : entries_of s (e ∷ []) ≡ [] = rw (ne_eqb (session_of e) s ne) refl in
    filter-append _ es (e ∷ []) ∙ ap (λ (z : List Entry). entries_of s es ++ z) none ∙ append-nil (entries_of s es)

empty : (es : List Entry) → length es ≡ 0 → es ≡ []
empty [] e = refl
empty (x ∷ xs) e = absurd (omega arith)

-- a list between two with the same entries of a session has these too
pub entries_of_between : (s : ℕ) (a b c : List Entry) → IsPrefix a b → IsPrefix b c → entries_of s c ≡ entries_of s a → entries_of s b ≡ entries_of s a
entries_of_between s a b c p q e =
    let b_is : entries_of s b ≡ entries_of s a ++ entries_of s p.0 = ap (entries_of s) p.1 ∙ filter-append _ a p.0 in
    let c_is : entries_of s c ≡ entries_of s b ++ entries_of s q.0 = ap (entries_of s) q.1 ∙ filter-append _ b q.0 in
    let none : entries_of s p.0 ≡ [] =
    empty (entries_of s p.0)
    (omega (arith, ap length b_is, ap length c_is, ap length e, length-append (entries_of s a) (entries_of s p.0), length-append (entries_of s b) (entries_of s q.0))) in
    b_is ∙ ap (λ (z : List Entry). entries_of s a ++ z) none ∙ append-nil (entries_of s a)
