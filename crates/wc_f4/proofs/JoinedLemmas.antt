-- Lists of addresses and of terms, one more in front.
use Rattle.std.proofs.Common.{◌≡◌, ℕ, List, [], ◌∷◌, ◌++◌, refl, sym, ap, append_assoc}
use Rattle.wc_model.specs.declared.flow_facts.Term.{Term}
use Rattle.wc_f4.specs.declared.tokens.Word.TheVariants as keyword
use Rattle.wc_f4.specs.Grammar.{AreAddresses, AreJoined, IsWithin, Names}
use Rattle.wc_f4.specs.Places as place
use Rattle.wc_f4.specs.Places.{Side, with_term, with_terms}
use Rattle.wc_f4.specs.Tokens.{Token, word}

pub joined_cons : {X : Type 0} (Is : List Token → X → Type 0) (between : Token) (us ws : List Token) (x : X) (xs : List X)
    → Is us x → AreJoined Is between ws xs → AreJoined Is between (us ++ between ∷ ws) (x ∷ xs)
joined_cons Is between us ws x [] is are = absurd are
joined_cons Is between us ws x (y ∷ ys) is are = (us, ws, refl, is, are)

pub within_is : (names : Names) (ws : List Token) (more : List ℕ) → AreAddresses names ws more → IsWithin names (word keyword.In ∷ ws) more
within_is names ws [] are = absurd are
within_is names ws (a ∷ more) are = (ws, refl, are)

pub one_term : (side : Side) (t : Term) → with_terms side (t ∷ []) ≡ with_term side t
one_term (place.left before) t = refl
one_term (place.right first before) t = refl

pub term_first : (side : Side) (t : Term) (more : List Term) → with_terms side (t ∷ more) ≡ with_terms (with_term side t) more
term_first (place.left before) t more = ap place.left (sym (append_assoc before (t ∷ []) more))
term_first (place.right first before) t more = ap (place.right first) (sym (append_assoc before (t ∷ []) more))
