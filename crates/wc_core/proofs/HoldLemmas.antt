-- What a ticket holds stays, at a start and at a finish.
use Rattle.std.proofs.Common.{ℕ, ◌≡◌, ◌≢◌, ◌<◌, Bool, true, false, if◌then◌else◌, List, [], ◌∷◌, length, Option, None, Some, MatchOption, is_some, refl, sym, ap, ◌∙◌}
use Rattle.std.specs.Global.{Global}
use Rattle.std.specs.declared.sync.Arc.{Arc}
use Rattle.std.proofs.lemmas.Bool.{false≢true}
use Rattle.std.proofs.lemmas.List.{get_or-set_same, get_or-set_other}
use Rattle.wc_core.specs.Features.{arc_at, value_at, value_of}
use Rattle.wc_core.specs.Inner.Gifts.{KnownGift, gift_value}
use Rattle.wc_core.specs.Inner.Lines.{at_name, copy_for}
use Rattle.wc_core.specs.Inner.Moves.{Had, Lines, holding, pulled, pulled_one, settled}
use Rattle.wc_core.specs.Inner.Shelves.{row_taken}
use Rattle.wc_core.specs.Views.{KnownTicket}

-- A copy comes only where the ask has none.
module _ {V : Type 0} (kind : ℕ) (had : Had V) (j : ℕ) (a : Arc V Global) (is : arc_at j had ≡ Some a) where
  apart : is_some (arc_at kind had) ≡ false → j ≢ kind
  apart lacks same = false≢true (sym lacks ∙ ap (λ k. is_some (arc_at k had)) (sym same) ∙ ap is_some is)

  holding_keeps : (copy : Option (Arc V Global)) → is_some (arc_at kind had) ≡ false → arc_at j (holding kind copy had) ≡ Some a
  holding_keeps None lacks = is
  holding_keeps (Some c) lacks = get_or-set_other had kind j (Some c) None (apart lacks) ∙ is

  abbrev Holds : Had V × Lines V → Type 0
  Holds next = arc_at j next.0 ≡ Some a

  one_keeps : (name : List ℕ) (session stamp : ℕ) (lines : Lines V) (has : Bool) → is_some (arc_at kind had) ≡ has
      → Holds (if has then (had, lines) else (holding kind (copy_for name kind stamp session lines) had, at_name name (row_taken kind stamp session) lines))
  one_keeps name session stamp lines true has = is
  one_keeps name session stamp lines false lacks = holding_keeps (copy_for name kind stamp session lines) lacks

pub pulled_keeps : {V : Type 0} (name : List ℕ) (session : ℕ) (keys : List (ℕ × ℕ)) (had : Had V) (lines : Lines V) (j : ℕ) (a : Arc V Global) → arc_at j had ≡ Some a → arc_at j (pulled name session keys had lines).0 ≡ Some a
pulled_keeps name session [] had lines j a is = is
pulled_keeps {V} name session (k ∷ ks) had lines j a is =
    let next : Had V × Lines V = pulled_one name session k had lines in
    pulled_keeps name session ks next.0 next.1 j a (one_keeps k.0 had j a is name session k.1 lines (is_some (arc_at k.0 had)) refl)

-- What a run gave stands at its kind, and the rest as it stood.
pub gave_is : {V : Type 0} (kind : ℕ) (gave : Option (KnownGift V)) (t : KnownTicket V) → kind < length t.had → MatchOption (gift_value gave) ((settled kind gave t).had ≡ t.had) (λ v. value_at kind (settled kind gave t).had ≡ Some v)
gave_is kind None t within = refl
gave_is kind (Some g) t within = ap value_of (get_or-set_same t.had kind (Some g.own) None within)

pub others_stay : {V : Type 0} (kind : ℕ) (gave : Option (KnownGift V)) (t : KnownTicket V) (j : ℕ) → j ≢ kind → arc_at j (settled kind gave t).had ≡ arc_at j t.had
others_stay kind None t j apart = refl
others_stay kind (Some g) t j apart = get_or-set_other t.had kind j (Some g.own) None apart
