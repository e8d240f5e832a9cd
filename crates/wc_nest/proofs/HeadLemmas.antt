-- The first two heads of each class, member by member, and the first class with two.
use Rattle.std.proofs.Common.{ℕ, zero, suc, ◌≡◌, ◌<◌, ⊎_elim, Bool, true, false, List, [], ◌∷◌, ◌++◌, Option, None, Some, length, replicate, refl, sym, subst, ◌∙◌, append_assoc, append-nil, arith}
use Rattle.std.specs.List.{AllPairs, Contains, slice_get}
use Rattle.std.proofs.lemmas.List.{length-set, length-replicate}
use Rattle.std.proofs.lemmas.List.Elements.{Contains-push, Contains-push_cases, Contains-append_left}
use Rattle.std.proofs.lemmas.Option.{none-some, same_Some, slice_get-get_or}
use Rattle.wc_model.proofs.Places.{get_set_cases}
use Rattle.wc_nest.specs.declared.heads.Pair.{Pair}
use Rattle.wc_nest.specs.declared.marking.Mark.{Mark}
use Rattle.wc_nest.specs.Inner.Heads.{EntersIn, Noted, AreNoted, pair_at}
use Rattle.wc_nest.specs.Inner.Levels.{class_number, is_entered, no_heads, with_node, note_node, note_nodes, or_next, second_of}
use Rattle.wc_nest.proofs.FlagLemmas.{not_both, contains_cases}
use Rattle.wc_nest.proofs.ListLemmas.{contains_head, contains_tail, empty_contains, rises_head, rises_tail}

module _ (marks : List Mark) (entered : List Bool) (start : ℕ) where
  one_length : (pairs : List Pair) (p : ℕ) (b : Bool) → is_entered entered start p ≡ b → length (note_node marks entered start pairs p) ≡ length pairs
  one_length pairs p true is = rw is (length-set pairs (class_number marks p) (with_node p (pair_at pairs (class_number marks p)).first (pair_at pairs (class_number marks p)).second))
  one_length pairs p false is = rw is refl

  pub length-note_nodes : (pairs : List Pair) (ps : List ℕ) → length (note_nodes marks entered start pairs ps) ≡ length pairs
  length-note_nodes pairs [] = refl
  length-note_nodes pairs (p ∷ ps) = length-note_nodes (note_node marks entered start pairs p) ps ∙ one_length pairs p (is_entered entered start p) refl

  -- with one more member, of another class or not entered
  noted_same : (members : List ℕ) (p c : ℕ) (first second : Option ℕ) → (EntersIn marks entered start (members ++ p ∷ []) c p → ⊥) → Noted marks entered start members c first second → Noted marks entered start (members ++ p ∷ []) c first second
  noted_same members p c None second other noted = (noted.0, λ h is. noted.1 h (old h is))
    where
      old : (h : ℕ) → EntersIn marks entered start (members ++ p ∷ []) c h → EntersIn marks entered start members c h
      old h is = ⊎_elim (λ (before : Contains members h). (before, is.1, is.2)) (λ (same : p ≡ h). absurd (other (subst (λ (x : ℕ). EntersIn marks entered start (members ++ p ∷ []) c x) (sym same) is))) (Contains-push_cases members p h is.0)
  noted_same members p c (Some f) None other noted = ((Contains-append_left members (p ∷ []) f noted.0.0, noted.0.1, noted.0.2), λ r is. noted.1 r (old r is))
    where
      old : (h : ℕ) → EntersIn marks entered start (members ++ p ∷ []) c h → EntersIn marks entered start members c h
      old h is = ⊎_elim (λ (before : Contains members h). (before, is.1, is.2)) (λ (same : p ≡ h). absurd (other (subst (λ (x : ℕ). EntersIn marks entered start (members ++ p ∷ []) c x) (sym same) is))) (Contains-push_cases members p h is.0)
  noted_same members p c (Some f) (Some q) other noted = ((Contains-append_left members (p ∷ []) f noted.0.0, noted.0.1, noted.0.2), (Contains-append_left members (p ∷ []) q noted.1.0, noted.1.1, noted.1.2), noted.2, λ r less is. noted.3 r less (old r is))
    where
      old : (h : ℕ) → EntersIn marks entered start (members ++ p ∷ []) c h → EntersIn marks entered start members c h
      old h is = ⊎_elim (λ (before : Contains members h). (before, is.1, is.2)) (λ (same : p ≡ h). absurd (other (subst (λ (x : ℕ). EntersIn marks entered start (members ++ p ∷ []) c x) (sym same) is))) (Contains-push_cases members p h is.0)

  -- with one more entered member of the class
  noted_with : (members : List ℕ) (p c : ℕ) (first second : Option ℕ) → ((y : ℕ) → Contains members y → y < p) → class_number marks p ≡ c → is_entered entered start p ≡ true → Noted marks entered start members c first second → Noted marks entered start (members ++ p ∷ []) c (with_node p first second).first (with_node p first second).second
  noted_with members p c None second low number is noted =
      ((Contains-push members p, number, is), λ r enters. ⊎_elim (λ (before : Contains members r). absurd (noted.1 r (before, enters.1, enters.2))) (λ (same : p ≡ r). sym same) (Contains-push_cases members p r enters.0))
  noted_with members p c (Some h) None low number is noted =
      ((Contains-append_left members (p ∷ []) h noted.0.0, noted.0.1, noted.0.2), (Contains-push members p, number, is), low h noted.0.0, λ r less enters. ⊎_elim (λ (before : Contains members r). noted.1 r (before, enters.1, enters.2)) (λ (same : p ≡ r). absurd (omega arith)) (Contains-push_cases members p r enters.0))
  noted_with members p c (Some h) (Some q) low number is noted =
      ((Contains-append_left members (p ∷ []) h noted.0.0, noted.0.1, noted.0.2), (Contains-append_left members (p ∷ []) q noted.1.0, noted.1.1, noted.1.2), noted.2, λ r less enters. ⊎_elim (λ (before : Contains members r). noted.3 r less (before, enters.1, enters.2)) (λ (same : p ≡ r). absurd (omega (arith, low q noted.1.0))) (Contains-push_cases members p r enters.0))

  note_more : (members : List ℕ) (pairs : List Pair) (p : ℕ) (b : Bool) → is_entered entered start p ≡ b → ((y : ℕ) → Contains members y → y < p) → class_number marks p < length pairs → AreNoted marks entered start members pairs → AreNoted marks entered start (members ++ p ∷ []) (note_node marks entered start pairs p)
  note_more members pairs p false is low known old = λ c pair at. noted_same members p c pair.first pair.second (λ enters. not_both enters.2 is) (old c pair (rw is at at))
  note_more members pairs p true is low known old = λ c pair at. ⊎_elim
      (λ now.
      let was : Pair = pair_at pairs (class_number marks p) in
      let noted = noted_with members p (class_number marks p) was.first was.second low refl is (old (class_number marks p) was (slice_get-get_or pairs (class_number marks p) no_heads known)) in
      subst (λ (x : ℕ). Noted marks entered start (members ++ p ∷ []) x pair.first pair.second) (sym now.0) (subst (λ (x : Pair). Noted marks entered start (members ++ p ∷ []) (class_number marks p) x.first x.second) now.1 noted))
      (λ other. noted_same members p c pair.first pair.second (λ enters. other.0 (sym enters.1)) (old c pair other.1))
      (get_set_cases pairs (class_number marks p) c (with_node p (pair_at pairs (class_number marks p)).first (pair_at pairs (class_number marks p)).second) pair (rw is at at))

  note_rest : (members : List ℕ) (pairs : List Pair) (ps : List ℕ) → AllPairs (λ x y. x < y) ps → ((y x : ℕ) → Contains members y → Contains ps x → y < x) → ((x : ℕ) → Contains ps x → class_number marks x < length pairs) → AreNoted marks entered start members pairs → AreNoted marks entered start (members ++ ps) (note_nodes marks entered start pairs ps)
  note_rest members pairs [] rises low known old = subst (λ (xs : List ℕ). AreNoted marks entered start xs pairs) (sym (append-nil members)) old
  note_rest members pairs (p ∷ ps) rises low known old =
      let new : AreNoted marks entered start (members ++ p ∷ []) (note_node marks entered start pairs p) = note_more members pairs p (is_entered entered start p) refl (λ y among. low y p among (contains_head p ps)) (known p (contains_head p ps)) old in
      let all = note_rest (members ++ p ∷ []) (note_node marks entered start pairs p) ps (rises_tail p ps rises)
      (λ y x in_y in_x. ⊎_elim (λ (before : Contains members y). low y x before (contains_tail p ps x in_x)) (λ (same : p ≡ y). let less : p < x = rises_head p ps x rises in_x in omega arith) (Contains-push_cases members p y in_y))
      (λ x among. let less : class_number marks x < length pairs = known x (contains_tail p ps x among) in omega (arith, one_length pairs p (is_entered entered start p) refl)) new in
      subst (λ (xs : List ℕ). AreNoted marks entered start xs (note_nodes marks entered start (note_node marks entered start pairs p) ps)) (append_assoc members (p ∷ []) ps) all

  none_noted : (count : ℕ) → AreNoted marks entered start [] (replicate count no_heads)
  none_noted zero c pair at = absurd (none-some pair at)
  none_noted (suc n) zero pair at = subst (λ (x : Pair). Noted marks entered start [] 0 x.first x.second) (same_Some no_heads pair at) (refl, λ h is. empty_contains h is.0)
  none_noted (suc n) (suc c) pair at = noted_at c pair (none_noted n c pair at)
    where
      noted_at : (c : ℕ) (pair : Pair) → Noted marks entered start [] c pair.first pair.second → Noted marks entered start [] (suc c) pair.first pair.second
      noted_at c pair noted = shift pair.first pair.second noted
        where
          shift : (first second : Option ℕ) → Noted marks entered start [] c first second → Noted marks entered start [] (suc c) first second
          shift None second noted = (noted.0, λ h is. empty_contains h is.0)
          shift (Some h) None noted = absurd (empty_contains h noted.0.0)
          shift (Some h) (Some q) noted = absurd (empty_contains h noted.0.0)

  pub all_noted : (count : ℕ) (ps : List ℕ) → AllPairs (λ x y. x < y) ps → ((x : ℕ) → Contains ps x → class_number marks x < count) → AreNoted marks entered start ps (note_nodes marks entered start (replicate count no_heads) ps)
  all_noted count ps rises known = note_rest [] (replicate count no_heads) ps rises (λ y x among later. absurd (empty_contains y among)) (λ x among. omega (arith, length-replicate count no_heads, known x among)) (none_noted count)

-- no class has two heads, or the first that has
module _ (marks : List Mark) (pairs : List Pair) where
  pub second_none : (ps : List ℕ) → second_of marks pairs ps ≡ None → (p : ℕ) → Contains ps p → (pair_at pairs (class_number marks p)).second ≡ None
  second_none [] none p among = absurd (empty_contains p among)
  second_none (x ∷ ps) none p among = ⊎_elim
      (λ (same : x ≡ p). subst (λ (y : ℕ). (pair_at pairs (class_number marks y)).second ≡ None) same (first_none (pair_at pairs (class_number marks x)).second (second_of marks pairs ps) none))
      (λ (later : Contains ps p). second_none ps (rest_none (pair_at pairs (class_number marks x)).second (second_of marks pairs ps) none) p later)
      (contains_cases x ps p among)
    where
      first_none : (o next : Option ℕ) → or_next o next ≡ None → o ≡ None
      first_none None next is = refl
      first_none (Some q) next is = absurd (none-some q (sym is))

      rest_none : (o next : Option ℕ) → or_next o next ≡ None → next ≡ None
      rest_none None next is = is
      rest_none (Some q) next is = absurd (none-some q (sym is))

  pub record IsFirstTwo (ps : List ℕ) (q : ℕ) : Type 0 where
    pub place : ℕ
    pub least : ℕ
    pub at : slice_get ps place ≡ Some least
    pub second : (pair_at pairs (class_number marks least)).second ≡ Some q
    pub before : (j p : ℕ) → j < place → slice_get ps j ≡ Some p → (pair_at pairs (class_number marks p)).second ≡ None

  pub second_some : (ps : List ℕ) (q : ℕ) → second_of marks pairs ps ≡ Some q → IsFirstTwo ps q
  second_some [] q is = absurd (none-some q is)
  second_some (x ∷ ps) q is = here_or_later (pair_at pairs (class_number marks x)).second refl is (λ later. second_some ps q later)
    where
      here_or_later : (o : Option ℕ) → (pair_at pairs (class_number marks x)).second ≡ o → or_next o (second_of marks pairs ps) ≡ Some q → (second_of marks pairs ps ≡ Some q → IsFirstTwo ps q) → IsFirstTwo (x ∷ ps) q
      here_or_later (Some r) at is later = record { place = 0; least = x; at = refl; second = at ∙ is; before = λ j p less here. absurd (omega arith) }
      here_or_later None at is later =
          let rest = later is in
          record { place = suc rest.place; least = rest.least; at = rest.at; second = rest.second; before = earlier at rest }
        where
          earlier : (pair_at pairs (class_number marks x)).second ≡ None → (rest : IsFirstTwo ps q) → (j p : ℕ) → j < suc rest.place → slice_get (x ∷ ps) j ≡ Some p → (pair_at pairs (class_number marks p)).second ≡ None
          earlier at rest zero p less here = subst (λ (y : ℕ). (pair_at pairs (class_number marks y)).second ≡ None) (same_Some x p here) at
          earlier at rest (suc j) p less here = rest.before j p (omega arith) here
