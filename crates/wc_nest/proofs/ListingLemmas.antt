-- The heads of a level, member by member.
use Rattle.std.proofs.Common.{ℕ, zero, suc, ◌≡◌, ◌<◌, ◌≤◌, ⊎_elim, Bool, true, false, List, [], ◌∷◌, ◌++◌, Option, None, Some, length, set, refl, sym, ap, subst, ◌∙◌, append_assoc, append-nil, arith}
use Rattle.std.specs.List.{AllPairs, Contains, slice_get, slice_index_or}
use Rattle.std.proofs.lemmas.Bool.{cases_eq}
use Rattle.std.proofs.lemmas.List.{length-set, length-append}
use Rattle.std.proofs.lemmas.List.Elements.{Contains-push, Contains-push_cases, Contains-append_left}
use Rattle.std.proofs.lemmas.Option.{none-some, same_Some, slice_get_within, slice_get-get_or}
use Rattle.wc_model.specs.declared.graphs.Head.{Head}
use Rattle.wc_model.proofs.Places.{get_left, get_push, get_push_cases, get_set, get_set_other, get_set_cases}
use Rattle.wc_nest.specs.declared.heads.Pair.{Pair}
use Rattle.wc_nest.specs.declared.marking.Mark.{Mark}
use Rattle.wc_nest.specs.Inner.Heads.{pair_at, IsLeastOf, IsPlaceOf, AreListed}
use Rattle.wc_nest.specs.Inner.Levels.{class_number, is_looped, Listed, with_head, put_inside, list_node, list_nodes}
use Rattle.wc_nest.proofs.FlagLemmas.{not_both}
use Rattle.wc_nest.proofs.ListLemmas.{contains_head, contains_tail, empty_contains, rises_head, rises_tail, set_other}

got : {X : Type 0} → Option X → X → X
got None d = d
got (Some x) d = x

index_is : {X : Type 0} (xs : List X) (i : ℕ) (d : X) → slice_index_or xs i d ≡ got (slice_get xs i) d
unfolding got
index_is [] i d = refl
index_is (x ∷ xs) zero d = refl
index_is (x ∷ xs) (suc i) d = index_is xs i d

index_same : {X : Type 0} (xs ys : List X) (i : ℕ) (d : X) → slice_get xs i ≡ slice_get ys i → slice_index_or xs i d ≡ slice_index_or ys i d
index_same {X} xs ys i d same = index_is xs i d ∙ ap (λ (o : Option X). got o d) same ∙ sym (index_is ys i d)

index_at : {X : Type 0} (xs : List X) (i : ℕ) (x d : X) → slice_get xs i ≡ Some x → slice_index_or xs i d ≡ x
unfolding got
index_at {X} xs i x d at = index_is xs i d ∙ ap (λ (o : Option X). got o d) at

module _ (marks : List Mark) (looped : List Bool) (pairs : List Pair) (old : Listed) where
  -- what is so of the members so far, with one more
  module _ (members : List ℕ) (p : ℕ) (l : Listed) (was : AreListed marks looped pairs old members l) (low : (y : ℕ) → Contains members y → y < p) where
    not_among : Contains members p → ⊥
    not_among among = let less : p < p = low p among in omega arith

    -- the least member of a class with a place stays so
    least_kept : (c q : ℕ) → IsLeastOf marks looped pairs old members c q → IsLeastOf marks looped pairs old (members ++ p ∷ []) c q
    least_kept c q is = (
      Contains-append_left members (p ∷ []) q is.0,
      is.1,
      λ r among number. ⊎_elim
          (λ (before : Contains members r). is.2 r before number)
          (λ (same : p ≡ r). let less : q < p = low q is.0 in omega arith)
          (Contains-push_cases members p r among),
    )

    least_old : (c i q : ℕ) → slice_get l.places c ≡ Some (Some i) → IsLeastOf marks looped pairs old (members ++ p ∷ []) c q → IsLeastOf marks looped pairs old members c q
    least_old c i q at is =
        let place = was.place_of c i at in
        let before : place.least < p = low place.least place.is_least.0 in
        let least : q ≤ place.least = is.2 place.least (Contains-append_left members (p ∷ []) place.least place.is_least.0) place.is_least.1 in
        (⊎_elim (λ (in_old : Contains members q). in_old) (λ (same : p ≡ q). absurd (omega arith)) (Contains-push_cases members p q is.0), is.1, λ r among number. is.2 r (Contains-append_left members (p ∷ []) r among) number)

    place_kept : (heads : List Head) → ((i : ℕ) (x : Head) → slice_get l.heads i ≡ Some x → slice_get heads i ≡ Some x) → (c i : ℕ) → slice_get l.places c ≡ Some (Some i) → IsPlaceOf marks looped pairs old (members ++ p ∷ []) heads c i
    place_kept heads kept c i at =
        let place = was.place_of c i at in
        record {
          later = place.later;
          least = place.least;
          is_least = least_kept c place.least place.is_least;
          loop = place.loop;
          node = place.node;
          first = place.first;
          head_is = kept i (record { node = place.node; parent = slice_index_or old.inside place.least None }) place.head_is;
        }

    -- a member that is in no loop
    passes : is_looped marks looped p ≡ false → AreListed marks looped pairs old (members ++ p ∷ []) l
    passes none =
        record {
          grown = was.grown;
          classes = was.classes;
          nodes = was.nodes;
          place_of = place_kept l.heads (λ i x at. at);
          of_member = λ q among is. ⊎_elim (λ (before : Contains members q). was.of_member q before is) (λ (same : p ≡ q). absurd (not_both (subst (λ (x : ℕ). is_looped marks looped x ≡ true) (sym same) is) none)) (Contains-push_cases members p q among);
          of_head = was.of_head;
          ordered = λ c d i j q r at_c at_d less least_q least_r. was.ordered c d i j q r at_c at_d less (least_old c i q at_c least_q) (least_old d j r at_d least_r);
          in_loop = λ q among is. ⊎_elim (λ (before : Contains members q). was.in_loop q before is) (λ (same : p ≡ q). absurd (not_both (subst (λ (x : ℕ). is_looped marks looped x ≡ true) (sym same) is) none)) (Contains-push_cases members p q among);
          outside = λ q apart. was.outside q (λ among is. apart (Contains-append_left members (p ∷ []) q among) is);
        }

    module _ (known : p < length old.inside) (is_loop : is_looped marks looped p ≡ true) where
      c_p : ℕ
      c_p = class_number marks p

      known_now : p < length l.inside
      known_now = omega (arith, was.nodes)

      -- a member whose class is listed
      joins : (i : ℕ) → slice_get l.places (class_number marks p) ≡ Some (Some i) → AreListed marks looped pairs old (members ++ p ∷ []) (record { heads = l.heads; inside = set l.inside p (Some i); places = l.places })
      joins i at =
          record {
            grown = was.grown;
            classes = was.classes;
            nodes = length-set l.inside p (Some i) ∙ was.nodes;
            place_of = place_kept l.heads (λ j x at_j. at_j);
            of_member = λ q among is. ⊎_elim (λ (before : Contains members q). was.of_member q before is) (λ (same : p ≡ q). (i, subst (λ (x : ℕ). slice_get l.places (class_number marks x) ≡ Some (Some i)) same at)) (Contains-push_cases members p q among);
            of_head = was.of_head;
            ordered = λ c d j k q r at_c at_d less least_q least_r. was.ordered c d j k q r at_c at_d less (least_old c j q at_c least_q) (least_old d k r at_d least_r);
            in_loop = λ q among is. ⊎_elim
                (λ (same : p ≡ q). subst (λ (x : ℕ). slice_get (set l.inside p (Some i)) x ≡ slice_get l.places (class_number marks x)) same (get_set l.inside p (Some i) known_now ∙ sym at))
                (λ (other : p ≡ q → ⊥). ⊎_elim
                (λ (before : Contains members q). let there = was.of_member q before is in get_set_other l.inside p q (Some i) (Some there.0) (λ e. other (sym e)) (was.in_loop q before is ∙ there.1) ∙ sym there.1)
                (λ (same : p ≡ q). absurd (other same))
                (Contains-push_cases members p q among))
                (cases_eq p q);
            outside = λ q apart. ⊎_elim
                (λ (same : p ≡ q). absurd (apart (subst (λ (x : ℕ). Contains (members ++ p ∷ []) x) same (Contains-push members p)) (subst (λ (x : ℕ). is_looped marks looped x ≡ true) same is_loop)))
                (λ (other : p ≡ q → ⊥). set_other l.inside p q (Some i) other ∙ was.outside q (λ among is. apart (Contains-append_left members (p ∷ []) q among) is))
                (cases_eq p q);
          }

      -- the first member of its class
      begins : (h : ℕ) → (pair_at pairs (class_number marks p)).first ≡ Some h → slice_get l.places (class_number marks p) ≡ Some None → AreListed marks looped pairs old (members ++ p ∷ [])
          (record { heads = l.heads ++ (record { node = h; parent = slice_index_or l.inside p None }) ∷ []; inside = set l.inside p (Some (length l.heads)); places = set l.places (class_number marks p) (Some (length l.heads)) })
      begins h first none =
          record {
            grown = (was.grown.0 ++ new ∷ [], ap (λ (xs : List Head). xs ++ new ∷ []) was.grown.1 ∙ append_assoc old.heads was.grown.0 (new ∷ []));
            classes = length-set l.places (class_number marks p) (Some n) ∙ was.classes;
            nodes = length-set l.inside p (Some n) ∙ was.nodes;
            place_of = λ c i at. ⊎_elim
                (λ now.
                let place_i : n ≡ i = same_Some n i now.1 in
                subst (λ (x : ℕ). IsPlaceOf marks looped pairs old (members ++ p ∷ []) heads x i) (sym now.0) (subst (λ (x : ℕ). IsPlaceOf marks looped pairs old (members ++ p ∷ []) heads (class_number marks p) x) place_i new_place))
                (λ before. place_kept heads (λ j x at_j. get_left l.heads (new ∷ []) j x at_j) c i before.1)
                (get_set_cases l.places (class_number marks p) c (Some n) (Some i) at);
            of_member = λ q among is. ⊎_elim
                (λ (same : p ≡ q). (n, subst (λ (x : ℕ). slice_get places (class_number marks x) ≡ Some (Some n)) same here_p))
                (λ (other : p ≡ q → ⊥). ⊎_elim
                (λ (before : Contains members q). let there = was.of_member q before is in (there.0, kept_place (class_number marks q) there.0 there.1))
                (λ (same : p ≡ q). absurd (other same))
                (Contains-push_cases members p q among))
                (cases_eq p q);
            of_head = λ i x later at. ⊎_elim
                (λ before. let there = was.of_head i x later before in (there.0, kept_place there.0 i there.1))
                (λ now. (class_number marks p, subst (λ (k : ℕ). slice_get places (class_number marks p) ≡ Some (Some k)) (sym now.0) here_p))
                (get_push_cases l.heads new i x at);
            ordered = λ c d i j q r at_c at_d less least_q least_r. ⊎_elim
                (λ now_d. ⊎_elim
                (λ now_c. absurd (omega (arith, same_Some n i now_c.1, same_Some n j now_d.1)))
                (λ old_c.
                let before : q < p = low q (least_old c i q old_c.1 least_q).0 in
                let is_p : r ≡ p = only_p r (least_r.1 ∙ now_d.0) least_r.0 in
                omega arith)
                (get_set_cases l.places (class_number marks p) c (Some n) (Some i) at_c))
                (λ old_d.
                let place_d = was.place_of d j old_d.1 in
                let within : j < n = slice_get_within l.heads j (record { node = place_d.node; parent = slice_index_or old.inside place_d.least None }) place_d.head_is in
                ⊎_elim
                (λ now_c. absurd (omega (arith, same_Some n i now_c.1)))
                (λ old_c. was.ordered c d i j q r old_c.1 old_d.1 less (least_old c i q old_c.1 least_q) (least_old d j r old_d.1 least_r))
                (get_set_cases l.places (class_number marks p) c (Some n) (Some i) at_c))
                (get_set_cases l.places (class_number marks p) d (Some n) (Some j) at_d);
            in_loop = λ q among is. ⊎_elim
                (λ (same : p ≡ q). subst (λ (x : ℕ). slice_get (set l.inside p (Some n)) x ≡ slice_get places (class_number marks x)) same (get_set l.inside p (Some n) known_now ∙ sym here_p))
                (λ (other : p ≡ q → ⊥). ⊎_elim
                (λ (before : Contains members q). let there = was.of_member q before is in get_set_other l.inside p q (Some n) (Some there.0) (λ e. other (sym e)) (was.in_loop q before is ∙ there.1) ∙ sym (kept_place (class_number marks q) there.0 there.1))
                (λ (same : p ≡ q). absurd (other same))
                (Contains-push_cases members p q among))
                (cases_eq p q);
            outside = λ q apart. ⊎_elim
                (λ (same : p ≡ q). absurd (apart (subst (λ (x : ℕ). Contains (members ++ p ∷ []) x) same (Contains-push members p)) (subst (λ (x : ℕ). is_looped marks looped x ≡ true) same is_loop)))
                (λ (other : p ≡ q → ⊥). set_other l.inside p q (Some n) other ∙ was.outside q (λ among is. apart (Contains-append_left members (p ∷ []) q among) is))
                (cases_eq p q);
          }
        where
          n : ℕ
          n = length l.heads

          new : Head
          new = record { node = h; parent = slice_index_or l.inside p None }

          heads : List Head
          heads = l.heads ++ new ∷ []

          places : List (Option ℕ)
          places = set l.places (class_number marks p) (Some n)

          here_p : slice_get places (class_number marks p) ≡ Some (Some n)
          here_p = get_set l.places (class_number marks p) (Some n) (slice_get_within l.places (class_number marks p) None none)

          kept_place : (c i : ℕ) → slice_get l.places c ≡ Some (Some i) → slice_get places c ≡ Some (Some i)
          kept_place c i at = get_set_other l.places (class_number marks p) c (Some n) (Some i) (λ (same : c ≡ class_number marks p). none-some i (same_Some None (Some i) (sym none ∙ ap (slice_get l.places) (sym same) ∙ at))) at

          -- no member before is of this class
          only_p : (q : ℕ) → class_number marks q ≡ class_number marks p → Contains (members ++ p ∷ []) q → q ≡ p
          only_p q number among = ⊎_elim
              (λ (before : Contains members q).
              let there = was.of_member q before (ap (λ (k : ℕ). slice_index_or looped k false) number ∙ is_loop) in
              absurd (none-some there.0 (same_Some None (Some there.0) (sym none ∙ ap (slice_get l.places) (sym number) ∙ there.1))))
              (λ (same : p ≡ q). sym same)
              (Contains-push_cases members p q among)

          parent_is : slice_index_or l.inside p None ≡ slice_index_or old.inside p None
          parent_is = index_same l.inside old.inside p None (was.outside p (λ among is. not_among among))

          new_place : IsPlaceOf marks looped pairs old (members ++ p ∷ []) heads (class_number marks p) n
          new_place =
              record {
                later = omega (arith, ap length was.grown.1, length-append old.heads was.grown.0);
                least = p;
                is_least = (Contains-push members p, refl, λ q among number. let same : q ≡ p = only_p q number among in omega arith);
                loop = is_loop;
                node = h;
                first = first;
                head_is = get_push l.heads new ∙ ap (λ (o : Option ℕ). Some (record { node = h; parent = o })) parent_is;
              }

  -- one more member
  lists : (members : List ℕ) (p : ℕ) (l : Listed) → AreListed marks looped pairs old members l → ((y : ℕ) → Contains members y → y < p) → p < length old.inside → class_number marks p < length old.places → is_looped marks looped p ≡ true → (h : ℕ) → (pair_at pairs (class_number marks p)).first ≡ Some h → (o : Option ℕ) → slice_get l.places (class_number marks p) ≡ Some o → AreListed marks looped pairs old (members ++ p ∷ []) (put_inside (with_head l (class_number marks p) p (Some h) o) (class_number marks p) p)
  lists members p l was low known class_known is h first (Some i) at =
      let value : slice_index_or l.places (class_number marks p) None ≡ Some i = index_at l.places (class_number marks p) (Some i) None at in
      rw value (joins members p l was low known is i at)
  lists members p l was low known class_known is h first None at =
      let value : slice_index_or (set l.places (class_number marks p) (Some (length l.heads))) (class_number marks p) None ≡ Some (length l.heads) = index_at (set l.places (class_number marks p) (Some (length l.heads))) (class_number marks p) (Some (length l.heads)) None (get_set l.places (class_number marks p) (Some (length l.heads)) (slice_get_within l.places (class_number marks p) None at)) in
      rw value (begins members p l was low known is h first at)

  list_more : (members : List ℕ) (p : ℕ) (l : Listed) (b : Bool) → is_looped marks looped p ≡ b → AreListed marks looped pairs old members l → ((y : ℕ) → Contains members y → y < p) → p < length old.inside → class_number marks p < length old.places → (is_looped marks looped p ≡ true → (h : ℕ) × ((pair_at pairs (class_number marks p)).first ≡ Some h)) → AreListed marks looped pairs old (members ++ p ∷ []) (list_node marks looped pairs l p)
  list_more members p l false is was low known class_known has = rw is (passes members p l was low is)
  list_more members p l true is was low known class_known has =
      let first = has is in
      let at : slice_get l.places (class_number marks p) ≡ Some (slice_index_or l.places (class_number marks p) None) = slice_get-get_or l.places (class_number marks p) None (omega (arith, was.classes)) in
      rw (is, first.1) (lists members p l was low known class_known is first.0 first.1 (slice_index_or l.places (class_number marks p) None) at)

  list_rest : (members : List ℕ) (l : Listed) (ps : List ℕ) → AllPairs (λ x y. x < y) ps → ((y x : ℕ) → Contains members y → Contains ps x → y < x) → ((x : ℕ) → Contains ps x → (x < length old.inside) × (class_number marks x < length old.places) × (is_looped marks looped x ≡ true → (h : ℕ) × ((pair_at pairs (class_number marks x)).first ≡ Some h))) → AreListed marks looped pairs old members l → AreListed marks looped pairs old (members ++ ps) (list_nodes marks looped pairs l ps)
  list_rest members l [] rises low known was = subst (λ (xs : List ℕ). AreListed marks looped pairs old xs l) (sym (append-nil members)) was
  list_rest members l (p ∷ ps) rises low known was =
      let of_p = known p (contains_head p ps) in
      let new = list_more members p l (is_looped marks looped p) refl was (λ y among. low y p among (contains_head p ps)) of_p.0 of_p.1 of_p.2 in
      let all = list_rest (members ++ p ∷ []) (list_node marks looped pairs l p) ps (rises_tail p ps rises)
      (λ y x in_y in_x. ⊎_elim (λ (before : Contains members y). low y x before (contains_tail p ps x in_x)) (λ (same : p ≡ y). let less : p < x = rises_head p ps x rises in_x in omega arith) (Contains-push_cases members p y in_y))
      (λ x among. known x (contains_tail p ps x among)) new in
      subst (λ (xs : List ℕ). AreListed marks looped pairs old xs (list_nodes marks looped pairs (list_node marks looped pairs l p) ps)) (append_assoc members (p ∷ []) ps) all

  none_listed : ((c i : ℕ) → slice_get old.places c ≡ Some (Some i) → ⊥) → AreListed marks looped pairs old [] old
  none_listed none =
      record {
        grown = ([], sym (append-nil old.heads));
        classes = refl;
        nodes = refl;
        place_of = λ c i at. absurd (none c i at);
        of_member = λ p among is. absurd (empty_contains p among);
        of_head = λ i x later at. let within : i < length old.heads = slice_get_within old.heads i x at in absurd (omega arith);
        ordered = λ c d i j p q at_c at_d less least_p least_q. absurd (none c i at_c);
        in_loop = λ p among is. absurd (empty_contains p among);
        outside = λ p apart. refl;
      }

  pub all_listed : (ps : List ℕ) → ((c i : ℕ) → slice_get old.places c ≡ Some (Some i) → ⊥) → AllPairs (λ x y. x < y) ps → ((x : ℕ) → Contains ps x → (x < length old.inside) × (class_number marks x < length old.places) × (is_looped marks looped x ≡ true → (h : ℕ) × ((pair_at pairs (class_number marks x)).first ≡ Some h))) → AreListed marks looped pairs old ps (list_nodes marks looped pairs old ps)
  all_listed ps none rises known = list_rest [] old ps rises (λ y x among later. absurd (empty_contains y among)) known (none_listed none)
