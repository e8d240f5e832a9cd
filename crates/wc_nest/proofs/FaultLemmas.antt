-- The heads of a level's classes, and the class with two.
use Rattle.std.proofs.Common.{ℕ, ◌≡◌, ◌<◌, ◌≤◌, ◌⊎◌, inl, inr, ⊎_elim, Bool, true, List, Option, None, Some, length, replicate, refl, sym, ap, subst, ◌∙◌, arith}
use Rattle.std.specs.List.{Contains, slice_get}
use Rattle.std.proofs.lemmas.Bool.{cases_lt}
use Rattle.std.proofs.lemmas.List.{length-replicate}
use Rattle.std.proofs.lemmas.Option.{none-some, same_Some, slice_get-get_or}
use Rattle.wc_model.specs.declared.graphs.Step.{Step}
use Rattle.wc_model.specs.Flow.Nest.{Together, IsHead, IsSecond}
use Rattle.wc_model.specs.Flow.Walks.{LeadsOn}
use Rattle.wc_model.specs.Program.Graphs.{LeadsIn}
use Rattle.wc_model.proofs.Places.{contains_from_get, get_from_contains}
use Rattle.wc_nest.specs.declared.heads.Pair.{Pair}
use Rattle.wc_nest.specs.declared.marking.Mark.{Mark}
use Rattle.wc_nest.specs.declared.marking.Mark.TheVariants.{Done}
use Rattle.wc_nest.specs.declared.ways.Way.{Way}
use Rattle.wc_nest.specs.Inner.Found.{AreFound}
use Rattle.wc_nest.specs.Inner.Heads.{EntersIn, Noted, AreNoted, pair_at}
use Rattle.wc_nest.specs.Inner.Levels.{IsLevel, class_number, is_looped, no_heads, second_of}
use Rattle.wc_nest.specs.Inner.Marking.{IsOf}
use Rattle.wc_nest.proofs.FlagLemmas.{number_is}
use Rattle.wc_nest.proofs.HeadLemmas.{length-note_nodes, all_noted, second_none, second_some, IsFirstTwo}
use Rattle.wc_nest.proofs.LevelLemmas.{led_member, reach_of, same_of, inside, member_number, looped_leads, leads_looped, entered_head, head_entered}
use Rattle.wc_nest.proofs.ListLemmas.{rises_at}
use Rattle.wc_nest.proofs.RelationLemmas.{reach_cases, together_self, IsSingle, head_of}
use Rattle.wc_nest.specs.Inner.Rooted.{IsRooted}

module _ (nodes : ℕ) (R : ℕ → Option ℕ → Type 0) (start : ℕ) (steps : List Step) (members : List ℕ) (ways : List Way) (level : IsLevel nodes R steps members ways) (graphs : (p q : ℕ) → R p (Some q) → LeadsIn steps p (Some q)) (marks : List Mark) (count : ℕ) (old entered looped : List Bool) (pairs : List Pair) (counted : length old ≡ nodes) (unflagged : (q : ℕ) → slice_get old q ≡ Some true → ⊥) (found : AreFound start members ways marks count old entered looped pairs) where
  pairs_counted : length pairs ≡ count
  pairs_counted = ap length found.are_pairs ∙ length-note_nodes marks entered start (replicate count no_heads) members ∙ length-replicate count no_heads

  number_known : (p : ℕ) → Contains members p → class_number marks p < count
  number_known = member_number nodes R start steps members ways level graphs marks count found.classes

  noted_of : (p : ℕ) → Contains members p → Noted marks entered start members (class_number marks p) (pair_at pairs (class_number marks p)).first (pair_at pairs (class_number marks p)).second
  noted_of p among =
      let noted : AreNoted marks entered start members pairs = subst (λ (ps : List Pair). AreNoted marks entered start members ps) (sym found.are_pairs) (all_noted marks entered start count members level.rises number_known) in
      noted (class_number marks p) (pair_at pairs (class_number marks p)) (slice_get-get_or pairs (class_number marks p) no_heads (omega (arith, pairs_counted, number_known p among)))

  pub head_member : (q : ℕ) → IsHead start R q → Contains members q
  head_member q head = led_member nodes R start steps members ways level graphs q q head.0

  enters : (q : ℕ) → IsHead start R q → EntersIn marks entered start members (class_number marks q) q
  enters q head = (head_member q head, refl, head_entered nodes R start steps members ways level graphs marks count found.classes old entered counted unflagged found.are_entered q head)

  pub same_number : (p q : ℕ) → Contains members p → Contains members q → Together start R p q → class_number marks p ≡ class_number marks q
  same_number p q among_p among_q both =
      let c = found.classes.numbered p among_p in
      let d = found.classes.numbered q among_q in
      number_is marks p c.0 c.2 ∙ same_of nodes R start steps members ways level graphs marks count found.classes p q c.0 d.0 both c.2 d.2 ∙ sym (number_is marks q d.0 d.2)

  -- members of one class lead to each other, or are the same
  pub together_of : (p q : ℕ) → Contains members p → Contains members q → class_number marks p ≡ class_number marks q → (p ≡ q) ⊎ Together start R p q
  together_of p q among_p among_q same =
      let c = found.classes.numbered p among_p in
      let d = found.classes.numbered q among_q in
      let one : d.0 ≡ c.0 = sym (number_is marks q d.0 d.2) ∙ sym same ∙ number_is marks p c.0 c.2 in
      let of_q : IsOf marks q c.0 = d.2 ∙ ap (λ (x : ℕ). Some (Done x)) one in
      let there = reach_of nodes R start steps members ways level graphs marks count found.classes p q c.0 c.2 of_q in
      let back = reach_of nodes R start steps members ways level graphs marks count found.classes q p c.0 of_q c.2 in
      ⊎_elim
      (λ (is : p ≡ q). inl is)
      (λ (led : LeadsOn R p q). ⊎_elim (λ (is : q ≡ p). inl (sym is)) (λ (led_back : LeadsOn R q p). inr (led, led_back)) (reach_cases R q back))
      (reach_cases R p there)

  -- an entered member of a class that has a way inside is a head
  entered_is : (p h : ℕ) → LeadsOn R p p → EntersIn marks entered start members (class_number marks p) h → Contains members p → IsHead start R h × Together start R h p
  entered_is p h led is among =
      let both : Together start R h p = ⊎_elim (λ (same : h ≡ p). subst (λ (x : ℕ). Together start R x p) (sym same) (led, led)) (λ both. both) (together_of h p is.0 among is.1) in
      (entered_head nodes R start steps members ways level graphs marks count found.classes old entered counted unflagged found.are_entered h (together_self R start h p both) is.2, both)

  pub loop_leads : (p : ℕ) → Contains members p → is_looped marks looped p ≡ true → LeadsOn R p p
  loop_leads = looped_leads nodes R start steps members ways level graphs marks count found.classes looped found.are_looped

  pub leads_loop : (p : ℕ) → LeadsOn R p p → is_looped marks looped p ≡ true
  leads_loop = leads_looped nodes R start steps members ways level graphs marks count found.classes looped found.are_looped

  -- each loop has a first head
  pub has_first : IsRooted R start → (p : ℕ) → Contains members p → LeadsOn R p p → (h : ℕ) × ((pair_at pairs (class_number marks p)).first ≡ Some h)
  has_first rooted p among led =
      let head = head_of R start (inside nodes R start steps members ways level graphs marks count found.classes) rooted p led in
      let number : class_number marks head.0 ≡ class_number marks p = same_number head.0 p (head_member head.0 head.1) among head.2 in
      first_of (pair_at pairs (class_number marks p)).first (pair_at pairs (class_number marks p)).second refl (noted_of p among) (subst (λ (c : ℕ). EntersIn marks entered start members c head.0) number (enters head.0 head.1))
    where
      first_of : (first second : Option ℕ) → (pair_at pairs (class_number marks p)).first ≡ first → Noted marks entered start members (class_number marks p) first second → {x : ℕ} → EntersIn marks entered start members (class_number marks p) x → (h : ℕ) × ((pair_at pairs (class_number marks p)).first ≡ Some h)
      first_of None second is noted {x} enters_x = absurd (noted.1 x enters_x)
      first_of (Some h) second is noted enters_x = (h, is)

  first_enters : (p h : ℕ) (first second : Option ℕ) → first ≡ Some h → Noted marks entered start members (class_number marks p) first second → EntersIn marks entered start members (class_number marks p) h
  first_enters p h None second is noted = absurd (none-some h is)
  first_enters p h (Some f) None is noted = subst (λ (x : ℕ). EntersIn marks entered start members (class_number marks p) x) (same_Some f h is) noted.0
  first_enters p h (Some f) (Some q) is noted = subst (λ (x : ℕ). EntersIn marks entered start members (class_number marks p) x) (same_Some f h is) noted.0

  pub first_head : (p h : ℕ) → Contains members p → LeadsOn R p p → (pair_at pairs (class_number marks p)).first ≡ Some h → IsHead start R h × Together start R h p
  first_head p h among led is = entered_is p h led (first_enters p h (pair_at pairs (class_number marks p)).first (pair_at pairs (class_number marks p)).second is (noted_of p among)) among

  -- no class with two heads
  pub single_from : second_of marks pairs members ≡ None → IsSingle R start
  single_from none p q head_p head_q both =
      let among_p = head_member p head_p in
      let among_q = head_member q head_q in
      let number : class_number marks q ≡ class_number marks p = sym (same_number p q among_p among_q both) in
      one (pair_at pairs (class_number marks p)).first (pair_at pairs (class_number marks p)).second (second_none marks pairs members none p among_p) (noted_of p among_p) (enters p head_p) (subst (λ (c : ℕ). EntersIn marks entered start members c q) number (enters q head_q))
    where
      one : (first second : Option ℕ) → second ≡ None → Noted marks entered start members (class_number marks p) first second → EntersIn marks entered start members (class_number marks p) p → EntersIn marks entered start members (class_number marks p) q → p ≡ q
      one None second is noted is_p is_q = absurd (noted.1 p is_p)
      one (Some h) None is noted is_p is_q = noted.1 p is_p ∙ sym (noted.1 q is_q)
      one (Some h) (Some r) is noted is_p is_q = absurd (none-some r (sym is))

  two_heads : (c p q : ℕ) (first second : Option ℕ) → p < q → Noted marks entered start members c first second → EntersIn marks entered start members c p → EntersIn marks entered start members c q → second ≡ None → ⊥
  two_heads c p q None second less noted is_p is_q none = noted.1 p is_p
  two_heads c p q (Some h) None less noted is_p is_q none = absurd (omega (arith, noted.1 p is_p, noted.1 q is_q))
  two_heads c p q (Some h) (Some r) less noted is_p is_q none = none-some r (sym none)

  -- the first member of a class with two heads
  module _ (q : ℕ) (is_second : second_of marks pairs members ≡ Some q) where
    abbrev pub first_two : IsFirstTwo marks pairs members q
    first_two = second_some marks pairs members q is_second

    least_member : Contains members first_two.least
    least_member = contains_from_get members first_two.place first_two.least first_two.at

    earlier : (r : ℕ) → Contains members r → r < first_two.least → (pair_at pairs (class_number marks r)).second ≡ None
    earlier r among less =
        let placed : (j : ℕ) × (slice_get members j ≡ Some r) = get_from_contains members r among in
        first_two.before placed.0 r (⊎_elim (λ (before : placed.0 < first_two.place). before) (λ (after : first_two.place ≤ placed.0). absurd (omega (arith, not_after placed.0 placed.1 after less))) (cases_lt placed.0 first_two.place)) placed.1
      where
        not_after : (j : ℕ) → slice_get members j ≡ Some r → first_two.place ≤ j → r < first_two.least → first_two.least ≤ r
        not_after j at after less = ⊎_elim
            (λ (before : first_two.place < j). let grows : first_two.least < r = rises_at members first_two.place j first_two.least r level.rises first_two.at at before in omega arith)
            (λ (same : j ≤ first_two.place). let one : first_two.place ≡ j = omega arith in let is : first_two.least ≡ r = same_Some first_two.least r (sym first_two.at ∙ ap (slice_get members) one ∙ at) in omega arith)
            (cases_lt first_two.place j)

    pub second_from : IsSecond start R (λ x y. x < y) q first_two.least
    second_from = made (pair_at pairs (class_number marks first_two.least)).first (pair_at pairs (class_number marks first_two.least)).second first_two.second (noted_of first_two.least least_member)
      where
        made : (first second : Option ℕ) → second ≡ Some q → Noted marks entered start members (class_number marks first_two.least) first second → IsSecond start R (λ x y. x < y) q first_two.least
        made None second is noted = absurd (none-some q (sym noted.0 ∙ is))
        made (Some h) None is noted = absurd (none-some q is)
        made (Some h) (Some r) is noted =
            let same : r ≡ q = same_Some r q is in
            let enters_q : EntersIn marks entered start members (class_number marks first_two.least) q = subst (λ (x : ℕ). EntersIn marks entered start members (class_number marks first_two.least) x) same noted.1 in
            let pair : Together start R h q = ⊎_elim (λ (e : h ≡ q). absurd (omega (arith, noted.2))) (λ both. both) (together_of h q noted.0.0 enters_q.0 (noted.0.1 ∙ sym enters_q.1)) in
            let with_least : (p : ℕ) → EntersIn marks entered start members (class_number marks first_two.least) p → LeadsOn R p p → IsHead start R p = λ p is_p led. (entered_is p p led (is_p.0, refl, is_p.2) is_p.0).0 in
            let led_q = together_self R start q h (pair.1, pair.0) in
            let led_h = together_self R start h q pair in
            record {
              head = with_least q enters_q led_q;
              first = (
                h,
                omega (arith, noted.2),
                with_least h noted.0 led_h,
                pair,
                λ p less head both.
                    let among = head_member p head in
                    noted.3 p (omega arith) (among, same_number p q among enters_q.0 both ∙ enters_q.1, (enters p head).2),
              );
              member = ⊎_elim (λ (e : first_two.least ≡ q). subst (λ (x : ℕ). Together start R x q) (sym e) (led_q, led_q)) (λ both. both) (together_of first_two.least q least_member enters_q.0 (sym enters_q.1));
              below = λ p both less.
                  let among = led_member nodes R start steps members ways level graphs q p both.1 in
                  none-some q (sym (earlier p among less) ∙ ap (λ (c : ℕ). (pair_at pairs c).second) (same_number p q among enters_q.0 both ∙ enters_q.1) ∙ first_two.second);
            }

    pub least_of_all : (p m : ℕ) → IsSecond start R (λ x y. x < y) p m → m < first_two.least → ⊥
    least_of_all p m second less =
        let among_m = led_member nodes R start steps members ways level graphs p m second.member.1 in
        let f = second.first in
        let number_p : class_number marks p ≡ class_number marks m = sym (same_number m p among_m (head_member p second.head) second.member) in
        let number_f : class_number marks f.0 ≡ class_number marks m = same_number f.0 p (head_member f.0 f.2) (head_member p second.head) f.3 ∙ number_p in
        two_heads (class_number marks m) f.0 p (pair_at pairs (class_number marks m)).first (pair_at pairs (class_number marks m)).second f.1 (noted_of m among_m)
        (subst (λ (c : ℕ). EntersIn marks entered start members c f.0) number_f (enters f.0 f.2))
        (subst (λ (c : ℕ). EntersIn marks entered start members c p) number_p (enters p second.head))
        (earlier m among_m less)
