-- The classes and flags of a level, in the terms of its steps.
use Rattle.std.proofs.Common.{ℕ, zero, suc, ◌≡◌, ◌<◌, ◌≤◌, ◌⊎◌, inl, inr, ⊎_elim, Bool, true, false, not, ◌&&◌, List, Option, Some, length, replicate, refl, sym, ap, subst, ◌∙◌, arith}
use Rattle.std.specs.List.{Contains, slice_get, filter}
use Rattle.std.proofs.lemmas.Bool.{cases_eq}
use Rattle.std.proofs.lemmas.List.Elements.{All-contains, All-filter}
use Rattle.std.proofs.lemmas.List.{length-replicate}
use Rattle.std.proofs.lemmas.List.Kept.{AllPairs-filter}
use Rattle.std.proofs.lemmas.Option.{none-some, same_Some}
use Rattle.wc_model.specs.declared.graphs.Step.{Step}
use Rattle.wc_model.specs.Flow.Nest.{Together, IsHead, Inner}
use Rattle.wc_model.specs.Flow.Walks.{LeadsOn}
use Rattle.wc_model.specs.Program.Graphs.{LeadsIn}
use Rattle.wc_model.specs.Program.Reaching.{Reaches}
use Rattle.wc_model.proofs.Places.{get_from_contains}
use Rattle.wc_nest.specs.declared.marking.Mark.{Mark}
use Rattle.wc_nest.specs.declared.marking.Mark.TheVariants.{Done}
use Rattle.wc_nest.specs.declared.ways.Way.{Way}
use Rattle.wc_nest.specs.Inner.Classes.{AreClasses}
use Rattle.wc_nest.specs.Inner.Levels.{IsLevel, class_number, stays, enter_ways, is_entered, loop_ways, is_looped, is_inner}
use Rattle.wc_nest.specs.Inner.Marking.{IsOf}
use Rattle.wc_nest.specs.Inner.Ways.{WaysLead}
use Rattle.wc_nest.proofs.FlagLemmas.{true_or_false, not_both, flag_set, flag_from, filter_from, filter_to, filter_shorter, number_is, stays_same, same_stays, flag_at, at_flag, entered_cases, entered_start, entered_flag}
use Rattle.wc_nest.proofs.RelationLemmas.{reaches_map, led_reach, led_on, on_led, together_self, together_step, head_of}
use Rattle.wc_nest.specs.Inner.Rooted.{IsRooted}

no_flag : (n q : ℕ) → slice_get (replicate n false) q ≡ Some true → ⊥
no_flag zero q at = none-some true at
no_flag (suc n) zero at = let e : false ≡ true = same_Some false true at in cc
no_flag (suc n) (suc q) at = no_flag n q at

module _ (nodes : ℕ) (R : ℕ → Option ℕ → Type 0) (start : ℕ) (steps : List Step) (members : List ℕ) (ways : List Way) (level : IsLevel nodes R steps members ways) (graphs : (p q : ℕ) → R p (Some q) → LeadsIn steps p (Some q)) where
  -- the way that stands for a step
  pub way_for : (p q : ℕ) → R p (Some q) → (w : Way) × Contains ways w × (w.source ≡ p) × (w.target ≡ q)
  way_for p q led =
      let found = graphs p q led in
      let s : Step = found.0 in
      let placed : (i : ℕ) × (slice_get steps i ≡ Some s) = get_from_contains steps s found.1 in
      let w = level.all placed.0 s q placed.1 found.3 (subst (λ (x : ℕ). R x (Some q)) (sym found.2) led) in
      let of = (level.sound w.0 w.1).0 in
      let same : of.step ≡ s = same_Some of.step s (sym of.at ∙ ap (slice_get steps) w.2 ∙ placed.1) in
      (w.0, w.1, sym of.from ∙ ap (λ (x : Step). x.source) same ∙ found.2, same_Some w.0.target q (sym of.to ∙ ap (λ (x : Step). x.target) same ∙ found.3))

  pub from_ways : (p q : ℕ) → WaysLead ways p (Some q) → R p (Some q)
  from_ways p q (w, among, from, to) = subst (λ (x : ℕ). R p (Some x)) (same_Some w.target q to) (subst (λ (x : ℕ). R x (Some w.target)) from (level.sound w among).1)

  pub to_ways : (p q : ℕ) → R p (Some q) → WaysLead ways p (Some q)
  to_ways p q led = let w = way_for p q led in (w.0, w.1, w.2, ap Some w.3)

  pub source_member : (p q : ℕ) → R p (Some q) → Contains members p
  source_member p q led = let w = way_for p q led in subst (λ (x : ℕ). Contains members x) w.2 (level.ends w.0 w.1).0

  pub target_member : (p q : ℕ) → R p (Some q) → Contains members q
  target_member p q led = let w = way_for p q led in subst (λ (x : ℕ). Contains members x) w.3 (level.ends w.0 w.1).1

  pub led_member : (p q : ℕ) → LeadsOn R p q → Contains members q
  led_member p q (m, way, step) = target_member m q step

  module _ (marks : List Mark) (count : ℕ) (classes : AreClasses ways members marks count) where
    pub reach_of : (p q c : ℕ) → IsOf marks p c → IsOf marks q c → Reaches R p q
    reach_of p q c at_p at_q = reaches_map (WaysLead ways) R from_ways p (classes.alike p q c at_p at_q)

    pub same_of : (p q c d : ℕ) → Together start R p q → IsOf marks p c → IsOf marks q d → c ≡ d
    same_of p q c d both at_p at_q =
        let low : d ≤ c = classes.falls p q c d at_p at_q (reaches_map R (WaysLead ways) to_ways p (led_reach R p q both.0)) in
        let high : c ≤ d = classes.falls q p d c at_q at_p (reaches_map R (WaysLead ways) to_ways q (led_reach R q p both.1)) in
        omega arith

    pub inside : (p q : ℕ) → R p (Some q) → Together start R p q ⊎ (Together start R p q → ⊥)
    inside p q led =
        let c = classes.numbered p (source_member p q led) in
        let d = classes.numbered q (target_member p q led) in
        ⊎_elim
        (λ (same : c.0 ≡ d.0). inl (together_step R start p q led (reach_of q p c.0 (d.2 ∙ ap (λ (x : ℕ). Some (Done x)) (sym same)) c.2)))
        (λ (other : c.0 ≡ d.0 → ⊥). inr (λ both. other (same_of p q c.0 d.0 both c.2 d.2)))
        (cases_eq c.0 d.0)

    -- numbers of the ends of a way
    ends_of : (w : Way) → Contains ways w → (c : ℕ) × (d : ℕ) × IsOf marks w.source c × IsOf marks w.target d × (class_number marks w.source ≡ c) × (class_number marks w.target ≡ d)
    ends_of w among =
        let ends = level.ends w among in
        let c = classes.numbered w.source ends.0 in
        let d = classes.numbered w.target ends.1 in
        (c.0, d.0, c.2, d.2, number_is marks w.source c.0 c.2, number_is marks w.target d.0 d.2)

    pub source_number : (w : Way) → Contains ways w → class_number marks w.source < count
    source_number w among = let c = classes.numbered w.source (level.ends w among).0 in omega (arith, number_is marks w.source c.0 c.2, c.1)

    pub member_number : (p : ℕ) → Contains members p → class_number marks p < count
    member_number p among = let c = classes.numbered p among in omega (arith, number_is marks p c.0 c.2, c.1)

    -- a way that stays, or crosses
    pub stays_together : (w : Way) → Contains ways w → stays marks w ≡ true → Together start R w.source w.target
    stays_together w among is =
        let e = ends_of w among in
        let same : e.1 ≡ e.0 = omega (arith, stays_same marks w is, e.4, e.5) in
        together_step R start w.source w.target (level.sound w among).1 (reach_of w.target w.source e.0 (e.3 ∙ ap (λ (x : ℕ). Some (Done x)) same) e.2)

    pub together_stays : (w : Way) → Contains ways w → Together start R w.source w.target → stays marks w ≡ true
    together_stays w among both =
        let e = ends_of w among in
        same_stays marks w (e.4 ∙ same_of w.source w.target e.0 e.1 both e.2 e.3 ∙ sym e.5)

    -- loops
    module _ (looped : List Bool) (are_looped : looped ≡ loop_ways marks (replicate count false) ways) where
      pub looped_leads : (p : ℕ) → Contains members p → is_looped marks looped p ≡ true → LeadsOn R p p
      looped_leads p among is =
          let number = classes.numbered p among in
          let flagged : slice_get (loop_ways marks (replicate count false) ways) (class_number marks p) ≡ Some true = subst (λ (xs : List Bool). slice_get xs (class_number marks p) ≡ Some true) are_looped (flag_at looped (class_number marks p) is) in
          ⊎_elim
          (λ none. absurd (no_flag count (class_number marks p) none))
          (λ found.
          let w : Way = found.0 in
          let e = ends_of w found.1 in
          let same : e.0 ≡ number.0 = omega (arith, e.4, number_is marks p number.0 number.2, found.3) in
          let both = stays_together w found.1 found.2 in
          let of_p : IsOf marks p e.0 = number.2 ∙ ap (λ (x : ℕ). Some (Done x)) (sym same) in
          let to_source : Reaches R p w.source = reach_of p w.source e.0 of_p e.2 in
          led_on R p w.source (on_led R p w.source w.source to_source (together_self R start w.source w.target both)) (reach_of w.source p e.0 e.2 of_p))
          (flag_from (stays marks) (λ (w : Way). class_number marks w.source) (replicate count false) ways (class_number marks p) flagged)

      pub leads_looped : (p : ℕ) → LeadsOn R p p → is_looped marks looped p ≡ true
      leads_looped p (m, way, step) =
          let w = way_for m p step in
          let both : Together start R m p = together_step R start m p step way in
          let stays_w : stays marks w.0 ≡ true = together_stays w.0 w.1 (subst (λ (x : ℕ). Together start R x w.0.target) (sym w.2) (subst (λ (x : ℕ). Together start R m x) (sym w.3) both)) in
          let flagged : slice_get (loop_ways marks (replicate count false) ways) (class_number marks w.0.source) ≡ Some true = flag_set (stays marks) (λ (v : Way). class_number marks v.source) (replicate count false) ways w.0 w.1 stays_w (omega (arith, source_number w.0 w.1, length-replicate count false)) in
          let number : class_number marks w.0.source ≡ class_number marks p = stays_same marks w.0 stays_w ∙ ap (class_number marks) w.3 in
          at_flag looped (class_number marks p) (subst (λ (xs : List Bool). slice_get xs (class_number marks p) ≡ Some true) (sym are_looped) (subst (λ (n : ℕ). slice_get (loop_ways marks (replicate count false) ways) n ≡ Some true) number flagged))

    -- heads
    module _ (old entered : List Bool) (counted : length old ≡ nodes) (unflagged : (q : ℕ) → slice_get old q ≡ Some true → ⊥) (are_entered : entered ≡ enter_ways marks old ways) where
      pub entered_head : (q : ℕ) → LeadsOn R q q → is_entered entered start q ≡ true → IsHead start R q
      entered_head q led is = ⊎_elim
          (λ (same : q ≡ start). (led, inl same))
          (λ (flagged : slice_get entered q ≡ Some true). ⊎_elim
          (λ before. absurd (unflagged q before))
          (λ found.
          let w : Way = found.0 in
          let from : R w.source (Some q) = subst (λ (x : ℕ). R w.source (Some x)) found.3 (level.sound w found.1).1 in
          (led, inr (w.source, from, λ both. apart w found.1 found.2 (subst (λ (x : ℕ). Together start R w.source x) (sym found.3) both))))
          (flag_from (λ (w : Way). not (stays marks w)) (λ (w : Way). w.target) old ways q (subst (λ (xs : List Bool). slice_get xs q ≡ Some true) are_entered flagged)))
          (entered_cases entered start q is)
        where
          apart : (w : Way) → Contains ways w → not (stays marks w) ≡ true → Together start R w.source w.target → ⊥
          apart w among crosses both = let is_in : stays marks w ≡ true = together_stays w among both in let bad : not (stays marks w) ≡ false = rw is_in refl in not_both crosses bad

      pub head_entered : (q : ℕ) → IsHead start R q → is_entered entered start q ≡ true
      head_entered q head = ⊎_elim
          (λ (same : q ≡ start). entered_start entered start q same)
          (λ from.
          let w = way_for from.0 q from.1 in
          let crosses : not (stays marks w.0) ≡ true = crossing w.0 w.1 (λ both. from.2 (subst (λ (x : ℕ). Together start R x q) w.2 (subst (λ (x : ℕ). Together start R w.0.source x) w.3 both))) in
          let known : w.0.target < nodes = All-contains (λ (v : Way). v.target < nodes) ways w.0 level.fine.targets w.1 in
          let flagged : slice_get (enter_ways marks old ways) w.0.target ≡ Some true = flag_set (λ (v : Way). not (stays marks v)) (λ (v : Way). v.target) old ways w.0 w.1 crosses (omega arith) in
          entered_flag entered start q (subst (λ (xs : List Bool). slice_get xs q ≡ Some true) (sym are_entered) (subst (λ (x : ℕ). slice_get (enter_ways marks old ways) x ≡ Some true) w.3 flagged)))
          head.1
        where
          crossing : (w : Way) → Contains ways w → (Together start R w.source w.target → ⊥) → not (stays marks w) ≡ true
          crossing w among apart = ⊎_elim
              (λ (is : stays marks w ≡ true). absurd (apart (stays_together w among is)))
              (λ (is : stays marks w ≡ false). rw is refl)
              (true_or_false (stays marks w))

      pub decide : (q : ℕ) → LeadsOn R q q → IsHead start R q ⊎ (IsHead start R q → ⊥)
      decide q led = ⊎_elim
          (λ (is : is_entered entered start q ≡ true). inl (entered_head q led is))
          (λ (is : is_entered entered start q ≡ false). inr (λ head. not_both (head_entered q head) is))
          (true_or_false (is_entered entered start q))

      -- the next level
      pub inner_from : (w : Way) → Contains (filter (is_inner marks entered start) ways) w → Contains ways w × Inner start R w.source (Some w.target)
      inner_from w among =
          let of = filter_from (is_inner marks entered start) ways w among in
          let parts = both_true (stays marks w) (is_entered entered start w.target) of.1 in
          (of.0, ((level.sound w of.0).1, stays_together w of.0 parts.0, λ head. not_both (head_entered w.target head) parts.1))
        where
          both_true : (a b : Bool) → (a && not b) ≡ true → (a ≡ true) × (b ≡ false)
          both_true true true is = absurd (not_both is refl)
          both_true true false is = (refl, refl)
          both_true false true is = absurd (not_both is refl)
          both_true false false is = absurd (not_both is refl)

      pub inner_to : (w : Way) → Contains ways w → Inner start R w.source (Some w.target) → Contains (filter (is_inner marks entered start) ways) w
      inner_to w among (led, both, apart) =
          let in_class : stays marks w ≡ true = together_stays w among both in
          let no_entry : is_entered entered start w.target ≡ false = not_entered w.target (together_self R start w.target w.source (both.1, both.0)) apart in
          filter_to (is_inner marks entered start) ways w among (rw (in_class, no_entry) refl)
        where
          not_entered : (q : ℕ) → LeadsOn R q q → (IsHead start R q → ⊥) → is_entered entered start q ≡ false
          not_entered q looped apart = ⊎_elim
              (λ (is : is_entered entered start q ≡ true). absurd (apart (entered_head q looped is)))
              (λ (is : is_entered entered start q ≡ false). is)
              (true_or_false (is_entered entered start q))

      -- the steps become fewer
      pub fewer : IsRooted R start → (w : Way) → Contains ways w → length (filter (is_inner marks entered start) ways) < length ways
      fewer rooted w among = ⊎_elim
          (λ (is : stays marks w ≡ true).
          let both = stays_together w among is in
          let head = head_of R start inside rooted w.source (together_self R start w.source w.target both) in
          let last = head.1.0 in
          let v = way_for last.0 head.0 last.2 in
          let entry : is_entered entered start v.0.target ≡ true = subst (λ (x : ℕ). is_entered entered start x ≡ true) (sym v.3) (head_entered head.0 head.1) in
          filter_shorter (is_inner marks entered start) ways v.0 v.1 (rw entry (and_false (stays marks v.0))))
          (λ (is : stays marks w ≡ false). filter_shorter (is_inner marks entered start) ways w among (rw is refl))
          (true_or_false (stays marks w))
        where
          and_false : (a : Bool) → (a && false) ≡ false
          and_false true = refl
          and_false false = refl

      pub next_level : (looped : List Bool) → looped ≡ loop_ways marks (replicate count false) ways → IsLevel nodes (Inner start R) steps (filter (is_looped marks looped) members) (filter (is_inner marks entered start) ways)
      next_level looped are_looped =
          record {
            fine = record {
              sources = All-filter (is_inner marks entered start) (λ (w : Way). w.source < nodes) ways level.fine.sources;
              targets = All-filter (is_inner marks entered start) (λ (w : Way). w.target < nodes) ways level.fine.targets;
              sorted = AllPairs-filter (λ (s t : Way). s.source ≤ t.source) (is_inner marks entered start) ways level.fine.sorted;
            };
            rises = AllPairs-filter (λ (p q : ℕ). p < q) (is_looped marks looped) members level.rises;
            known = All-filter (is_looped marks looped) (λ (p : ℕ). p < nodes) members level.known;
            ends = λ w among.
                let of = inner_from w among in
                let ends = level.ends w of.0 in
                let both = of.1.1 in (
                  filter_to (is_looped marks looped) members w.source ends.0 (leads_looped looped are_looped w.source (together_self R start w.source w.target both)),
                  filter_to (is_looped marks looped) members w.target ends.1 (leads_looped looped are_looped w.target (together_self R start w.target w.source (both.1, both.0))),
                );
            sound = λ w among. let of = inner_from w among in ((level.sound w of.0).0, of.1);
            all = λ i s q at to led.
                let w = level.all i s q at to led.0 in
                let of = (level.sound w.0 w.1).0 in
                let same : of.step ≡ s = same_Some of.step s (sym of.at ∙ ap (slice_get steps) w.2 ∙ at) in
                let from : w.0.source ≡ s.source = sym of.from ∙ ap (λ (x : Step). x.source) same in
                let target : w.0.target ≡ q = same_Some w.0.target q (sym of.to ∙ ap (λ (x : Step). x.target) same ∙ to) in
                (w.0, inner_to w.0 w.1 (subst (λ (x : ℕ). Inner start R x (Some w.0.target)) (sym from) (subst (λ (x : ℕ). Inner start R s.source (Some x)) (sym target) led)), w.2);
          }
