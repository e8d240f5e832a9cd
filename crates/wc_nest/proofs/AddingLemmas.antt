-- What a level adds to the nest.
use Rattle.std.proofs.Common.{ℕ, ◌≡◌, ◌≤◌, ◌⊎◌, inl, inr, ⊎_elim, Bool, true, false, ◌&&◌, List, Option, None, Some, length, refl, sym, ap, subst, ◌∙◌, arith}
use Rattle.std.specs.List.{Contains, slice_get, slice_index_or}
use Rattle.std.proofs.lemmas.Option.{none-some, same_Some, slice_get_within, get_or_from_slice_get}
use Rattle.wc_model.specs.declared.graphs.Graph.{Graph}
use Rattle.wc_model.specs.declared.graphs.Head.{Head}
use Rattle.wc_model.specs.declared.graphs.Step.{Step}
use Rattle.wc_model.specs.Flow.Nest.{HeadAt, ClassAt, IsListed, IsHeadFor}
use Rattle.wc_model.specs.Flow.Walks.{LeadsOn}
use Rattle.wc_model.specs.Program.Graphs.{LeadsIn}
use Rattle.wc_nest.specs.declared.heads.Pair.{Pair}
use Rattle.wc_nest.specs.declared.marking.Mark.{Mark}
use Rattle.wc_nest.specs.declared.marking.Mark.TheVariants.{New, Open, Done}
use Rattle.wc_nest.specs.declared.ways.Way.{Way}
use Rattle.wc_nest.specs.Inner.Found.{AreFound}
use Rattle.wc_nest.specs.Inner.Heads.{pair_at, IsLeastOf, IsPlaceOf, AreListed}
use Rattle.wc_nest.specs.Inner.Levels.{IsLevel, class_number, stays, is_entered, is_looped, Listed, is_back, back_ways}
use Rattle.wc_nest.specs.Inner.Nests.{StepAt, GoesBackAt, IsNestAt}
use Rattle.wc_nest.proofs.FaultLemmas.{same_number, together_of, loop_leads, leads_loop, first_head}
use Rattle.wc_nest.proofs.FlagLemmas.{not_both, length-flag_all, flag_kept, flag_set, flag_from}
use Rattle.wc_nest.proofs.LevelLemmas.{led_member, stays_together, together_stays, entered_head, head_entered}
use Rattle.wc_nest.proofs.NestLemmas.{step_at}
use Rattle.wc_nest.proofs.RelationLemmas.{together_self, IsSingle}

both_true : (a b : Bool) → (a && b) ≡ true → (a ≡ true) × (b ≡ true)
both_true true true is = (refl, refl)
both_true true false is = absurd (not_both is refl)
both_true false b is = absurd (not_both is refl)

module _ (graph : Graph) (to : ℕ) (members : List ℕ) (ways : List Way) (level : IsLevel (length graph.nodes) (StepAt graph to) graph.steps members ways) (graphs : (p q : ℕ) → StepAt graph to p (Some q) → LeadsIn graph.steps p (Some q)) (marks : List Mark) (count : ℕ) (old entered looped : List Bool) (pairs : List Pair) (counted : length old ≡ length graph.nodes) (unflagged : (q : ℕ) → slice_get old q ≡ Some true → ⊥) (found : AreFound graph.start members ways marks count old entered looped pairs) where
  member_of : (p : ℕ) → LeadsOn (StepAt graph to) p p → Contains members p
  member_of p led = led_member (length graph.nodes) (StepAt graph to) graph.start graph.steps members ways level graphs p p led

  loop_of : (p : ℕ) → LeadsOn (StepAt graph to) p p → is_looped marks looped p ≡ true
  loop_of = leads_loop (length graph.nodes) (StepAt graph to) graph.start graph.steps members ways level graphs marks count old entered looped pairs counted unflagged found

  leads_of : (p : ℕ) → Contains members p → is_looped marks looped p ≡ true → LeadsOn (StepAt graph to) p p
  leads_of = loop_leads (length graph.nodes) (StepAt graph to) graph.start graph.steps members ways level graphs marks count old entered looped pairs counted unflagged found

  first_of : (p h : ℕ) → Contains members p → LeadsOn (StepAt graph to) p p → (pair_at pairs (class_number marks p)).first ≡ Some h → HeadAt graph to h × ClassAt graph to h p
  first_of = first_head (length graph.nodes) (StepAt graph to) graph.start graph.steps members ways level graphs marks count old entered looped pairs counted unflagged found

  number_of_class : (p q : ℕ) → Contains members p → Contains members q → ClassAt graph to p q → class_number marks p ≡ class_number marks q
  number_of_class = same_number (length graph.nodes) (StepAt graph to) graph.start graph.steps members ways level graphs marks count old entered looped pairs counted unflagged found

  class_of_number : (p q : ℕ) → Contains members p → Contains members q → class_number marks p ≡ class_number marks q → (p ≡ q) ⊎ ClassAt graph to p q
  class_of_number = together_of (length graph.nodes) (StepAt graph to) graph.start graph.steps members ways level graphs marks count old entered looped pairs counted unflagged found

  -- a node is in a loop of this level or not
  pub decides : (p : ℕ) → ClassAt graph to p p ⊎ (ClassAt graph to p p → ⊥)
  decides p = by_mark (slice_get marks p) refl
    where
      by_loop : Contains members p → (b : Bool) → is_looped marks looped p ≡ b → ClassAt graph to p p ⊎ (ClassAt graph to p p → ⊥)
      by_loop among true is = let led = leads_of p among is in inl (led, led)
      by_loop among false is = inr (λ both. not_both (loop_of p both.0) is)

      apart : (m : Option Mark) → slice_get marks p ≡ m → ((c : ℕ) → m ≡ Some (Done c) → ⊥) → ClassAt graph to p p → ⊥
      apart m at other both = let number = found.classes.numbered p (member_of p both.0) in other number.0 (sym at ∙ number.2)

      by_mark : (m : Option Mark) → slice_get marks p ≡ m → ClassAt graph to p p ⊎ (ClassAt graph to p p → ⊥)
      by_mark None at = inr (apart None at (λ c e. none-some (Done c) e))
      by_mark (Some New) at = inr (apart (Some New) at (λ c e. let bad : New ≡ Done c = same_Some New (Done c) e in cc))
      by_mark (Some (Open i)) at = inr (apart (Some (Open i)) at (λ c e. let bad : Open i ≡ Done c = same_Some (Open i) (Done c) e in cc))
      by_mark (Some (Done c)) at = by_loop (found.classes.only p (Done c, at, λ (e : Done c ≡ New). cc)) (is_looped marks looped p) refl

  -- back steps
  module _ (back : List Bool) (back_counted : length back ≡ length graph.steps) where
    pub length-new_back : length (back_ways marks entered graph.start back ways) ≡ length back
    length-new_back = length-flag_all (is_back marks entered graph.start) (λ (w : Way). w.place) back ways

    goes : (i : ℕ) (s : Step) (w : Way) → slice_get graph.steps i ≡ Some s → Contains ways w → is_back marks entered graph.start w ≡ true → w.place ≡ i → GoesBackAt graph to s
    goes i s w at among is place =
        let parts = both_true (stays marks w) (is_entered entered graph.start w.target) is in
        let both = stays_together (length graph.nodes) (StepAt graph to) graph.start graph.steps members ways level graphs marks count found.classes w among parts.0 in
        let head = entered_head (length graph.nodes) (StepAt graph to) graph.start graph.steps members ways level graphs marks count found.classes old entered counted unflagged found.are_entered w.target (together_self (StepAt graph to) graph.start w.target w.source (both.1, both.0)) parts.1 in
        let of = (level.sound w among).0 in
        let same : of.step ≡ s = same_Some of.step s (sym of.at ∙ ap (slice_get graph.steps) place ∙ at) in
        (w.target, sym (ap (λ (x : Step). x.target) same) ∙ of.to, (head, subst (λ (x : ℕ). ClassAt graph to x w.target) (sym of.from ∙ ap (λ (x : Step). x.source) same) both))

    flags : (i : ℕ) (s : Step) → slice_get graph.steps i ≡ Some s → GoesBackAt graph to s → slice_get (back_ways marks entered graph.start back ways) i ≡ Some true
    flags i s at (h, is_h, (head, both)) =
        let step : StepAt graph to s.source (Some h) = step_at graph to s.source h (s, (i, slice_get_within graph.steps i s at, get_or_from_slice_get graph.steps i s s at), refl, is_h) both in
        let w = level.all i s h at is_h step in
        let of = (level.sound w.0 w.1).0 in
        let same : of.step ≡ s = same_Some of.step s (sym of.at ∙ ap (slice_get graph.steps) w.2 ∙ at) in
        let from : s.source ≡ w.0.source = sym (ap (λ (x : Step). x.source) same) ∙ of.from in
        let target : h ≡ w.0.target = same_Some h w.0.target (sym is_h ∙ sym (ap (λ (x : Step). x.target) same) ∙ of.to) in
        let in_class : stays marks w.0 ≡ true = together_stays (length graph.nodes) (StepAt graph to) graph.start graph.steps members ways level graphs marks count found.classes w.0 w.1 (subst (λ (x : ℕ). ClassAt graph to x w.0.target) from (subst (λ (x : ℕ). ClassAt graph to s.source x) target both)) in
        let entry : is_entered entered graph.start w.0.target ≡ true = subst (λ (x : ℕ). is_entered entered graph.start x ≡ true) target (head_entered (length graph.nodes) (StepAt graph to) graph.start graph.steps members ways level graphs marks count found.classes old entered counted unflagged found.are_entered h head) in
        let passes : is_back marks entered graph.start w.0 ≡ true = rw (in_class, entry) refl in
        let flagged : slice_get (back_ways marks entered graph.start back ways) w.0.place ≡ Some true = flag_set (is_back marks entered graph.start) (λ (v : Way). v.place) back ways w.0 w.1 passes (omega (arith, slice_get_within graph.steps i s at, w.2)) in
        subst (λ (k : ℕ). slice_get (back_ways marks entered graph.start back ways) k ≡ Some true) w.2 flagged

    pub backs_now : (i : ℕ) (s : Step) → slice_get graph.steps i ≡ Some s → (slice_get (back_ways marks entered graph.start back ways) i ≡ Some true → (slice_get back i ≡ Some true) ⊎ GoesBackAt graph to s) × ((slice_get back i ≡ Some true) ⊎ GoesBackAt graph to s → slice_get (back_ways marks entered graph.start back ways) i ≡ Some true)
    backs_now i s at = (
      λ is. ⊎_elim (λ before. inl before) (λ new. inr (goes i s new.0 at new.1 new.2 new.3)) (flag_from (is_back marks entered graph.start) (λ (w : Way). w.place) back ways i is),
      λ of. ⊎_elim (λ before. flag_kept (is_back marks entered graph.start) (λ (w : Way). w.place) back ways i before) (λ new. flags i s at new) of,
    )

  -- heads
  module _ (heads : List Head) (inside places : List (Option ℕ)) (back : List Bool) (l : Listed) (listing : AreListed marks looped pairs (record { heads = heads; inside = inside; places = places }) members l) (single : IsSingle (StepAt graph to) graph.start) (back_counted : length back ≡ length graph.steps) where
    head_of_place : (c i : ℕ) → IsPlaceOf marks looped pairs (record { heads = heads; inside = inside; places = places }) members l.heads c i → (x : Head) × (slice_get l.heads i ≡ Some x) × (least : ℕ) × IsListed graph to x.node least × (x.parent ≡ slice_index_or inside least None) × (class_number marks x.node ≡ c)
    head_of_place c i place =
        let among = place.is_least.0 in
        let led = leads_of place.least among place.loop in
        let head = first_of place.least place.node among led (ap (λ (n : ℕ). (pair_at pairs n).first) place.is_least.1 ∙ place.first) in
        let among_node = member_of place.node head.0.0 in
        let number : class_number marks place.node ≡ c = number_of_class place.node place.least among_node among head.1 ∙ place.is_least.1 in (
          record { node = place.node; parent = slice_index_or inside place.least None },
          place.head_is,
          place.least,
          record {
            head = head.0;
            member = (head.1.1, head.1.0);
            below = λ q both.
                let among_q = member_of q (together_self (StepAt graph to) graph.start q place.node both) in
                place.is_least.2 q among_q (number_of_class q place.node among_q among_node both ∙ number);
          },
          refl,
          number,
        )

    listed_head : (i : ℕ) (x : Head) → length heads ≤ i → slice_get l.heads i ≡ Some x → (c : ℕ) × (slice_get l.places c ≡ Some (Some i)) × (least : ℕ) × IsListed graph to x.node least × (x.parent ≡ slice_index_or inside least None) × (class_number marks x.node ≡ c)
    listed_head i x later at =
        let there = listing.of_head i x later at in
        let of = head_of_place there.0 i (listing.place_of there.0 i there.1) in
        let same : of.0 ≡ x = same_Some of.0 x (sym of.1 ∙ at) in
        (there.0, there.1, of.2, subst (λ (y : Head). IsListed graph to y.node of.2) same of.3, subst (λ (y : Head). y.parent ≡ slice_index_or inside of.2 None) same of.4, subst (λ (y : Head). class_number marks y.node ≡ there.0) same of.5)

    -- the least member of a listed class
    least_is : (c : ℕ) (x : Head) (least : ℕ) → IsListed graph to x.node least → class_number marks x.node ≡ c → IsLeastOf marks looped pairs (record { heads = heads; inside = inside; places = places }) members c least
    least_is c x least is number =
        let among_x = member_of x.node is.head.0 in
        let among = member_of least (together_self (StepAt graph to) graph.start least x.node is.member) in (
          among,
          number_of_class least x.node among among_x is.member ∙ number,
          λ q among_q number_q. ⊎_elim
              (λ (same : q ≡ x.node). is.below q (subst (λ (z : ℕ). ClassAt graph to z x.node) (sym same) (is.head.0, is.head.0)))
              (λ both. is.below q both)
              (class_of_number q x.node among_q among_x (number_q ∙ sym number)),
        )

    class_head : (p : ℕ) → ClassAt graph to p p → (i : ℕ) × (slice_get l.places (class_number marks p) ≡ Some (Some i)) × IsHeadFor graph l.heads to i p
    class_head p both =
        let among = member_of p both.0 in
        let there = listing.of_member p among (loop_of p both.0) in
        let of = head_of_place (class_number marks p) there.0 (listing.place_of (class_number marks p) there.0 there.1) in
        let among_x = member_of of.0.node of.3.head.0 in (
          there.0,
          there.1,
          (
            of.0,
            of.1,
            of.3.head,
            ⊎_elim
                (λ (same : of.0.node ≡ p). subst (λ (z : ℕ). ClassAt graph to z p) (sym same) both)
                (λ together. together)
                (class_of_number of.0.node p among_x among of.5),
          ),
        )

    pub nest_at : IsNestAt graph to heads inside back l.heads l.inside (back_ways marks entered graph.start back ways)
    nest_at =
        record {
          single = single;
          grown = listing.grown;
          added_head = λ i x later at. let of = listed_head i x later at in (of.2, of.3, of.4);
          all = λ h head.
              let of = class_head h (head.0, head.0) in
              let x = of.2.0 in
              (of.0, x, of.2.1, single x.node h of.2.2 head of.2.3);
          ordered = λ i j x y a b later less at_x at_y listed_x listed_y.
              let of_x = listed_head i x later at_x in
              let of_y = listed_head j y (omega arith) at_y in
              listing.ordered of_x.0 of_y.0 i j a b of_x.1 of_y.1 less (least_is of_x.0 x a listed_x of_x.5) (least_is of_y.0 y b listed_y of_y.5);
          decides = decides;
          in_loop = λ p both. let of = class_head p both in (of.0, listing.in_loop p (member_of p both.0) (loop_of p both.0) ∙ of.1, of.2);
          outside = λ p none. listing.outside p (λ among is. let led = leads_of p among is in none (led, led));
          inside_counted = listing.nodes;
          back_counted = length-new_back back back_counted;
          backs = backs_now back back_counted;
        }
