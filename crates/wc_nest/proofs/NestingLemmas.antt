-- From level to level.
use Rattle.std.proofs.Common.{Vec, Global, ℕ, zero, suc, ◌≡◌, ◌≢◌, ◌+◌, ◌<◌, ◌≤◌, ◌^◌, ⊎_elim, Bool, true, false, List, [], ◌∷◌, not, Option, None, Some, IfSome, All, map, length, get_or, replicate, refl, sym, ap, subst, ◌∙◌, arith}
use Rattle.std.specs.List.{AllPairs, Contains, slice_get, filter}
use Rattle.std.proofs.lemmas.Bool.Decides.{Decides-eqb, eqb_tells}
use Rattle.std.proofs.Math.Dec.{eqb}
use Rattle.std.proofs.lemmas.List.{length-replicate, length-map}
use Rattle.std.proofs.lemmas.List.Elements.{All-contains, All-weaker, All-contains_itself}
use Rattle.std.proofs.lemmas.Map.Made.{IsDistinct-from_AllPairs}
use Rattle.std.proofs.lemmas.Map.Steps.{length-le_from_distinct_below}
use Rattle.std.proofs.lemmas.Map.Views.{Contains-from_any}
use Rattle.std.proofs.lemmas.Option.{none-some, same_Some, slice_get_within, slice_get-get_or}
use Rattle.wc_model.specs.declared.graphs.Graph.{Graph}
use Rattle.wc_model.specs.declared.graphs.Head.{Head}
use Rattle.wc_model.specs.declared.graphs.Step.{Step}
use Rattle.wc_model.specs.Flow.Nest.{HeadAt, ClassAt, ComesBefore, IsIrreducible}
use Rattle.wc_model.specs.Flow.Walks.{AreSteps}
use Rattle.wc_model.specs.Program.Graphs.{LeadsIn, IsGraph}
use Rattle.wc_model.proofs.Places.{contains_from_get, get_from_contains, get_within}
use Rattle.wc_nest.specs.declared.levels.Found.{Found}
use Rattle.wc_nest.specs.declared.levels.Level.{Level}
use Rattle.wc_nest.specs.declared.levels.Nesting.{Nesting}
use Rattle.wc_nest.specs.declared.marking.Mark.{Mark}
use Rattle.wc_nest.specs.declared.listing.Listing.{Listing}
use Rattle.wc_nest.specs.declared.marking.Mark.TheVariants.{New, Open, Done}
use Rattle.wc_nest.specs.declared.search.Search.{Search}
use Rattle.wc_nest.specs.declared.ways.Way.{Way}
use Rattle.wc_nest.specs.Inner.Heads.{AreListed}
use Rattle.wc_nest.specs.Inner.Levels.{IsLevel, class_number, stays, is_looped, is_inner, no_heads, Listed, listed, list_nodes, back_ways, second_of}
use Rattle.wc_nest.specs.Inner.Marking.{set_all}
use Rattle.wc_nest.specs.Inner.Nestings.{IsNesting, IsFinding, IsAdding, IsInnerOf, IsLevelAt}
use Rattle.wc_nest.specs.Inner.Nests.{StepAt, IsNestBelow, IsNestAt}
use Rattle.wc_nest.specs.Inner.Rooted.{IsRooted}
use Rattle.wc_nest.specs.Inner.Ways.{way_ends}
use Rattle.wc_nest.proofs.AddingLemmas.{nest_at}
use Rattle.wc_nest.proofs.FaultLemmas.{has_first, single_from, second_from, least_of_all, first_two, loop_leads}
use Rattle.wc_nest.proofs.FlagLemmas.{not_both, length-flag_all, flag_from}
use Rattle.wc_nest.proofs.HeadLemmas.{length-note_nodes}
use Rattle.wc_nest.proofs.LevelLemmas.{way_for, inside, decide, fewer, next_level, member_number}
use Rattle.wc_nest.proofs.ListingLemmas.{all_listed}
use Rattle.wc_nest.proofs.MarkingLemmas.{length-set_all, set_all_in, set_all_cases}
use Rattle.wc_nest.proofs.NestLemmas.{class_below, step_below, below_more}
use Rattle.wc_nest.proofs.RelationLemmas.{head_leaves, rooted_inner, IsSingle}

-- different numbers below a bound
pub distinct_fits : (xs : List ℕ) (n : ℕ) → AllPairs (λ x y. x ≢ y) xs → ((x : ℕ) → Contains xs x → x < n) → length xs ≤ n
distinct_fits xs n distinct low = length-le_from_distinct_below xs n (IsDistinct-from_AllPairs Decides-eqb xs distinct) (λ q any. low q (Contains-from_any eqb_same q xs any))
  where
    eqb_same : (x y : ℕ) → eqb x y ≡ true → x ≡ y
    eqb_same x y is = ⊎_elim (λ one. one.1) (λ other. absurd (not_both is other.0)) (eqb_tells x y)

get_map : {A B : Type 0} (f : A → B) (xs : List A) (i : ℕ) (y : B) → slice_get (map f xs) i ≡ Some y → (x : A) × (slice_get xs i ≡ Some x) × (f x ≡ y)
get_map f [] i y at = absurd (none-some y at)
get_map f (x ∷ xs) zero y at = (x, refl, same_Some (f x) y at)
get_map f (x ∷ xs) (suc i) y at = get_map f xs i y at

module _ (graph : Graph) (is_graph : IsGraph graph) where
  pub graphs : (k p q : ℕ) → StepAt graph k p (Some q) → LeadsIn graph.steps p (Some q)
  graphs k p q step = step_below graph k 0 p q (omega arith) step

  pub known_target : (p q : ℕ) → LeadsIn graph.steps p (Some q) → q < length graph.nodes
  known_target p q (s, among, from, to) = rw to at (All-contains (λ (t : Step). IfSome t.target (λ r. r < length graph.nodes)) graph.steps s is_graph.targets among)

  pub known_class : (k p q : ℕ) → ClassAt graph k p q → p < length graph.nodes
  known_class k p q both = known_target both.1.0 p (graphs k both.1.0 p both.1.2)

  -- heads are different nodes
  pub apart : (x y : Head) → ComesBefore graph x y → x.node ≡ y.node → ⊥
  apart x y before same = ⊎_elim
      (λ (less : before.level_x < before.level_y).
      let at_y : HeadAt graph before.level_y x.node = subst (λ (p : ℕ). HeadAt graph before.level_y p) (sym same) before.listed_y.head in
      let below : ClassAt graph (suc before.level_x) x.node x.node = class_below graph before.level_y (suc before.level_x) x.node x.node (omega arith) (at_y.0, at_y.0) in
      head_leaves (StepAt graph before.level_x) graph.start x.node x.node before.listed_x.head below.0)
      (λ equal.
      let least : before.least_y ≤ before.least_x = before.listed_y.below before.least_x (subst (λ (p : ℕ). ClassAt graph before.level_y before.least_x p) same (subst (λ (k : ℕ). ClassAt graph k before.least_x x.node) equal.0 before.listed_x.member)) in
      omega (arith, equal.1))
      before.order

  pub few_heads : (k : ℕ) (heads : List Head) (nesting_inside : List (Option ℕ)) (back : List Bool) → IsNestBelow graph k heads nesting_inside back → length heads ≤ length graph.nodes
  few_heads k heads nesting_inside back below =
      let fits : length (map (λ (x : Head). x.node) heads) ≤ length graph.nodes = distinct_fits (map (λ (x : Head). x.node) heads) (length graph.nodes) (λ i j d less within. distinct i j (get_or (map (λ (x : Head). x.node) heads) i d) (get_or (map (λ (x : Head). x.node) heads) j d) less (slice_get-get_or (map (λ (x : Head). x.node) heads) i d (omega arith)) (slice_get-get_or (map (λ (x : Head). x.node) heads) j d within))
      (λ p among. let placed = get_from_contains (map (λ (x : Head). x.node) heads) p among in low placed.0 p placed.1) in
      omega (arith, length-map heads (λ (x : Head). x.node))
    where
      distinct : (i j p q : ℕ) → i < j → slice_get (map (λ (x : Head). x.node) heads) i ≡ Some p → slice_get (map (λ (x : Head). x.node) heads) j ≡ Some q → p ≡ q → ⊥
      distinct i j p q less at_p at_q same =
          let x = get_map (λ (h : Head). h.node) heads i p at_p in
          let y = get_map (λ (h : Head). h.node) heads j q at_q in
          apart x.0 y.0 (below.ordered i j x.0 y.0 less x.1 y.1) (x.2 ∙ same ∙ sym y.2)

      low : (i p : ℕ) → slice_get (map (λ (x : Head). x.node) heads) i ≡ Some p → p < length graph.nodes
      low i p at =
          let x = get_map (λ (h : Head). h.node) heads i p at in
          let placed = below.places i x.0 x.1 in
          subst (λ (q : ℕ). q < length graph.nodes) x.2 (known_class placed.0 x.0.node x.0.node (placed.3.head.0, placed.3.head.0))

  -- without a way there is no step
  pub no_step : (k : ℕ) (level : Level) → IsLevelAt graph k level → length level.ways.items ≡ 0 → (p q : ℕ) → StepAt graph k p (Some q) → ⊥
  no_step k level level_is none p q step = let w = way_for (length graph.nodes) (StepAt graph k) graph.start graph.steps level.members.items level.ways.items level_is (graphs k) p q step in omega (arith, w.1.1)

  -- what a level needs
  module _ (k : ℕ) (level : Level) (old new : Nesting) (found : Found) (nesting : IsNesting graph k old level) where
    pub few_members : length level.members.items ≤ length graph.nodes
    few_members = distinct_fits level.members.items (length graph.nodes) (λ i j d less within. let rises = nesting.level_is.rises i j d less within in λ same. omega arith) (λ p among. All-contains (λ (q : ℕ). q < length graph.nodes) level.members.items p nesting.level_is.known among)

    pub steps_ready : AreSteps way_ends (length old.search.marks.items) level.ways.items
    steps_ready = subst (λ (n : ℕ). AreSteps way_ends n level.ways.items) (sym nesting.marks_counted) nesting.level_is.fine

    pub members_ready : All (λ p. p < length old.search.marks.items) level.members.items
    members_ready = subst (λ (n : ℕ). All (λ p. p < n) level.members.items) (sym nesting.marks_counted) nesting.level_is.known

    pub flags_ready : length old.entered.items ≡ length old.search.marks.items
    flags_ready = nesting.flags_counted ∙ sym nesting.marks_counted

    module _ (finding : IsFinding graph.start level old new found) where
      marks_found : length new.search.marks.items ≡ length graph.nodes
      marks_found = finding.classified.marked ∙ nesting.marks_counted

      pub steps_found : AreSteps way_ends (length new.search.marks.items) level.ways.items
      steps_found = subst (λ (n : ℕ). AreSteps way_ends n level.ways.items) (sym marks_found) nesting.level_is.fine

      pub members_found : All (λ p. p < length new.search.marks.items) level.members.items
      members_found = subst (λ (n : ℕ). All (λ p. p < n) level.members.items) (sym marks_found) nesting.level_is.known

      pub flags_found : length new.entered.items ≡ length new.search.marks.items
      flags_found = finding.flags_counted ∙ nesting.flags_counted ∙ sym marks_found

      pub nodes_found : length new.listing.inside.items ≡ length new.search.marks.items
      nodes_found = ap (λ (l : Listing). length l.inside.items) finding.listing ∙ nesting.below.inside_counted ∙ sym marks_found

      number_found : (p : ℕ) → Contains level.members.items p → class_number new.search.marks.items p < length new.search.roots.items
      number_found = member_number (length graph.nodes) (StepAt graph k) graph.start graph.steps level.members.items level.ways.items nesting.level_is (graphs k) new.search.marks.items (length new.search.roots.items) finding.are.classes

      pub numbers_found : All (λ p. class_number new.search.marks.items p < length new.search.roots.items) level.members.items
      numbers_found = All-weaker (Contains level.members.items) (λ (p : ℕ). class_number new.search.marks.items p < length new.search.roots.items) number_found level.members.items (All-contains_itself level.members.items)

      pub looped_found : length found.looped.items ≡ length new.search.roots.items
      looped_found = ap length finding.are.are_looped ∙ length-flag_all (stays new.search.marks.items) (λ (w : Way). class_number new.search.marks.items w.source) (replicate (length new.search.roots.items) false) level.ways.items ∙ length-replicate (length new.search.roots.items) false

      pub pairs_found : length found.pairs.items ≡ length new.search.roots.items
      pairs_found = ap length finding.are.are_pairs ∙ length-note_nodes new.search.marks.items new.entered.items graph.start (replicate (length new.search.roots.items) no_heads) level.members.items ∙ length-replicate (length new.search.roots.items) no_heads

      pub places_found : All (λ w. w.place < length new.back.items) level.ways.items
      places_found = All-weaker (Contains level.ways.items) (λ (w : Way). w.place < length new.back.items) (λ w among.
          let of = (nesting.level_is.sound w among).0 in
          omega (arith, slice_get_within graph.steps w.place of.step of.at, ap (λ (b : Vec Bool Global). length b.items) finding.back, nesting.below.back_counted)) level.ways.items (All-contains_itself level.ways.items)

      pub room_found : length new.listing.heads.items + length level.members.items < 2 ^ 32
      room_found =
          let old_heads : length old.listing.heads.items ≤ length graph.nodes = few_heads k old.listing.heads.items old.listing.inside.items old.back.items nesting.below in
          let same : length new.listing.heads.items ≡ length old.listing.heads.items = ap (λ (l : Listing). length l.heads.items) finding.listing in
          let few : length graph.nodes ≤ 100000 = is_graph.few in
          let members : length level.members.items ≤ length graph.nodes = few_members in
          let power : 200000 < 2 ^ 32 = omega arith in
          omega arith

      -- a class with two heads
      second_known : (q : ℕ) → second_of new.search.marks.items found.pairs.items level.members.items ≡ Some q → IsIrreducible (LeadsIn graph.steps) graph.start (λ p r. p < r) q
      second_known q is =
          record {
            level = k;
            least = (first_two (length graph.nodes) (StepAt graph k) graph.start graph.steps level.members.items level.ways.items nesting.level_is (graphs k) new.search.marks.items (length new.search.roots.items) old.entered.items new.entered.items found.looped.items found.pairs.items nesting.flags_counted nesting.unflagged finding.are q is).least;
            second = second_from (length graph.nodes) (StepAt graph k) graph.start graph.steps level.members.items level.ways.items nesting.level_is (graphs k) new.search.marks.items (length new.search.roots.items) old.entered.items new.entered.items found.looped.items found.pairs.items nesting.flags_counted nesting.unflagged finding.are q is;
            outer = λ j p m less second. absurd (omega (arith, second.first.1, nesting.below.single j second.first.0 p less second.first.2 second.head second.first.3));
            first = least_of_all (length graph.nodes) (StepAt graph k) graph.start graph.steps level.members.items level.ways.items nesting.level_is (graphs k) new.search.marks.items (length new.search.roots.items) old.entered.items new.entered.items found.looped.items found.pairs.items nesting.flags_counted nesting.unflagged finding.are q is;
          }

      pub second_is : (q : ℕ) → second_of new.search.marks.items found.pairs.items level.members.items ≡ Some q → IsIrreducible (LeadsIn graph.steps) graph.start (λ p r. p < r) q × (q < length graph.nodes)
      second_is q is = let of = second_known q is in (of, known_class of.level q q (of.second.head.0, of.second.head.0))

      -- no class has two: the next level
      module _ (none : second_of new.search.marks.items found.pairs.items level.members.items ≡ None) where
        single : IsSingle (StepAt graph k) graph.start
        single = single_from (length graph.nodes) (StepAt graph k) graph.start graph.steps level.members.items level.ways.items nesting.level_is (graphs k) new.search.marks.items (length new.search.roots.items) old.entered.items new.entered.items found.looped.items found.pairs.items nesting.flags_counted nesting.unflagged finding.are none

        listing_of : AreListed new.search.marks.items found.looped.items found.pairs.items (record { heads = old.listing.heads.items; inside = old.listing.inside.items; places = replicate (length new.search.roots.items) None }) level.members.items (list_nodes new.search.marks.items found.looped.items found.pairs.items (record { heads = old.listing.heads.items; inside = old.listing.inside.items; places = replicate (length new.search.roots.items) None }) level.members.items)
        listing_of = all_listed new.search.marks.items found.looped.items found.pairs.items (record { heads = old.listing.heads.items; inside = old.listing.inside.items; places = replicate (length new.search.roots.items) None }) level.members.items (no_place (length new.search.roots.items)) nesting.level_is.rises (λ p among. (
          omega (arith, nesting.below.inside_counted, All-contains (λ (q : ℕ). q < length graph.nodes) level.members.items p nesting.level_is.known among),
          omega (arith, length-replicate (length new.search.roots.items) none_place, number_found p among),
          λ is. has_first (length graph.nodes) (StepAt graph k) graph.start graph.steps level.members.items level.ways.items nesting.level_is (graphs k) new.search.marks.items (length new.search.roots.items) old.entered.items new.entered.items found.looped.items found.pairs.items nesting.flags_counted nesting.unflagged finding.are nesting.rooted p among (loop_leads (length graph.nodes) (StepAt graph k) graph.start graph.steps level.members.items level.ways.items nesting.level_is (graphs k) new.search.marks.items (length new.search.roots.items) old.entered.items new.entered.items found.looped.items found.pairs.items nesting.flags_counted nesting.unflagged finding.are p among is),
        ))
          where
            none_place : Option ℕ
            none_place = None

            no_place : (n c i : ℕ) → slice_get (replicate n None) c ≡ Some (Some i) → ⊥
            no_place zero c i at = none-some (Some i) at
            no_place (suc n) zero i at = none-some i (same_Some None (Some i) at)
            no_place (suc n) (suc c) i at = no_place n c i at

        module _ (added : Nesting) (adding : IsAdding graph.start level found new added) where
          heads_added : listed added.listing ≡ list_nodes new.search.marks.items found.looped.items found.pairs.items (record { heads = old.listing.heads.items; inside = old.listing.inside.items; places = replicate (length new.search.roots.items) None }) level.members.items
          heads_added = adding.heads ∙ ap (λ (l : Listing). list_nodes new.search.marks.items found.looped.items found.pairs.items (record { heads = l.heads.items; inside = l.inside.items; places = replicate (length new.search.roots.items) None }) level.members.items) finding.listing

          pub below_added : IsNestBelow graph (suc k) added.listing.heads.items added.listing.inside.items added.back.items
          below_added =
              let listing : AreListed new.search.marks.items found.looped.items found.pairs.items (record { heads = old.listing.heads.items; inside = old.listing.inside.items; places = replicate (length new.search.roots.items) None }) level.members.items (listed added.listing) = subst (λ (l : Listed). AreListed new.search.marks.items found.looped.items found.pairs.items (record { heads = old.listing.heads.items; inside = old.listing.inside.items; places = replicate (length new.search.roots.items) None }) level.members.items l) (sym heads_added) listing_of in
              let back_is : added.back.items ≡ back_ways new.search.marks.items new.entered.items graph.start old.back.items level.ways.items = adding.back ∙ ap (λ (b : Vec Bool Global). back_ways new.search.marks.items new.entered.items graph.start b.items level.ways.items) finding.back in
              let now : IsNestAt graph k old.listing.heads.items old.listing.inside.items old.back.items added.listing.heads.items added.listing.inside.items (back_ways new.search.marks.items new.entered.items graph.start old.back.items level.ways.items) =
              nest_at graph k level.members.items level.ways.items nesting.level_is (graphs k) new.search.marks.items (length new.search.roots.items) old.entered.items new.entered.items found.looped.items found.pairs.items nesting.flags_counted nesting.unflagged finding.are old.listing.heads.items old.listing.inside.items (replicate (length new.search.roots.items) None) old.back.items (listed added.listing) listing single nesting.below.back_counted in
              subst (λ (b : List Bool). IsNestBelow graph (suc k) added.listing.heads.items added.listing.inside.items b) (sym back_is) (below_more graph k old.listing.heads.items old.listing.inside.items old.back.items nesting.below added.listing.heads.items added.listing.inside.items (back_ways new.search.marks.items new.entered.items graph.start old.back.items level.ways.items) now (known_class k))

          -- what is left when the marks and flags are taken back
          module _ (cleared : Nesting) (inner : Level) (inner_of : IsInnerOf graph.start level found added inner) (marks_are : cleared.search.marks.items ≡ set_all added.search.marks.items level.members.items New) (flags_are : cleared.entered.items ≡ set_all added.entered.items level.members.items false) (next_is : cleared.search.next ≡ added.search.next) (path_is : cleared.search.path ≡ added.search.path) (stack_is : cleared.search.stack ≡ added.search.stack) (bounds_is : cleared.search.bounds ≡ added.search.bounds) (listing_is : cleared.listing ≡ added.listing) (back_is : cleared.back ≡ added.back) where
            marks_now : cleared.search.marks.items ≡ set_all new.search.marks.items level.members.items New
            marks_now = marks_are ∙ ap (λ (s : Search). set_all s.marks.items level.members.items New) adding.search

            flags_now : cleared.entered.items ≡ set_all new.entered.items level.members.items false
            flags_now = flags_are ∙ ap (λ (b : Vec Bool Global). set_all b.items level.members.items false) adding.entered

            unmarked_at : (p : ℕ) (m : Mark) → slice_get (set_all new.search.marks.items level.members.items New) p ≡ Some m → m ≡ New
            unmarked_at p m at = ⊎_elim
                (λ among. sym among.1)
                (λ before. by_mark m before at)
                (set_all_cases new.search.marks.items level.members.items New p m at)
              where
                member : (x : Mark) → slice_get new.search.marks.items p ≡ Some x → (x ≡ New → ⊥) → slice_get (set_all new.search.marks.items level.members.items New) p ≡ Some New
                member x before other = set_all_in new.search.marks.items level.members.items New p (finding.are.classes.only p (x, before, other)) (slice_get_within new.search.marks.items p x before)

                by_mark : (x : Mark) → slice_get new.search.marks.items p ≡ Some x → slice_get (set_all new.search.marks.items level.members.items New) p ≡ Some x → x ≡ New
                by_mark New before now = refl
                by_mark (Open i) before now = same_Some (Open i) New (sym now ∙ member (Open i) before (λ (e : Open i ≡ New). cc))
                by_mark (Done c) before now = same_Some (Done c) New (sym now ∙ member (Done c) before (λ (e : Done c ≡ New). cc))

            unflagged_at : (q : ℕ) → slice_get (set_all new.entered.items level.members.items false) q ≡ Some true → ⊥
            unflagged_at q at = ⊎_elim
                (λ among. let bad : false ≡ true = among.1 in cc)
                (λ before. ⊎_elim
                (λ earlier. nesting.unflagged q earlier)
                (λ found_way.
                let among : Contains level.members.items q = subst (λ (x : ℕ). Contains level.members.items x) found_way.3 (nesting.level_is.ends found_way.0 found_way.1).1 in
                let now = set_all_in new.entered.items level.members.items false q among (slice_get_within new.entered.items q true before) in
                let bad : false ≡ true = same_Some false true (sym now ∙ at) in cc)
                (flag_from (λ (w : Way). not (stays new.search.marks.items w)) (λ (w : Way). w.target) old.entered.items level.ways.items q (subst (λ (xs : List Bool). slice_get xs q ≡ Some true) finding.are.are_entered before)))
                (set_all_cases new.entered.items level.members.items false q true at)

            level_now : IsLevelAt graph (suc k) inner
            level_now =
                let made = next_level (length graph.nodes) (StepAt graph k) graph.start graph.steps level.members.items level.ways.items nesting.level_is (graphs k) new.search.marks.items (length new.search.roots.items) finding.are.classes old.entered.items new.entered.items nesting.flags_counted nesting.unflagged finding.are.are_entered found.looped.items finding.are.are_looped in
                let ways_now : inner.ways.items ≡ filter (is_inner new.search.marks.items new.entered.items graph.start) level.ways.items = inner_of.ways ∙ ap (λ (s : Search). filter (is_inner s.marks.items added.entered.items graph.start) level.ways.items) adding.search ∙ ap (λ (b : Vec Bool Global). filter (is_inner new.search.marks.items b.items graph.start) level.ways.items) adding.entered in
                let members_now : inner.members.items ≡ filter (is_looped new.search.marks.items found.looped.items) level.members.items = inner_of.members ∙ ap (λ (s : Search). filter (is_looped s.marks.items found.looped.items) level.members.items) adding.search in
                subst (λ (ws : List Way). IsLevel (length graph.nodes) (StepAt graph (suc k)) graph.steps inner.members.items ws) (sym ways_now) (subst (λ (ps : List ℕ). IsLevel (length graph.nodes) (StepAt graph (suc k)) graph.steps ps (filter (is_inner new.search.marks.items new.entered.items graph.start) level.ways.items)) (sym members_now) made)

            rooted_now : IsRooted (StepAt graph (suc k)) graph.start
            rooted_now = rooted_inner (StepAt graph k) graph.start (inside (length graph.nodes) (StepAt graph k) graph.start graph.steps level.members.items level.ways.items nesting.level_is (graphs k) new.search.marks.items (length new.search.roots.items) finding.are.classes) single (decide (length graph.nodes) (StepAt graph k) graph.start graph.steps level.members.items level.ways.items nesting.level_is (graphs k) new.search.marks.items (length new.search.roots.items) finding.are.classes old.entered.items new.entered.items nesting.flags_counted nesting.unflagged finding.are.are_entered) nesting.rooted

            fewer_now : 0 < length level.ways.items → length inner.ways.items < length level.ways.items
            fewer_now some =
                let first = get_within level.ways.items 0 some in
                let less = fewer (length graph.nodes) (StepAt graph k) graph.start graph.steps level.members.items level.ways.items nesting.level_is (graphs k) new.search.marks.items (length new.search.roots.items) finding.are.classes old.entered.items new.entered.items nesting.flags_counted nesting.unflagged finding.are.are_entered nesting.rooted first.0 (contains_from_get level.ways.items 0 first.0 first.1) in
                let ways_now : inner.ways.items ≡ filter (is_inner new.search.marks.items new.entered.items graph.start) level.ways.items = inner_of.ways ∙ ap (λ (s : Search). filter (is_inner s.marks.items added.entered.items graph.start) level.ways.items) adding.search ∙ ap (λ (b : Vec Bool Global). filter (is_inner new.search.marks.items b.items graph.start) level.ways.items) adding.entered in
                omega (arith, ap length ways_now)

            pub next_nesting : 0 < length level.ways.items → IsNesting graph (suc k) cleared inner × (length inner.ways.items < length level.ways.items)
            next_nesting some = (
              record {
                level_is = level_now;
                below = subst (λ (b : Vec Bool Global). IsNestBelow graph (suc k) cleared.listing.heads.items cleared.listing.inside.items b.items) (sym back_is) (subst (λ (l : Listing). IsNestBelow graph (suc k) l.heads.items l.inside.items added.back.items) (sym listing_is) below_added);
                rooted = rooted_now;
                fresh = record {
                  unmarked = λ p m at. unmarked_at p m (subst (λ (ms : List Mark). slice_get ms p ≡ Some m) marks_now at);
                  sized = omega (arith, ap length marks_now, length-set_all new.search.marks.items level.members.items New, ap (λ (v : Vec ℕ Global). length v.items) next_is, ap (λ (s : Search). length s.next.items) adding.search, finding.classified.sized);
                  path = ap (λ (v : Vec ℕ Global). v.items) path_is ∙ ap (λ (s : Search). s.path.items) adding.search ∙ finding.classified.path;
                  stack = ap (λ (v : Vec ℕ Global). v.items) stack_is ∙ ap (λ (s : Search). s.stack.items) adding.search ∙ finding.classified.stack;
                  bounds = ap (λ (v : Vec ℕ Global). v.items) bounds_is ∙ ap (λ (s : Search). s.bounds.items) adding.search ∙ finding.classified.bounds;
                };
                marks_counted = ap length marks_now ∙ length-set_all new.search.marks.items level.members.items New ∙ marks_found;
                unflagged = λ q at. unflagged_at q (subst (λ (bs : List Bool). slice_get bs q ≡ Some true) flags_now at);
                flags_counted = ap length flags_now ∙ length-set_all new.entered.items level.members.items false ∙ finding.flags_counted ∙ nesting.flags_counted;
              },
              fewer_now some,
            )
