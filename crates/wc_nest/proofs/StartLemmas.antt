-- Before the first level.
use Rattle.std.proofs.Common.{ℕ, zero, suc, ◌≡◌, ◌+◌, ◌<◌, ◌≤◌, inl, ⊎_elim, Bool, true, false, List, [], ◌∷◌, ◌++◌, Option, None, Some, IfSome, All, length, replicate, refl, sym, ap, subst, ◌∙◌, arith}
use Rattle.std.specs.List.{Contains, slice_get}
use Rattle.std.proofs.lemmas.Bool.{cases_lt}
use Rattle.std.proofs.lemmas.List.{length-replicate}
use Rattle.std.proofs.lemmas.List.Elements.{All-contains, All-weaker, All-contains_itself, Contains-push, Contains-push_cases, Contains-append_left}
use Rattle.std.proofs.lemmas.Option.{none-some, same_Some, slice_get_within}
use Rattle.wc_model.specs.declared.graphs.Graph.{Graph}
use Rattle.wc_model.specs.declared.graphs.Head.{Head}
use Rattle.wc_model.specs.declared.graphs.Step.{Step}
use Rattle.wc_model.specs.Program.Graphs.{LeadsIn, IsGraph}
use Rattle.wc_model.proofs.Places.{contains_from_get, get_from_contains, get_push_cases, get_within}
use Rattle.wc_nest.specs.declared.levels.Level.{Level}
use Rattle.wc_nest.specs.declared.levels.Nesting.{Nesting}
use Rattle.wc_nest.specs.declared.marking.Mark.{Mark}
use Rattle.wc_nest.specs.declared.marking.Mark.TheVariants.{New}
use Rattle.wc_nest.specs.declared.ways.Way.{Way}
use Rattle.wc_nest.specs.Inner.Classes.{AreClasses, AreEnds}
use Rattle.wc_nest.specs.Inner.Levels.{IsLevel, class_number}
use Rattle.wc_nest.specs.Inner.Nestings.{AreWays, AreNumbers, IsLevelAt, IsNesting}
use Rattle.wc_nest.specs.Inner.Nests.{IsNestBelow}
use Rattle.wc_nest.specs.Inner.Rooted.{IsRooted}
use Rattle.wc_nest.proofs.FlagLemmas.{number_is}
use Rattle.wc_nest.proofs.ListLemmas.{pairs_from}
use Rattle.wc_nest.proofs.NestLemmas.{below_first}

-- numbers of classes of members and of the ends of ways
pub member_numbers : (ways : List Way) (members : List ℕ) (marks : List Mark) (count : ℕ) → AreClasses ways members marks count → All (λ p. class_number marks p < count) members
member_numbers ways members marks count classes = All-weaker (Contains members) (λ (p : ℕ). class_number marks p < count) (λ p among. let c = classes.numbered p among in omega (arith, number_is marks p c.0 c.2, c.1)) members (All-contains_itself members)

pub way_numbers : (ways : List Way) (members : List ℕ) (marks : List Mark) (count : ℕ) → AreClasses ways members marks count → AreEnds ways members → All (λ w. class_number marks w.source < count) ways
way_numbers ways members marks count classes ends = All-weaker (Contains ways) (λ (w : Way). class_number marks w.source < count) (λ w among. let c = classes.numbered w.source (ends w among).0 in omega (arith, number_is marks w.source c.0 c.2, c.1)) ways (All-contains_itself ways)

-- one more step
module _ (steps : List Step) (k : ℕ) (ways : List Way) (s : Step) (at : slice_get steps k ≡ Some s) (was : AreWays steps k ways) where
  pub way_push : (q : ℕ) → s.target ≡ Some q → ((i j : ℕ) (s t : Step) → i < j → slice_get steps i ≡ Some s → slice_get steps j ≡ Some t → s.source ≤ t.source) → AreWays steps (k + 1) (ways ++ (record { source = s.source; target = q; place = k }) ∷ [])
  way_push q to sorted =
      record {
        sound = λ w among. ⊎_elim
            (λ (before : Contains ways w). let old = was.sound w before in (omega (arith, old.0), old.1))
            (λ (same : new ≡ w). subst (λ (v : Way). (v.place < k + 1) × ((t : Step) × (slice_get steps v.place ≡ Some t) × (t.source ≡ v.source) × (t.target ≡ Some v.target))) same (omega arith, (s, at, refl, to)))
            (Contains-push_cases ways new w among);
        all = λ i t r less at_t to_t. ⊎_elim
            (λ (before : i < k). let old = was.all i t r before at_t to_t in (old.0, Contains-append_left ways (new ∷ []) old.0 old.1, old.2))
            (λ (there : k ≤ i). (new, Contains-push ways new, omega arith))
            (cases_lt i k);
        sorted = λ i j v w less at_v at_w. ⊎_elim
            (λ old_w. ⊎_elim (λ old_v. was.sorted i j v w less old_v old_w) (λ new_v. absurd (omega (arith, new_v.0, slice_get_within ways j w old_w))) (get_push_cases ways new i v at_v))
            (λ new_w. ⊎_elim
            (λ old_v.
            let of_v = was.sound v (contains_from_get ways i v old_v) in
            let low : of_v.1.0.source ≤ s.source = sorted v.place k of_v.1.0 s of_v.0 of_v.1.1 at in
            omega (arith, of_v.1.2, ap (λ (x : Way). x.source) new_w.1))
            (λ new_v. absurd (omega (arith, new_v.0, new_w.0)))
            (get_push_cases ways new i v at_v))
            (get_push_cases ways new j w at_w);
      }
    where
      new : Way
      new = record { source = s.source; target = q; place = k }

  pub way_skip : ((q : ℕ) → s.target ≡ Some q → ⊥) → AreWays steps (k + 1) ways
  way_skip none =
      record {
        sound = λ w among. let old = was.sound w among in (omega (arith, old.0), old.1);
        all = λ i t r less at_t to_t. ⊎_elim
            (λ (before : i < k). was.all i t r before at_t to_t)
            (λ (there : k ≤ i).
            let one : k ≡ i = omega arith in
            let same : s ≡ t = same_Some s t (sym at ∙ ap (slice_get steps) one ∙ at_t) in
            absurd (none r (ap (λ (x : Step). x.target) same ∙ to_t)))
            (cases_lt i k);
        sorted = was.sorted;
      }

module _ (graph : Graph) (is_graph : IsGraph graph) where
  pub level_first : (members : List ℕ) (ways : List Way) → AreNumbers (length graph.nodes) members → AreWays graph.steps (length graph.steps) ways → IsLevel (length graph.nodes) (LeadsIn graph.steps) graph.steps members ways
  level_first members ways numbers are =
      record {
        fine = record {
          sources = All-weaker (Contains ways) (λ (w : Way). w.source < length graph.nodes) source_known ways (All-contains_itself ways);
          targets = All-weaker (Contains ways) (λ (w : Way). w.target < length graph.nodes) target_known ways (All-contains_itself ways);
          sorted = pairs_from (λ (v w : Way). v.source ≤ w.source) ways are.sorted;
        };
        rises = pairs_from (λ (p q : ℕ). p < q) members (λ i j p q less at_p at_q. omega (arith, numbers.1 i p at_p, numbers.1 j q at_q));
        known = All-weaker (Contains members) (λ (p : ℕ). p < length graph.nodes) (λ p among. let placed : (i : ℕ) × (slice_get members i ≡ Some p) = get_from_contains members p among in omega (arith, numbers.0, numbers.1 placed.0 p placed.1, slice_get_within members placed.0 p placed.1)) members (All-contains_itself members);
        ends = λ w among. (member w.source (source_known w among), member w.target (target_known w among));
        sound = λ w among. let of = (are.sound w among).1 in (record { step = of.0; at = of.1; from = of.2; to = of.3 }, (of.0, contains_from_get graph.steps w.place of.0 of.1, of.2, of.3));
        all = λ i s q at to led. are.all i s q (slice_get_within graph.steps i s at) at to;
      }
    where
      source_known : (w : Way) → Contains ways w → w.source < length graph.nodes
      source_known w among =
          let of = (are.sound w among).1 in
          let known : of.0.source < length graph.nodes = All-contains (λ (s : Step). s.source < length graph.nodes) graph.steps of.0 is_graph.sources (contains_from_get graph.steps w.place of.0 of.1) in
          subst (λ (p : ℕ). p < length graph.nodes) of.2 known

      target_known : (w : Way) → Contains ways w → w.target < length graph.nodes
      target_known w among =
          let of = (are.sound w among).1 in
          rw of.3 at (All-contains (λ (s : Step). IfSome s.target (λ q. q < length graph.nodes)) graph.steps of.0 is_graph.targets (contains_from_get graph.steps w.place of.0 of.1))

      member : (p : ℕ) → p < length graph.nodes → Contains members p
      member p known =
          let found : (x : ℕ) × (slice_get members p ≡ Some x) = get_within members p (omega (arith, numbers.0)) in
          subst (λ (x : ℕ). Contains members x) (numbers.1 p found.0 found.1) (contains_from_get members p found.0 found.1)

  pub rooted_first : IsRooted (LeadsIn graph.steps) graph.start
  rooted_first p (m, way, (s, among, from, to)) =
      let known : p < length graph.nodes = rw to at (All-contains (λ (t : Step). IfSome t.target (λ q. q < length graph.nodes)) graph.steps s is_graph.targets among) in
      (graph.start, inl refl, (is_graph.live p known).0)

  pub nesting_first : (nesting : Nesting) (level : Level) → nesting.search.marks.items ≡ replicate (length graph.nodes) New → nesting.search.next.items ≡ replicate (length graph.nodes) 0 → nesting.search.path.items ≡ [] → nesting.search.stack.items ≡ [] → nesting.search.bounds.items ≡ [] → nesting.entered.items ≡ replicate (length graph.nodes) false → nesting.listing.heads.items ≡ [] → nesting.listing.inside.items ≡ replicate (length graph.nodes) None → nesting.back.items ≡ replicate (length graph.steps) false → IsLevelAt graph 0 level → IsNesting graph 0 nesting level
  nesting_first nesting level marks next path stack bounds entered heads inside back level_is =
      record {
        level_is = level_is;
        below = subst (λ (b : List Bool). IsNestBelow graph 0 nesting.listing.heads.items nesting.listing.inside.items b) (sym back) (subst (λ (o : List (Option ℕ)). IsNestBelow graph 0 nesting.listing.heads.items o (replicate (length graph.steps) false)) (sym inside) (subst (λ (hs : List Head). IsNestBelow graph 0 hs (replicate (length graph.nodes) None) (replicate (length graph.steps) false)) (sym heads) (below_first graph)));
        rooted = rooted_first;
        fresh = record {
          unmarked = λ p m at. all_new (length graph.nodes) p m (subst (λ (ms : List Mark). slice_get ms p ≡ Some m) marks at);
          sized = omega (arith, ap length marks, ap length next, length-replicate (length graph.nodes) New, length-replicate {A = ℕ} (length graph.nodes) 0);
          path = path;
          stack = stack;
          bounds = bounds;
        };
        marks_counted = ap length marks ∙ length-replicate (length graph.nodes) New;
        unflagged = λ q at. no_flag (length graph.nodes) q (subst (λ (bs : List Bool). slice_get bs q ≡ Some true) entered at);
        flags_counted = ap length entered ∙ length-replicate (length graph.nodes) false;
      }
    where
      all_new : (n p : ℕ) (m : Mark) → slice_get (replicate n New) p ≡ Some m → m ≡ New
      all_new zero p m at = absurd (none-some m at)
      all_new (suc n) zero m at = sym (same_Some New m at)
      all_new (suc n) (suc p) m at = all_new n p m at

      no_flag : (n q : ℕ) → slice_get (replicate n false) q ≡ Some true → ⊥
      no_flag zero q at = none-some true at
      no_flag (suc n) zero at = let e : false ≡ true = same_Some false true at in cc
      no_flag (suc n) (suc q) at = no_flag n q at
