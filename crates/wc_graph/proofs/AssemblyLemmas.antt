-- Contexts, nodes and steps with their new numbers.
use Rattle.std.proofs.Common.{ℕ, zero, suc, ◌≡◌, ◌+◌, ◌<◌, inl, inr, Bool, List, [], ◌∷◌, ◌++◌, map, Option, None, Some, IfSome, option_and_then, length, get_or, drop, append_assoc, refl, sym, ap, subst, ◌∙◌}
use Rattle.std.specs.List.{AllZip, flat_map, slice_get}
use Rattle.std.proofs.lemmas.List.{drop_more}
use Rattle.std.proofs.lemmas.Option.{none-some, same_Some, slice_get_within, get_or_from_slice_get}
use Rattle.wc_model.specs.declared.graphs.Context.{Context}
use Rattle.wc_model.specs.declared.graphs.Step.{Step as NumberedStep}
use Rattle.wc_model.specs.Program.Graphs.{AreKept, nothing, kept, left, IsStack, IsStepOf, IsTargetOf}
use Rattle.wc_model.specs.Program.Positions.{Call, Position}
use Rattle.wc_model.specs.Program.Steps.{Step}
use Rattle.wc_graph.specs.declared.frames.Frame.{Frame}
use Rattle.wc_graph.specs.declared.frames.Leap.{Leap}
use Rattle.wc_graph.specs.Inner.Assemblies.{context_of, leaps_at, new_target, step_of, step_to, steps_from}
use Rattle.wc_graph.specs.Inner.Exploring.{Lands}
use Rattle.wc_graph.specs.Inner.Frames.{HasStack, frame_at, frame_of}
use Rattle.wc_graph.specs.Inner.Inverses.{IsPlacedTo}
use Rattle.wc_graph.specs.Inner.Lists.{Has}
use Rattle.wc_graph.specs.Inner.Numbers.{IsOnce}
use Rattle.wc_graph.specs.Inner.Ordered.{rank_at}
use Rattle.wc_graph.specs.Inner.Spreads.{IsMarked}
use Rattle.wc_graph.specs.Inner.Walks.{IsListed, IsWalkable}
use Rattle.wc_graph.proofs.ReachLemmas.{has_get}
use Rattle.wc_graph.proofs.WalkLemmas.{zip_append}

pub get_map : {X Y : Type 0} (f : X → Y) (xs : List X) (i : ℕ) (x : X) → slice_get xs i ≡ Some x → slice_get (map f xs) i ≡ Some (f x)
get_map f [] i x at = absurd (none-some x at)
get_map f (y ∷ xs) zero x at = ap Some (ap f (same_Some y x at))
get_map f (y ∷ xs) (suc i) x at = get_map f xs i x at

pub rank_is : (ranks : List (Option ℕ)) (k i : ℕ) → slice_get ranks k ≡ Some (Some i) → rank_at ranks k ≡ Some i
rank_is ranks k i at = get_or_from_slice_get ranks k (Some i) None at

-- the steps of one node more, from the front of what is to come
pub steps_more : (leaps : List (List Leap)) (numbers : List (Option ℕ)) (order : List ℕ) (i : ℕ) (old new : List NumberedStep) (v : List Leap) → i < length order → slice_get leaps (get_or order i 0) ≡ Some v → new ≡ old ++ flat_map (step_of numbers i) v → new ++ steps_from leaps numbers (i + 1) (drop (i + 1) order) ≡ old ++ steps_from leaps numbers i (drop i order)
steps_more leaps numbers order i old new v less at is =
    let rest : List NumberedStep = steps_from leaps numbers (i + 1) (drop (i + 1) order) in
    ap (λ (xs : List NumberedStep). xs ++ rest) is
    ∙ append_assoc old (flat_map (step_of numbers i) v) rest
    ∙ ap (λ (o : Option (List Leap)). old ++ (flat_map (step_of numbers i) (leaps_at o) ++ rest)) (sym at)
    ∙ ap (λ (ks : List ℕ). old ++ steps_from leaps numbers i ks) (sym (drop_more order i 0 less))

-- the contexts have the stacks of their frames
module _ (entry : ℕ) (frames : List Frame) (live : List Bool) (walkable : IsWalkable entry frames live) (listed : List ℕ) (listed_is : IsListed entry frames live listed) (once : IsOnce listed) (count : ℕ) (ranks : List (Option ℕ)) (placed : IsPlacedTo count listed (length listed) ranks) where
  abbrev contexts : List Context
  contexts = map (context_of frames ranks) listed

  pub rank_of : (k : ℕ) → IsMarked live k → (i : ℕ) × (slice_get listed i ≡ Some k) × (rank_at ranks k ≡ Some i)
  rank_of k live_k =
      let at = has_get listed k (listed_is.all k live_k) in
      (at.0, at.1, rank_is ranks k at.0 (placed.there once at.0 k (slice_get_within listed at.0 k at.1) at.1))

  pub context_is : (i k : ℕ) (f : Frame) → slice_get listed i ≡ Some k → slice_get frames k ≡ Some f → slice_get contexts i ≡ Some (record { parent = option_and_then (rank_at ranks) f.parent; returns = f.returns; callee = f.callee })
  context_is i k f at_i at_k =
      let same : frame_at frames k ≡ f = get_or_from_slice_get frames k f (record { parent = None; returns = 0; callee = 0 }) at_k in
      get_map (context_of frames ranks) listed i k at_i ∙ ap (λ (g : Frame). Some (record { parent = option_and_then (rank_at ranks) g.parent; returns = g.returns; callee = g.callee })) same

  pub context_stack : (calls : List Call) (i k : ℕ) → slice_get listed i ≡ Some k → IsMarked live k → HasStack entry frames k calls → IsStack entry contexts i calls
  context_stack [] i k at_i live_k stack = context_is i k (frame_of None (record { returns = 0; callee = entry })) at_i stack
  context_stack (c ∷ cs) i k at_i live_k stack =
      let j : ℕ = stack.0 in
      let same : frame_at frames k ≡ frame_of (Some j) c = get_or_from_slice_get frames k (frame_of (Some j) c) (record { parent = None; returns = 0; callee = 0 }) stack.1 in
      let live_j : IsMarked live j = walkable.below k j live_k (ap (λ (f : Frame). f.parent) same) in
      let rank = rank_of j live_j in
      (rank.0, context_is i k (frame_of (Some j) c) at_i stack.1 ∙ ap (λ (o : Option ℕ). Some (record { parent = o; returns = c.returns; callee = c.callee })) rank.2, context_stack cs rank.0 j rank.1 live_j stack.2)

-- members that are kept, part after part
pub kept_append : {A : Type 0} (Keeps : A → Type 0) {xs us ys vs : List A} → AreKept Keeps xs us → AreKept Keeps ys vs → AreKept Keeps (xs ++ ys) (us ++ vs)
kept_append Keeps nothing more = more
kept_append Keeps (kept keeps rest) more = kept keeps (kept_append Keeps rest more)
kept_append Keeps (left keeps rest) more = left keeps (kept_append Keeps rest more)

-- the steps of one position
module _ (Live : Position → Type 0) (ps qs : List Position) (order : List ℕ) (numbers : List (Option ℕ)) (ordered : AllZip (λ k q. slice_get ps k ≡ Some q) order qs) (told : (t n : ℕ) → rank_at numbers t ≡ Some n → slice_get order n ≡ Some t) (untold : (t : ℕ) (r : Position) → rank_at numbers t ≡ None → slice_get ps t ≡ Some r → Live r → ⊥) (live : (n : ℕ) (q : Position) → slice_get qs n ≡ Some q → Live q) (at_order : (n t : ℕ) → slice_get order n ≡ Some t → (q : Position) × (slice_get qs n ≡ Some q) × (slice_get ps t ≡ Some q)) where
  abbrev Keeps : Step → Type 0
  Keeps s = IfSome s.target Live

  pub record HasKept (source : ℕ) (leaps : List Leap) (all : List Step) : Type 0 where
    pub some : List Step
    pub kept : AreKept Keeps all some
    pub numbered : AllZip (IsStepOf qs) (flat_map (step_of numbers source) leaps) some

  pub record IsKeptOne (source : ℕ) (leap : Leap) (s : Step) : Type 0 where
    pub some : List Step
    pub kept : AreKept Keeps (s ∷ []) some
    pub numbered : AllZip (IsStepOf qs) (step_of numbers source leap) some

  keep_one : (source : ℕ) (p : Position) (taken : Bool) (s : Step) → slice_get qs source ≡ Some p → s.source ≡ p → taken ≡ s.taken → (t : Option ℕ) → IsTargetOf ps t s.target → (o : Option (Option ℕ)) → new_target numbers t ≡ o → (some : List Step) × AreKept Keeps (s ∷ []) some × AllZip (IsStepOf qs) (step_to source taken o) some
  keep_one source p taken s at source_is taken_is None to None is = (s ∷ [], kept (subst (λ (o : Option Position). IfSome o Live) (sym to) tt) nothing, (record { source_is = at ∙ ap Some (sym source_is); target_is = to; taken_is = taken_is }, tt))
  keep_one source p taken s at source_is taken_is None to (Some o) is = absurd (none-some o is)
  keep_one source p taken s at source_is taken_is (Some t) to None is = absurd (none-some (rank_at numbers t) (sym is))
  keep_one source p taken s at source_is taken_is (Some t) to (Some None) is = ([], left (λ keeps. untold t to.0 (same_Some (rank_at numbers t) None is) to.1 (subst (λ (o : Option Position). IfSome o Live) to.2 keeps)) nothing, tt)
  keep_one source p taken s at source_is taken_is (Some t) to (Some (Some n)) is =
      let place = at_order n t (told t n (same_Some (rank_at numbers t) (Some n) is)) in
      let same : place.0 ≡ to.0 = same_Some place.0 to.0 (sym place.2 ∙ to.1) in
      let goes : s.target ≡ Some place.0 = to.2 ∙ ap Some (sym same) in
      (s ∷ [], kept (subst (λ (o : Option Position). IfSome o Live) (sym goes) (live n place.0 place.1)) nothing, (record { source_is = at ∙ ap Some (sym source_is); target_is = (place.0, place.1, goes); taken_is = taken_is }, tt))

  pub keep_all : (source : ℕ) (p : Position) → slice_get qs source ≡ Some p → (leaps : List Leap) (all : List Step) → AllZip (Lands ps) leaps all → ((s : Step) → Has all s → s.source ≡ p) → HasKept source leaps all
  keep_all source p at [] [] zip sources = record { some = []; kept = nothing; numbered = tt }
  keep_all source p at [] (s ∷ all) zip sources = absurd zip
  keep_all source p at (leap ∷ leaps) [] zip sources = absurd zip
  keep_all source p at (leap ∷ leaps) (s ∷ all) zip sources =
      let first = keep_one source p leap.taken s at (sources s (inl refl)) zip.0.taken leap.target zip.0.target (new_target numbers leap.target) refl in
      let rest = keep_all source p at leaps all zip.1 (λ t has. sources t (inr has)) in
      record {
        some = first.0 ++ rest.some;
        kept = kept_append Keeps first.1 rest.kept;
        numbered = zip_append (IsStepOf qs) (step_of numbers source leap) (flat_map (step_of numbers source) leaps) first.0 rest.some first.2 rest.numbered;
      }
