-- The walk over the live frames: one frame more, and those that stand on it.
use Rattle.std.proofs.Common.{ℕ, ◌≡◌, ◌+◌, ◌*◌, ◌<◌, ◌≤◌, ◌⊎◌, ◌||◌, inl, inr, ⊎_elim, Bool, true, false, List, [], ◌∷◌, ◌++◌, map, reverse, Option, None, Some, length, eqb, refl, sym, ap, subst, ◌∙◌, arith}
use Rattle.std.specs.List.{AllZip, AllByRecursion, IsDistinct, list_any, slice_get}
use Rattle.std.proofs.lemmas.Bool.{cases_lt, false≢true}
use Rattle.std.proofs.lemmas.Bool.Decides.{eqb_tells}
use Rattle.std.proofs.lemmas.List.{reverse-append, reverse-reverse}
use Rattle.std.proofs.lemmas.Map.Steps.{length-le_from_distinct_below}
use Rattle.std.proofs.lemmas.Option.{slice_get_within, slice_get-get_or, get_or_from_slice_get}
use Rattle.wc_model.specs.Program.Positions.{Call}
use Rattle.wc_graph.specs.declared.frames.Frame.{Frame}
use Rattle.wc_graph.specs.Inner.Codes.{AreFrames}
use Rattle.wc_graph.specs.Inner.Families.{key_at}
use Rattle.wc_graph.specs.Inner.Frames.{HasStack, frame_at, frame_of}
use Rattle.wc_graph.specs.Inner.Lists.{Has, Inside}
use Rattle.wc_graph.specs.Inner.Orders.{CallLess, Before, Pairs, IsPreorder}
use Rattle.wc_graph.specs.Inner.Spreads.{IsMarked}
use Rattle.wc_graph.specs.Inner.Stated.{low, with_all}
use Rattle.wc_graph.specs.Inner.Walks.{IsOn, IsWalkable, IsAbove, itself, above, IsWalking, IsListed}
use Rattle.wc_graph.proofs.FrameLemmas.{stack_same}
use Rattle.wc_graph.proofs.OrderLemmas.{before_apart, on_from, preorder_begins, preorder_goes_on}
use Rattle.wc_graph.proofs.RisingLemmas.{Rises, over_has, has_append, append_has, has_map, map_has, all_in, in_all, all_rises}
use Rattle.wc_graph.proofs.ZipLemmas.{zip_push}

pub zip_has : {A B : Type 0} (R : A → B → Type 0) (xs : List A) (ys : List B) (x : A) → AllZip R xs ys → Has xs x → (y : B) × Has ys y × R x y
zip_has R [] ys x zip has = absurd has
zip_has R (a ∷ xs) [] x zip has = absurd zip
zip_has {A} {B} R (a ∷ xs) (b ∷ ys) x zip (inl same) = (b, inl refl, subst (λ (z : A). R z b) same zip.0)
zip_has R (a ∷ xs) (b ∷ ys) x zip (inr later) = let deep = zip_has R xs ys x zip.1 later in (deep.0, inr deep.1, deep.2)

pub zip_append : {A B : Type 0} (R : A → B → Type 0) (xs us : List A) (ys vs : List B) → AllZip R xs ys → AllZip R us vs → AllZip R (xs ++ us) (ys ++ vs)
zip_append R [] us [] vs zip more = more
zip_append R [] us (y ∷ ys) vs zip more = absurd zip
zip_append R (x ∷ xs) us [] vs zip more = absurd zip
zip_append R (x ∷ xs) us (y ∷ ys) vs zip more = (zip.0, zip_append R xs us ys vs zip.1 more)

abbrev pub call_at : List Frame → ℕ → Call
call_at frames k = record { returns = (frame_at frames k).returns; callee = (frame_at frames k).callee }

module _ (entry : ℕ) (frames : List Frame) where
  at_get : (k : ℕ) (f : Frame) → slice_get frames k ≡ Some f → frame_at frames k ≡ f
  at_get k f at = get_or_from_slice_get frames k f (record { parent = None; returns = 0; callee = 0 }) at

  get_at : (k : ℕ) → k < length frames → slice_get frames k ≡ Some (frame_at frames k)
  get_at k less = slice_get-get_or frames k (record { parent = None; returns = 0; callee = 0 }) less

  -- stacks that rise are those of different frames
  on_same : (k : ℕ) (s t : List Call) → IsOn entry frames k s → IsOn entry frames k t → s ≡ t
  on_same k s t is at = sym (reverse-reverse s) ∙ ap reverse (stack_same entry frames k (reverse s) (reverse t) is at) ∙ reverse-reverse t

  pub zip_apart : (ks : List ℕ) (ss : List (List Call)) → AllZip (IsOn entry frames) ks ss → Pairs Before ss → Pairs (λ j k. j ≡ k → ⊥) ks
  zip_apart [] ss zip pairs = tt
  zip_apart (k ∷ ks) [] zip pairs = absurd zip
  zip_apart (k ∷ ks) (s ∷ ss) zip pairs = (
    λ j has same.
        let other = zip_has (IsOn entry frames) ks ss j zip.1 has in
        before_apart s (subst (Before s) (sym (on_same k s other.0 zip.0 (subst (λ (i : ℕ). IsOn entry frames i other.0) (sym same) other.2))) (pairs.0 other.0 other.1)),
    zip_apart ks ss zip.1 pairs.1,
  )

all_apart : (x : ℕ) (xs : List ℕ) → ((y : ℕ) → Has xs y → x ≡ y → ⊥) → AllByRecursion (λ y. eqb x y ≡ false) xs
all_apart x [] apart = tt
all_apart x (y ∷ ys) apart = (⊎_elim (λ same. absurd (apart y (inl refl) same.1)) (λ other. other.0) (eqb_tells x y), all_apart x ys (λ z has. apart z (inr has)))

distinct : (xs : List ℕ) → Pairs (λ j k. j ≡ k → ⊥) xs → IsDistinct eqb xs
unfolding IsDistinct
distinct [] pairs = tt
distinct (x ∷ xs) pairs = (all_apart x xs pairs.0, distinct xs pairs.1)

any_has : (q : ℕ) (xs : List ℕ) → list_any (eqb q) xs ≡ true → Has xs q
any_has q [] is = absurd (false≢true is)
any_has q (x ∷ xs) is = ⊎_elim (λ same. inl (sym same.1)) (λ other. inr (any_has q xs (ap (λ b. b || list_any (eqb q) xs) (sym other.0) ∙ is))) (eqb_tells q x)

pub few_apart : (xs : List ℕ) (n : ℕ) → Pairs (λ j k. j ≡ k → ⊥) xs → Inside n xs → length xs ≤ n
few_apart xs n pairs inside = length-le_from_distinct_below xs n (distinct xs pairs) (λ q any. inside q (any_has q xs any))

module _ (entry : ℕ) (frames : List Frame) (live : List Bool) (are : AreFrames frames) (few : length frames ≤ 100000) (walkable : IsWalkable entry frames live) where
  pub live_within : (k : ℕ) → IsMarked live k → k < length frames
  live_within k is = subst (λ (n : ℕ). k < n) walkable.counted (slice_get_within live k true is)

  pub listed_few : (listed work : List ℕ) → IsWalking entry frames live listed work → length listed ≤ length frames
  listed_few listed work walking = few_apart listed (length frames) (zip_apart entry frames listed walking.done walking.done_are walking.preorder.sorted) (λ k has. live_within k (walking.sound k (inl has)))

  above_root : (k : ℕ) (calls : List Call) → HasStack entry frames k calls → IsMarked live k → IsAbove frames live 0 k
  above_root k [] is live_k = subst (IsAbove frames live 0) (are.once 0 k (frame_of None (record { returns = 0; callee = entry })) walkable.root is) itself
  above_root k (c ∷ cs) is live_k =
      let parent : (frame_at frames k).parent ≡ Some is.0 = ap (λ (f : Frame). f.parent) (at_get entry frames k (frame_of (Some is.0) c) is.1) in
      above k (above_root is.0 cs is.2 (walkable.below k is.0 live_k parent)) live_k parent

  pub walking_begins : IsWalking entry frames live [] (0 ∷ [])
  walking_begins = record {
    done = [];
    waiting = [] ∷ [];
    done_are = tt;
    waiting_are = (walkable.root, tt);
    preorder = preorder_begins;
    sound = λ k either. ⊎_elim (λ (none : ⊥). absurd none) (λ (is : (0 ≡ k) ⊎ ⊥). first k is) either;
    all = λ k live_k. let stack = walkable.stacked k live_k in inr (0, inl refl, above_root k stack.0 stack.1 live_k);
  }
    where
      first : (k : ℕ) → (0 ≡ k) ⊎ ⊥ → IsMarked live k
      first k (inl same) = subst (IsMarked live) same walkable.started
      first k (inr none) = absurd none

  first_child : (j : ℕ) {k : ℕ} → IsAbove frames live j k → (k ≡ j) ⊎ ((c : ℕ) × IsMarked live c × ((frame_at frames c).parent ≡ Some j) × IsAbove frames live c k)
  first_child j itself = inl refl
  first_child j (above {m} k way live_k parent) = ⊎_elim
      (λ (same : m ≡ j). inr (k, live_k, parent ∙ ap Some same, itself))
      (λ deep. inr (deep.0, deep.1, deep.2, above k deep.3 live_k parent))
      (first_child j way)

  -- the frames that stand on one
  module _ (j : ℕ) (numbers : List ℕ) (kids : (k : ℕ) → Has numbers k → IsMarked live k × ((frame_at frames k).parent ≡ Some j)) (fits : (k : ℕ) → Has numbers k → (frame_at frames k).callee < 4294967296) where
    abbrev pub keys : List ℕ
    keys = with_all [] (map (key_at frames) numbers)

    small : (k : ℕ) → Has numbers k → k < 4294967296
    small k has = let less : k < length frames = live_within k (kids k has).0 in omega arith

    -- a key tells its frame
    pub record IsKeyOf (q : ℕ) : Type 0 where
      pub frame : ℕ
      pub among : Has numbers frame
      pub is : q ≡ key_at frames frame
      pub low_is : low q ≡ frame

    key_of_frame : (q : ℕ) → Has keys q → IsKeyOf q
    key_of_frame q has = ⊎_elim
        (λ (none : ⊥). absurd none)
        (λ (among : Has (map (key_at frames) numbers) q).
        let from = has_map (key_at frames) numbers q among in
        let less : from.0 < 4294967296 = small from.0 from.1 in
        let is : key_at frames from.0 ≡ q = from.2 in
        record { frame = from.0; among = from.1; is = sym is; low_is = omega (arith, is, less) })
        (all_in [] (map (key_at frames) numbers) q has)

    key_call : (q r : ℕ) → IsKeyOf q → IsKeyOf r → q < r → CallLess (call_at frames (low q)) (call_at frames (low r))
    key_call q r one two less =
        let f : Frame = frame_at frames one.frame in
        let g : Frame = frame_at frames two.frame in
        let f_small : f.callee < 4294967296 = fits one.frame one.among in
        let g_small : g.callee < 4294967296 = fits two.frame two.among in
        let k_small : one.frame < 4294967296 = small one.frame one.among in
        let l_small : two.frame < 4294967296 = small two.frame two.among in
        let q_is : q ≡ (f.returns * 4294967296 + f.callee) * 4294967296 + one.frame = one.is in
        let r_is : r ≡ (g.returns * 4294967296 + g.callee) * 4294967296 + two.frame = two.is in
        let calls : CallLess (call_at frames one.frame) (call_at frames two.frame) = ⊎_elim
        (λ (low_r : f.returns < g.returns). inl low_r)
        (λ (high_r : g.returns ≤ f.returns). ⊎_elim
        (λ (low_c : f.callee < g.callee). inr (omega (arith, q_is, r_is), low_c))
        (λ (high_c : g.callee ≤ f.callee).
        let same_r : f.returns ≡ g.returns = omega (arith, q_is, r_is) in
        let same_c : f.callee ≡ g.callee = omega (arith, q_is, r_is, same_r) in
        let same_p : f.parent ≡ g.parent = (kids one.frame one.among).1 ∙ sym (kids two.frame two.among).1 in
        let same : f ≡ g = ap (λ (p : Option ℕ). record { parent = p; returns = f.returns; callee = f.callee }) same_p ∙ ap (λ (n : ℕ). record { parent = g.parent; returns = n; callee = f.callee }) same_r ∙ ap (λ (n : ℕ). record { parent = g.parent; returns = g.returns; callee = n }) same_c in
        let at_k : slice_get frames one.frame ≡ Some f = get_at entry frames one.frame (live_within one.frame (kids one.frame one.among).0) in
        let at_l : slice_get frames two.frame ≡ Some g = get_at entry frames two.frame (live_within two.frame (kids two.frame two.among).0) in
        let one_k : one.frame ≡ two.frame = are.once one.frame two.frame g (at_k ∙ ap Some same) at_l in
        absurd (omega (arith, q_is, r_is, same_r, same_c, one_k)))
        (cases_lt f.callee g.callee))
        (cases_lt f.returns g.returns) in
        subst (λ (n : ℕ). CallLess (call_at frames n) (call_at frames (low r))) (sym one.low_is) (subst (λ (n : ℕ). CallLess (call_at frames one.frame) (call_at frames n)) (sym two.low_is) calls)

    calls_rise : (qs : List ℕ) → ((q : ℕ) → Has qs q → IsKeyOf q) → Rises qs → Pairs CallLess (map (call_at frames) (map low qs))
    calls_rise [] all rises = tt
    calls_rise (q ∷ qs) all rises = (
      λ d has.
          let k = has_map (call_at frames) (map low qs) d has in
          let r = has_map low qs k.0 k.1 in
          subst (CallLess (call_at frames (low q))) (ap (call_at frames) r.2 ∙ k.2) (key_call q r.0 (all q (inl refl)) (all r.0 (inr r.1)) (over_has q qs r.0 rises.0 r.1)),
      calls_rise qs (λ r has. all r (inr has)) rises.1,
    )

    abbrev pub children : List ℕ
    children = map low keys

    child_in : (k : ℕ) → Has children k → Has numbers k
    child_in k has =
        let from = has_map low keys k has in
        let is = key_of_frame from.0 from.1 in
        subst (Has numbers) (sym is.low_is ∙ from.2) is.among

    in_child : (k : ℕ) → Has numbers k → Has children k
    in_child k has =
        let among : Has keys (key_at frames k) = in_all [] (map (key_at frames) numbers) (key_at frames k) (inr (map_has (key_at frames) numbers k has)) in
        let less : k < 4294967296 = small k has in
        subst (Has children) (omega arith) (map_has low keys (key_at frames k) among)

    on_child : (w : List Call) → IsOn entry frames j w → (k : ℕ) → Has numbers k → IsOn entry frames k (on_from w (call_at frames k))
    on_child w is k has =
        let both = kids k has in
        let at : slice_get frames k ≡ Some (frame_of (Some j) (call_at frames k)) = get_at entry frames k (live_within k both.0) ∙ ap (λ (p : Option ℕ). Some (record { parent = p; returns = (frame_at frames k).returns; callee = (frame_at frames k).callee })) both.1 in
        subst (HasStack entry frames k) (sym (reverse-append w (call_at frames k ∷ []))) (j, at, is)

    on_children : (w : List Call) → IsOn entry frames j w → (ks : List ℕ) → ((k : ℕ) → Has ks k → Has numbers k) → AllZip (IsOn entry frames) ks (map (on_from w) (map (call_at frames) ks))
    on_children w is [] all = tt
    on_children w is (k ∷ ks) all = (on_child w is k (all k (inl refl)), on_children w is ks (λ i has. all i (inr has)))

    module _ (every : (k : ℕ) → IsMarked live k → (frame_at frames k).parent ≡ Some j → Has numbers k) (listed rest : List ℕ) where
      pub walking_goes_on : IsWalking entry frames live listed (j ∷ rest) → IsWalking entry frames live (listed ++ j ∷ []) (children ++ rest)
      walking_goes_on s = by s.waiting s.waiting_are s.preorder
        where
          sound : (k : ℕ) → Has (listed ++ j ∷ []) k ⊎ Has (children ++ rest) k → IsMarked live k
          sound k (inl has) = ⊎_elim (λ (old : Has listed k). s.sound k (inl old)) (λ (new : (j ≡ k) ⊎ ⊥). ⊎_elim (λ (same : j ≡ k). s.sound k (inr (inl same))) (λ (none : ⊥). absurd none) new) (has_append listed (j ∷ []) k has)
          sound k (inr has) = ⊎_elim (λ (child : Has children k). (kids k (child_in k child)).0) (λ (later : Has rest k). s.sound k (inr (inr later))) (has_append children rest k has)

          from : (k i : ℕ) → Has (j ∷ rest) i → IsAbove frames live i k → Has (listed ++ j ∷ []) k ⊎ ((m : ℕ) × Has (children ++ rest) m × IsAbove frames live m k)
          from k i (inr later) way = inr (i, append_has children rest i (inr later), way)
          from k i (inl same) way = ⊎_elim
              (λ (one : k ≡ j). inl (append_has listed (j ∷ []) k (inr (inl (sym one)))))
              (λ deep. inr (deep.0, append_has children rest deep.0 (inl (in_child deep.0 (every deep.0 deep.1 deep.2))), deep.3))
              (first_child j (subst (λ (m : ℕ). IsAbove frames live m k) (sym same) way))

          all : (k : ℕ) → IsMarked live k → Has (listed ++ j ∷ []) k ⊎ ((m : ℕ) × Has (children ++ rest) m × IsAbove frames live m k)
          all k live_k = ⊎_elim
              (λ (old : Has listed k). inl (append_has listed (j ∷ []) k (inl old)))
              (λ waits. from k waits.0 waits.1 waits.2)
              (s.all k live_k)

          by : (waiting : List (List Call)) → AllZip (IsOn entry frames) (j ∷ rest) waiting → IsPreorder s.done waiting → IsWalking entry frames live (listed ++ j ∷ []) (children ++ rest)
          by [] zip preorder = absurd zip
          by (w ∷ waiting) zip preorder = record {
            done = s.done ++ w ∷ [];
            waiting = map (on_from w) (map (call_at frames) children) ++ waiting;
            done_are = zip_push (IsOn entry frames) listed s.done j w s.done_are zip.0;
            waiting_are = zip_append (IsOn entry frames) children rest (map (on_from w) (map (call_at frames) children)) waiting (on_children w zip.0 children child_in) zip.1;
            preorder = preorder_goes_on s.done waiting w (map (call_at frames) children) preorder (calls_rise keys key_of_frame (all_rises [] (map (key_at frames) numbers) tt));
            sound = sound;
            all = all;
          }

  pub walking_ends : (listed : List ℕ) → IsWalking entry frames live listed [] → IsListed entry frames live listed
  walking_ends listed s = record {
    stacks = s.done;
    are = s.done_are;
    sorted = s.preorder.sorted;
    live_are = λ k has. s.sound k (inl has);
    all = λ k live_k. ⊎_elim (λ (has : Has listed k). has) (λ waits. absurd waits.1) (s.all k live_k);
  }
