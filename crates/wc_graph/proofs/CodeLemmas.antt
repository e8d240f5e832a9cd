-- Where a way leads, and the positions that are found along it.
use Rattle.std.proofs.Common.{ℕ, ◌≡◌, ◌+◌, ◌<◌, ◌≤◌, inl, inr, ⊎_elim, List, [], ◌∷◌, ◌++◌, Option, None, Some, IfSome, length, refl, sym, ap, subst, ◌∙◌, arith}
use Rattle.std.specs.List.{AllZip, Contains, slice_get}
use Rattle.std.proofs.lemmas.List.{length_push}
use Rattle.std.proofs.lemmas.Option.{none-some, same_Some, slice_get_within}
use Rattle.wc_model.proofs.Places.{get_left, get_push, get_push_cases}
use Rattle.wc_model.specs.Program.Graphs.{IsTargetOf}
use Rattle.wc_model.specs.Program.Positions.{Position, start_of}
use Rattle.wc_model.specs.Program.Reaching.{Reaches, along as further}
use Rattle.wc_model.specs.Program.Steps.{Step, LeadsBy}
use Rattle.wc_graph.specs.declared.frames.Frame.{Frame}
use Rattle.wc_graph.specs.declared.frames.Place.{Place}
use Rattle.wc_graph.specs.declared.frames.Way.{Way}
use Rattle.wc_graph.specs.declared.frames.Way.TheVariants.{Go, Call as CallTo, Leave}
use Rattle.wc_graph.specs.Inner.Numbers.{IsKept, HasNumber}
use Rattle.wc_graph.specs.Inner.Frames.{IsAt, way_target}
use Rattle.wc_graph.specs.Inner.Codes.{AreFrames, IsCodeOf, HasPlace, IsGrownTo, HasTargetOf, IsFound}
use Rattle.wc_graph.proofs.Interning.{once_grown, kept_grown}
use Rattle.wc_graph.proofs.FrameLemmas.{stack_kept, at_kept, at_same, leave_root, leave_call, leave_nowhere}
use Rattle.wc_graph.proofs.ZipLemmas.{zip_right, zip_length, zip_so, zip_push}

-- within a frame
pub go : (frames : List Frame) (place : Place) (pc : ℕ) → HasPlace frames frames place (Go pc) (Some (record { frame = place.frame; pc = pc }))
go frames place pc = record {
  are = λ are less. (are, less);
  stays = λ k x is. is;
  fresh = inl refl;
  leads = λ entry p at. (record { calls = p.calls; pc = pc }, refl, record { stack = at.stack; address = refl });
}

-- into a new frame
pub call : (old new : List Frame) (place : Place) (callee returns number : ℕ) → HasNumber old new (record { parent = Some place.frame; returns = returns; callee = callee }) number → HasPlace old new place (CallTo callee returns) (Some (record { frame = number; pc = callee }))
call old new place callee returns number has = by (record { parent = Some place.frame; returns = returns; callee = callee }) refl has
  where
    by : (frame : Frame) → frame ≡ record { parent = Some place.frame; returns = returns; callee = callee } → HasNumber old new frame number → HasPlace old new place (CallTo callee returns) (Some (record { frame = number; pc = callee }))
    by frame is has = record {
      are = λ are less. (record { once = once_grown old new frame number has.grown are.once; below = lower are less }, slice_get_within new number frame has.is);
      stays = kept_grown old new frame number has.grown;
      fresh = ⊎_elim (λ (same : new ≡ old). inl (ap length same)) (λ more. inr (ap length more.2 ∙ length_push old frame, more.0)) has.grown;
      leads = λ entry p at. (
        record { calls = (record { returns = returns; callee = callee }) ∷ p.calls; pc = callee },
        refl,
        record { stack = (place.frame, has.is ∙ ap Some is, stack_kept entry old new (kept_grown old new frame number has.grown) place.frame p.calls at.stack); address = refl },
      );
    }
      where
        lower : AreFrames old → place.frame < length old → (k : ℕ) (f : Frame) → slice_get new k ≡ Some f → IfSome f.parent (λ j. j < k)
        lower are less k f at = ⊎_elim
            (λ (same : new ≡ old). are.below k f (subst (λ (xs : List Frame). slice_get xs k ≡ Some f) same at))
            (λ more. ⊎_elim
            (λ (before : slice_get old k ≡ Some f). are.below k f before)
            (λ (last : (k ≡ length old) × (frame ≡ f)). subst (λ (x : Frame). IfSome x.parent (λ j. j < k)) (sym is ∙ last.1) (subst (λ (n : ℕ). place.frame < n) (sym last.0) less))
            (get_push_cases old frame k f (subst (λ (xs : List Frame). slice_get xs k ≡ Some f) more.2 at)))
            has.grown

-- back to the frame below
module _ (frames : List Frame) (place : Place) where
  pub leave_out : (f : Frame) → slice_get frames place.frame ≡ Some f → f.parent ≡ None → HasPlace frames frames place Leave None
  leave_out f at none = record {
    are = λ are less. (are, tt);
    stays = λ k x is. is;
    fresh = inl refl;
    leads = λ entry p is. leave_root entry frames place.frame f p.calls at none is.stack;
  }

  pub leave_back : (f : Frame) (j : ℕ) → slice_get frames place.frame ≡ Some f → f.parent ≡ Some j → HasPlace frames frames place Leave (Some (record { frame = j; pc = f.returns }))
  leave_back f j at some = record {
    are = λ are less. (are, lower are less);
    stays = λ k x is. is;
    fresh = inl refl;
    leads = λ entry p is. leave_call entry frames place.frame f j p.calls at some is.stack;
  }
    where
      lower : AreFrames frames → place.frame < length frames → j < length frames
      lower are less =
          let under : j < place.frame = subst (λ (o : Option ℕ). IfSome o (λ i. i < place.frame)) some (are.below place.frame f at) in
          omega arith

  pub leave_none : slice_get frames place.frame ≡ None → HasPlace frames frames place Leave None
  leave_none none = record {
    are = λ are less. (are, tt);
    stays = λ k x is. is;
    fresh = inl refl;
    leads = λ entry p is. absurd (leave_nowhere entry frames place.frame p.calls none is.stack);
  }

module _ (old_frames new_frames : List Frame) (places : List Place) (place : Place) (way : Way) where
  longer : (target : Option Place) → HasPlace old_frames new_frames place way target → length old_frames ≤ length new_frames
  longer target has = ⊎_elim (λ (same : length new_frames ≡ length old_frames). omega arith) (λ more. let one : length new_frames ≡ length old_frames + 1 = more.0 in omega arith) has.fresh

  -- the exit
  pub no_target : HasPlace old_frames new_frames place way None → HasTargetOf old_frames new_frames places places place way None
  no_target has = record {
    is = λ code less. record {
      frames_are = (has.are code.frames_are less).0;
      once = code.once;
      inside = λ k x at. let before : x.frame < length old_frames = code.inside k x at in let more : length old_frames ≤ length new_frames = longer None has in omega arith;
      fewer = ⊎_elim (λ (same : length new_frames ≡ length old_frames). omega (arith, code.fewer)) (λ more. absurd more.1) has.fresh;
    };
    stays = has.stays;
    grown = inl refl;
    leads = has.leads;
  }

  -- a place, which is at most added
  pub has_target : (new_places : List Place) (x : Place) (number : ℕ) → HasPlace old_frames new_frames place way (Some x) → HasNumber places new_places x number → HasTargetOf old_frames new_frames places new_places place way (Some number)
  has_target new_places x number has numbered = record {
    is = λ code less. record {
      frames_are = (has.are code.frames_are less).0;
      once = once_grown places new_places x number numbered.grown code.once;
      inside = inside code less;
      fewer = fewer code;
    };
    stays = has.stays;
    grown = ⊎_elim (λ (same : new_places ≡ places). inl same) (λ more. inr (x, ap Some more.0, more.2)) numbered.grown;
    leads = λ entry p at. let to = has.leads entry p at in (x, to.0, numbered.is, to.1, to.2);
  }
    where
      inside : IsCodeOf old_frames places → place.frame < length old_frames → (k : ℕ) (y : Place) → slice_get new_places k ≡ Some y → y.frame < length new_frames
      inside code less k y at = ⊎_elim
          (λ (same : new_places ≡ places). let before : y.frame < length old_frames = code.inside k y (subst (λ (xs : List Place). slice_get xs k ≡ Some y) same at) in let more : length old_frames ≤ length new_frames = longer (Some x) has in omega arith)
          (λ more. ⊎_elim
          (λ (old : slice_get places k ≡ Some y). let before : y.frame < length old_frames = code.inside k y old in let far : length old_frames ≤ length new_frames = longer (Some x) has in omega arith)
          (λ last. subst (λ (z : Place). z.frame < length new_frames) last.1 (has.are code.frames_are less).1)
          (get_push_cases places x k y (subst (λ (xs : List Place). slice_get xs k ≡ Some y) more.2 at)))
          numbered.grown

      fewer : IsCodeOf old_frames places → length new_frames ≤ length new_places
      fewer code = ⊎_elim
          (λ (same : length new_frames ≡ length old_frames). ⊎_elim
          (λ (one : new_places ≡ places). omega (arith, code.fewer, ap length one))
          (λ more. let long : length new_places ≡ length places + 1 = ap length more.2 ∙ length_push places x in omega (arith, code.fewer))
          numbered.grown)
          (λ fresh. let long_frames : length new_frames ≡ length old_frames + 1 = fresh.0 in let last : x.frame ≡ length old_frames = fresh.1 in ⊎_elim
          (λ (one : new_places ≡ places). let before : x.frame < length old_frames = code.inside number x (subst (λ (xs : List Place). slice_get xs number ≡ Some x) one numbered.is) in absurd (omega arith))
          (λ more. let long : length new_places ≡ length places + 1 = ap length more.2 ∙ length_push places x in omega (arith, code.fewer))
          numbered.grown)
          has.fresh

-- the positions after one way more
pub record IsFurther (steps : Position → List Step) (entry : ℕ) (frames : List Frame) (places : List Place) (ps : List Position) (target : Option ℕ) (t : Option Position) : Type 0 where
  pub more : List Position
  pub stays : IsKept ps more
  pub found : IsFound steps entry frames places more
  pub leads : IsTargetOf more target t

module _ (steps : Position → List Step) (entry : ℕ) (old_frames new_frames : List Frame) (old_places new_places : List Place) (ps : List Position) (place : Place) (way : Way) (found : IsFound steps entry old_frames old_places ps) (n : ℕ) (p : Position) (s : Step) (at_n : slice_get ps n ≡ Some p) (at : IsAt entry old_frames place p) (among : Contains (steps p) s) (to : s.target ≡ way_target p way) where
  zip_now : (target : Option ℕ) → HasTargetOf old_frames new_frames old_places new_places place way target → AllZip (IsAt entry new_frames) old_places ps
  zip_now target has = zip_so (IsAt entry old_frames) (IsAt entry new_frames) (at_kept entry old_frames new_frames has.stays) old_places ps found.placed

  same_found : (target : Option ℕ) → HasTargetOf old_frames new_frames old_places new_places place way target → new_places ≡ old_places → IsFound steps entry new_frames new_places ps
  same_found target has same = record { placed = subst (λ (xs : List Place). AllZip (IsAt entry new_frames) xs ps) (sym same) (zip_now target has); rooted = stack_kept entry old_frames new_frames has.stays 0 [] found.rooted; first = found.first; reached = found.reached }

  pub found_more : (target : Option ℕ) → HasTargetOf old_frames new_frames old_places new_places place way target → IsFurther steps entry new_frames new_places ps target s.target
  found_more None has =
      let out : way_target p way ≡ None = has.leads entry p at in
      ⊎_elim
      (λ (same : new_places ≡ old_places). record { more = ps; stays = λ k x is. is; found = same_found None has same; leads = to ∙ out })
      (λ more. absurd (none-some (length old_places) more.1))
      has.grown
  found_more (Some k) has =
      let lead = has.leads entry p at in
      let q : Position = lead.1 in
      let goes : s.target ≡ Some q = to ∙ lead.3 in
      ⊎_elim
      (λ (same : new_places ≡ old_places).
      let there = zip_right (IsAt entry new_frames) old_places ps k lead.0 (zip_now (Some k) has) (subst (λ (xs : List Place). slice_get xs k ≡ Some lead.0) same lead.2) in
      let one : there.0 ≡ q = at_same entry new_frames lead.0 there.0 q there.2 lead.4 in
      record { more = ps; stays = λ i x is. is; found = same_found (Some k) has same; leads = (q, there.1 ∙ ap Some one, goes) })
      (λ grown.
      let x : Place = grown.0 in
      let last : k ≡ length old_places = same_Some k (length old_places) grown.1 in
      let at_k : slice_get (old_places ++ x ∷ []) k ≡ Some lead.0 = subst (λ (xs : List Place). slice_get xs k ≡ Some lead.0) grown.2 lead.2 in
      let one : x ≡ lead.0 = same_Some x lead.0 (sym (get_push old_places x) ∙ ap (slice_get (old_places ++ x ∷ [])) (sym last) ∙ at_k) in
      let count : length ps ≡ k = sym (zip_length (IsAt entry old_frames) old_places ps found.placed) ∙ sym last in
      record {
        more = ps ++ q ∷ [];
        stays = get_left ps (q ∷ []);
        found = record {
          placed = subst (λ (xs : List Place). AllZip (IsAt entry new_frames) xs (ps ++ q ∷ [])) (sym grown.2) (zip_push (IsAt entry new_frames) old_places ps x q (zip_now (Some k) has) (subst (λ (y : Place). IsAt entry new_frames y q) (sym one) lead.4));
          rooted = stack_kept entry old_frames new_frames has.stays 0 [] found.rooted;
          first = get_left ps (q ∷ []) 0 (start_of entry) found.first;
          reached = λ i r is. ⊎_elim
              (λ (before : slice_get ps i ≡ Some r). found.reached i r before)
              (λ (new : (i ≡ length ps) × (q ≡ r)). subst (λ (z : Position). Reaches (LeadsBy steps) (start_of entry) z) new.1 (further q (found.reached n p at_n) (s, among, goes)))
              (get_push_cases ps q i r is);
        };
        leads = (q, subst (λ (i : ℕ). slice_get (ps ++ q ∷ []) i ≡ Some q) count (get_push ps q), goes);
      })
      has.grown

pub grown_count : (old new : List Place) (target : Option ℕ) → IsGrownTo old new target → length new ≤ length old + 1
grown_count old new target grown = ⊎_elim
    (λ (same : new ≡ old). omega (arith, ap length same))
    (λ more. omega (arith, ap length more.2, length_push old more.0))
    grown
