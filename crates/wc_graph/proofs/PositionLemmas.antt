-- The live positions in order.
use Rattle.std.proofs.Common.{ℕ, ◌≡◌, ◌<◌, ◌↔◌, inl, inr, ⊎_elim, List, [], ◌∷◌, reverse, Some, length, refl, sym, ap, subst, ◌∙◌, arith, Less}
use Rattle.std.specs.List.{AllZip, Contains, slice_get}
use Rattle.std.proofs.lemmas.List.{reverse-reverse}
use Rattle.std.proofs.lemmas.Option.{same_Some}
use Rattle.wc_model.proofs.Places.{contains_from_get, get_from_contains}
use Rattle.wc_model.specs.declared.elf_image.Image.{Image}
use Rattle.wc_model.specs.declared.flow_facts.Fact.{Fact}
use Rattle.wc_model.specs.Program.Graphs.{IsLivePosition}
use Rattle.wc_model.specs.Program.Positions.{Call, Position, position_cmp}
use Rattle.wc_graph.specs.declared.frames.Frame.{Frame}
use Rattle.wc_graph.specs.declared.frames.Place.{Place}
use Rattle.wc_graph.specs.declared.numbering.Numbering.{Numbering}
use Rattle.wc_graph.specs.declared.survey.Survey.{Survey}
use Rattle.wc_graph.specs.Inner.Frames.{HasStack}
use Rattle.wc_graph.specs.Inner.Lists.{Has}
use Rattle.wc_graph.specs.Inner.Numberings.{AreRanked}
use Rattle.wc_graph.specs.Inner.Ordered.{place_at, rank_at}
use Rattle.wc_graph.specs.Inner.Orders.{Before, Pairs}
use Rattle.wc_graph.specs.Inner.Spreads.{IsMarked}
use Rattle.wc_graph.specs.Inner.Walks.{IsOn}
use Rattle.wc_graph.proofs.Assembled.{zip_exists}
use Rattle.wc_graph.proofs.AssemblyLemmas.{rank_of}
use Rattle.wc_graph.proofs.FrameLemmas.{stack_same}
use Rattle.wc_graph.proofs.LiveLemmas.{live_number, marked_within, number_live, place_of, ps_of}
use Rattle.wc_graph.proofs.OrderedLemmas.{IsSooner, in_order, order_in, pairs_at, pairs_zip, position_before, position_beside, sooner}
use Rattle.wc_graph.proofs.ReachLemmas.{has_get}
use Rattle.wc_graph.proofs.ZipLemmas.{zip_left, zip_right}

zip_told : {A B : Type 0} (R S : A → B → Type 0) (xs : List A) (ys : List B) → ((x : A) (y : B) → Has xs x → R x y → S x y) → AllZip R xs ys → AllZip S xs ys
zip_told R S [] [] so zip = zip
zip_told R S [] (y ∷ ys) so zip = absurd zip
zip_told R S (x ∷ xs) [] so zip = absurd zip
zip_told R S (x ∷ xs) (y ∷ ys) so zip = (so x y (inl refl) zip.0, zip_told R S xs ys (λ z w has. so z w (inr has)) zip.1)

module _ {image : Image} {facts : List Fact} {entry : ℕ} {survey : Survey} {ranking ordering : Numbering} (b : AreRanked image facts entry survey ranking ordering) where
  abbrev frames : List Frame
  frames = survey.code.frames.keys

  abbrev places : List Place
  places = survey.code.places.keys

  abbrev order : List ℕ
  order = ordering.order.items

  abbrev pub ps : List Position
  ps = ps_of image facts entry survey b.is

  -- a live number is placed
  pub rank_is : (f : ℕ) → IsMarked b.ranked.marks f → (i : ℕ) × (slice_get ranking.order.items i ≡ Some f) × (rank_at ranking.numbers.items f ≡ Some i)
  rank_is f marked = rank_of entry frames b.ranked.marks b.ranked.walkable ranking.order.items b.ranked.listed b.ranked.numbered.once (length frames) ranking.numbers.items b.ranked.numbered.placed f marked

  pub place_rank : (k : ℕ) → IsMarked survey.live.items k → (i : ℕ) × (slice_get ranking.order.items i ≡ Some (place_at places k).frame) × (rank_at ranking.numbers.items (place_at places k).frame ≡ Some i)
  place_rank k marked = rank_is (place_at places k).frame (b.ranked.are.all k (marked_within image facts entry survey b.is k marked) marked)

  pub has_number : (k : ℕ) → IsMarked survey.live.items k → Has order k
  has_number k marked =
      let rank = place_rank k marked in
      in_order places survey.live.items ranking.numbers.items order b.is.few b.is.code.once b.ordered.are k (b.ordered.are.keyed.back k rank.0 (marked_within image facts entry survey b.is k marked) marked rank.2)

  pub order_live : (k : ℕ) → Has order k → IsMarked survey.live.items k
  order_live k has = (b.ordered.are.keyed.there k (order_in places survey.live.items ranking.numbers.items order b.is.few b.is.code.once b.ordered.are k has)).1

  abbrev pub IsAs : ℕ → Position → Type 0
  IsAs k q = (slice_get ps k ≡ Some q) × IsMarked survey.live.items k

  pub zipped : (qs : List Position) × AllZip (λ k q. slice_get ps k ≡ Some q) order qs
  zipped = zip_exists ps order (λ k has. let p = number_live image facts entry survey b.is k (order_live k has) in (p.0, p.1))

  abbrev pub positions : List Position
  positions = zipped.0

  pub zip : AllZip (λ k q. slice_get ps k ≡ Some q) order positions
  zip = zipped.1

  pub zip_as : AllZip IsAs order positions
  zip_as = zip_told (λ k q. slice_get ps k ≡ Some q) IsAs order positions (λ k q has at. (at, order_live k has)) zip

  -- exactly the live positions
  pub is_live : (n : ℕ) (q : Position) → slice_get positions n ≡ Some q → IsLivePosition image facts entry q
  is_live n q at =
      let from = zip_left IsAs order positions n q zip_as at in
      let p = number_live image facts entry survey b.is from.0 from.2.1 in
      subst (IsLivePosition image facts entry) (same_Some p.0 q (sym p.1 ∙ from.2.0)) p.2

  pub position_number : (q : Position) → IsLivePosition image facts entry q → (n : ℕ) × (slice_get positions n ≡ Some q)
  position_number q lives =
      let k = live_number image facts entry survey b.is q lives in
      let n = has_get order k.0 (has_number k.0 k.2) in
      let to = zip_right (λ j p. slice_get ps j ≡ Some p) order positions n.0 k.0 zip n.1 in
      (n.0, to.1 ∙ ap Some (same_Some to.0 q (sym to.2 ∙ k.1)))

  pub live_are : (p : Position) → Contains positions p ↔ IsLivePosition image facts entry p
  live_are p = (
    λ among. let at = get_from_contains positions p among in is_live at.0 p at.1,
    λ lives. let at = position_number p lives in contains_from_get positions at.0 p at.1,
  )

  -- in order
  pub stack_at : (i f : ℕ) (calls : List Call) → slice_get ranking.order.items i ≡ Some f → HasStack entry frames f calls → (s : List Call) × (slice_get b.ranked.listed.stacks i ≡ Some s) × (reverse s ≡ calls)
  stack_at i f calls at stack =
      let s = zip_right (IsOn entry frames) ranking.order.items b.ranked.listed.stacks i f b.ranked.listed.are at in
      (s.0, s.1, stack_same entry frames f (reverse s.0) calls s.2 stack)

  in_order_are : (j k : ℕ) (p q : Position) → IsAs j p → IsAs k q → IsSooner places survey.live.items ranking.numbers.items order b.is.few b.is.code.once b.ordered.are j k → position_cmp p q ≡ Less
  in_order_are j k p q at_j at_k before =
      let one = place_rank j at_j.1 in
      let two = place_rank k at_k.1 in
      let x = place_of image facts entry survey b.is j p at_j.0 in
      let y = place_of image facts entry survey b.is k q at_k.0 in
      ⊎_elim
      (λ (less : one.0 < two.0).
      let s = stack_at one.0 (place_at places j).frame p.calls one.1 x.stack in
      let t = stack_at two.0 (place_at places k).frame q.calls two.1 y.stack in
      position_before p q s.0 t.0 (ap reverse (sym s.2) ∙ reverse-reverse s.0) (ap reverse (sym t.2) ∙ reverse-reverse t.0) (pairs_at Before b.ranked.listed.stacks one.0 two.0 s.0 t.0 b.ranked.listed.sorted less s.1 t.1))
      (λ beside.
      let same : (place_at places j).frame ≡ (place_at places k).frame = same_Some (place_at places j).frame (place_at places k).frame (sym one.1 ∙ ap (slice_get ranking.order.items) beside.0 ∙ two.1) in
      let calls : p.calls ≡ q.calls = stack_same entry frames (place_at places k).frame p.calls q.calls (subst (λ (f : ℕ). HasStack entry frames f p.calls) same x.stack) y.stack in
      ⊎_elim
      (λ (apart : (place_at places j).frame ≡ (place_at places k).frame → ⊥). absurd (apart same))
      (λ (less : (place_at places j).pc < (place_at places k).pc). position_beside p q calls (omega (arith, less, x.address, y.address)))
      beside.1)
      (before one.0 two.0 one.2 two.2)

  pub pairs : Pairs (λ p q. position_cmp p q ≡ Less) positions
  pairs = pairs_zip IsAs (IsSooner places survey.live.items ranking.numbers.items order b.is.few b.is.code.once b.ordered.are) (λ p q. position_cmp p q ≡ Less) (λ j k p q at_j at_k before. in_order_are j k p q at_j at_k before) order positions zip_as (sooner places survey.live.items ranking.numbers.items order b.is.few b.is.code.once b.ordered.are)
