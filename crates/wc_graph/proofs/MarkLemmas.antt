-- One position more whose frame is marked where the position is live.
use Rattle.std.proofs.Common.{ℕ, ◌≡◌, ◌+◌, ◌<◌, ◌≤◌, inl, ⊎_elim, Bool, true, false, List, [], ◌∷◌, Some, refl, sym, ap, subst, ◌∙◌, arith}
use Rattle.std.specs.List.{slice_get}
use Rattle.std.proofs.lemmas.Bool.{cases_lt, false≢true}
use Rattle.std.proofs.lemmas.Option.{same_Some}
use Rattle.wc_graph.specs.declared.frames.Place.{Place}
use Rattle.wc_graph.specs.declared.live.Marked.{Marked}
use Rattle.wc_graph.specs.Inner.Lists.{Has}
use Rattle.wc_graph.specs.Inner.Ordered.{AreLiveFrames, place_at}
use Rattle.wc_graph.specs.Inner.Spreads.{IsMarked, IsUnmarked, Marks}

pub frames_begin : (count : ℕ) (places : List Place) (live : List Bool) (marked : Marked) → IsUnmarked count marked → AreLiveFrames count places live 0 marked.marks.items
frames_begin count places live marked none = record { counted = none.counted; from = λ f is. absurd (none.none f is); all = λ k less is. absurd (omega arith) }

pub frames_more : (count : ℕ) (places : List Place) (live : List Bool) (n : ℕ) (b : Bool) (old new : Marked) → slice_get live n ≡ Some b → AreLiveFrames count places live n old.marks.items → (b ≡ true → Marks ((place_at places n).frame ∷ []) old new) → (b ≡ false → new ≡ old) → AreLiveFrames count places live (n + 1) new.marks.items
frames_more count places live n true old new at are marks same =
    let own : Marks ((place_at places n).frame ∷ []) old new = marks refl in
    record {
      counted = own.count ∙ are.counted;
      from = λ f is. ⊎_elim
          (λ (was : IsMarked old.marks.items f). let from = are.from f was in (from.0, omega (arith, from.1), from.2, from.3))
          (λ (now : Has ((place_at places n).frame ∷ []) f). ⊎_elim
          (λ (one : (place_at places n).frame ≡ f). (n, omega arith, at, one))
          (λ (none : ⊥). absurd none) now)
          (own.from f is);
      all = λ k less is. ⊎_elim
          (λ (before : k < n). own.stays (place_at places k).frame (are.all k before is))
          (λ (from : n ≤ k). let last : n ≡ k = omega arith in subst (λ (i : ℕ). IsMarked new.marks.items (place_at places i).frame) last (own.all (place_at places n).frame (inl refl)))
          (cases_lt k n);
    }
frames_more count places live n false old new at are marks same = subst (λ (m : Marked). AreLiveFrames count places live (n + 1) m.marks.items) (sym (same refl)) (record {
  counted = are.counted;
  from = λ f is. let from = are.from f is in (from.0, omega (arith, from.1), from.2, from.3);
  all = λ k less is. ⊎_elim
      (λ (before : k < n). are.all k before is)
      (λ (from : n ≤ k). let last : n ≡ k = omega arith in absurd (false≢true (same_Some false true (sym at ∙ ap (slice_get live) last ∙ is))))
      (cases_lt k n);
})
