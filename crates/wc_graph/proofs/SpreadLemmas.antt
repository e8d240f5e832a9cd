-- Marks spread along lists of neighbours.
use Rattle.std.proofs.Common.{ℕ, zero, suc, ◌≡◌, ◌≢◌, ◌+◌, ◌<◌, ◌⊎◌, inl, inr, ⊎_elim, Bool, true, false, List, [], ◌∷◌, ◌++◌, Some, length, set, get_or, refl, sym, ap, subst, ◌∙◌, arith}
use Rattle.std.specs.List.{slice_get}
use Rattle.std.proofs.lemmas.List.{length_push, length-set}
use Rattle.std.proofs.lemmas.Option.{none-some, same_Some, slice_get_within}
use Rattle.std.proofs.lemmas.Bool.{false≢true}
use Rattle.wc_model.proofs.Places.{get_set, get_set_cases, get_set_other}
use Rattle.wc_graph.specs.declared.live.Marked.{Marked}
use Rattle.wc_graph.specs.Inner.Lists.{Has}
use Rattle.wc_graph.specs.Inner.Spreads.{IsMarked, unmarked, IsUnmarked, Marks, Spread, begins, goes, IsSpreading, IsSpread}
use Rattle.wc_graph.proofs.RisingLemmas.{has_append, append_has}

unmarked_set : (marks : List Bool) (k : ℕ) → slice_get marks k ≡ Some false → unmarked (set marks k true) + 1 ≡ unmarked marks
unmarked_set [] k at = absurd (none-some false at)
unmarked_set (b ∷ marks) zero at = ap (λ c. unmarked (true ∷ marks) + 1) (same_Some b false at) ∙ ap (λ c. unmarked (c ∷ marks)) (sym (same_Some b false at))
unmarked_set (true ∷ marks) (suc k) at = unmarked_set marks k at
unmarked_set (false ∷ marks) (suc k) at = omega (arith, unmarked_set marks k at)

false_true : (marks : List Bool) (k : ℕ) → slice_get marks k ≡ Some false → IsMarked marks k → ⊥
false_true marks k at is = false≢true (same_Some false true (sym at ∙ is))

pub at_has : {X : Type 0} (xs : List X) (i : ℕ) (d : X) → i < length xs → Has xs (get_or xs i d)
at_has [] i d less = absurd (omega arith)
at_has (x ∷ xs) zero d less = inl refl
at_has (x ∷ xs) (suc i) d less = inr (at_has xs i d (omega arith))

pub marks_none : (marked : Marked) → Marks [] marked marked
marks_none marked = record {
  count = refl;
  stays = λ k is. is;
  from = λ k is. inl is;
  all = λ k none. absurd none;
  waits = λ k is. inl is;
  work_stays = λ k is. is;
  work_from = λ k is. inl is;
  left = omega arith;
}

pub marks_more : (xs ys : List ℕ) (a b c : Marked) → Marks xs a b → Marks ys b c → Marks (xs ++ ys) a c
marks_more xs ys a b c one two = record {
  count = two.count ∙ one.count;
  stays = λ k is. two.stays k (one.stays k is);
  from = λ k is. ⊎_elim
      (λ (mid : IsMarked b.marks.items k). ⊎_elim (λ (old : IsMarked a.marks.items k). inl old) (λ (new : Has xs k). inr (append_has xs ys k (inl new))) (one.from k mid))
      (λ (new : Has ys k). inr (append_has xs ys k (inr new)))
      (two.from k is);
  all = λ k has. ⊎_elim (λ (left : Has xs k). two.stays k (one.all k left)) (λ (right : Has ys k). two.all k right) (has_append xs ys k has);
  waits = λ k is. ⊎_elim
      (λ (mid : IsMarked b.marks.items k). ⊎_elim (λ (old : IsMarked a.marks.items k). inl old) (λ (waits : Has b.work.items k). inr (two.work_stays k waits)) (one.waits k mid))
      (λ (waits : Has c.work.items k). inr waits)
      (two.waits k is);
  work_stays = λ k is. two.work_stays k (one.work_stays k is);
  work_from = λ k is. ⊎_elim
      (λ (mid : Has b.work.items k). ⊎_elim (λ (old : Has a.work.items k). inl old) (λ (new : Has xs k). inr (append_has xs ys k (inl new))) (one.work_from k mid))
      (λ (new : Has ys k). inr (append_has xs ys k (inr new)))
      (two.work_from k is);
  left = omega (arith, one.left, two.left);
}

-- one number
pub marks_same : (marked : Marked) (n : ℕ) → IsMarked marked.marks.items n → Marks (n ∷ []) marked marked
marks_same marked n is = record {
  count = refl;
  stays = λ k at. at;
  from = λ k at. inl at;
  all = λ k has. one k has;
  waits = λ k at. inl at;
  work_stays = λ k at. at;
  work_from = λ k at. inl at;
  left = omega arith;
}
  where
    one : (k : ℕ) → Has (n ∷ []) k → IsMarked marked.marks.items k
    one k (inl same) = subst (IsMarked marked.marks.items) same is
    one k (inr none) = absurd none

pub marks_one : (old new : Marked) (n : ℕ) → slice_get old.marks.items n ≡ Some false → new.marks.items ≡ set old.marks.items n true → new.work.items ≡ old.work.items ++ n ∷ [] → Marks (n ∷ []) old new
marks_one old new n at marks work = record {
  count = ap length marks ∙ length-set old.marks.items n true;
  stays = λ k is. subst (λ (xs : List Bool). IsMarked xs k) (sym marks) (get_set_other old.marks.items n k true true (λ same. false_true old.marks.items k (subst (λ (i : ℕ). slice_get old.marks.items i ≡ Some false) (sym same) at) is) is);
  from = λ k is. ⊎_elim
      (λ (here : (k ≡ n) × (true ≡ true)). inr (inl (sym here.0)))
      (λ (other : (k ≢ n) × (slice_get old.marks.items k ≡ Some true)). inl other.1)
      (get_set_cases old.marks.items n k true true (subst (λ (xs : List Bool). IsMarked xs k) marks is));
  all = λ k has. one k has;
  waits = λ k is. ⊎_elim
      (λ (here : (k ≡ n) × (true ≡ true)). inr (subst (λ (xs : List ℕ). Has xs k) (sym work) (append_has old.work.items (n ∷ []) k (inr (inl (sym here.0))))))
      (λ (other : (k ≢ n) × (slice_get old.marks.items k ≡ Some true)). inl other.1)
      (get_set_cases old.marks.items n k true true (subst (λ (xs : List Bool). IsMarked xs k) marks is));
  work_stays = λ k is. subst (λ (xs : List ℕ). Has xs k) (sym work) (append_has old.work.items (n ∷ []) k (inl is));
  work_from = λ k is. has_append old.work.items (n ∷ []) k (subst (λ (xs : List ℕ). Has xs k) work is);
  left = omega (arith, ap unmarked marks, unmarked_set old.marks.items n at, ap length work, length_push old.work.items n);
}
  where
    one : (k : ℕ) → Has (n ∷ []) k → IsMarked new.marks.items k
    one k (inl same) = subst (λ (xs : List Bool). IsMarked xs k) (sym marks) (subst (λ (i : ℕ). slice_get (set old.marks.items n true) i ≡ Some true) same (get_set old.marks.items n true (slice_get_within old.marks.items n false at)))
    one k (inr none) = absurd none

-- the search
module _ (into : List (List ℕ)) (from : List ℕ) where
  pub spread_begins : (old new : Marked) → IsUnmarked (length into) old → Marks from old new → IsSpreading into from new
  spread_begins old new none marks = record {
    count = marks.count ∙ none.counted;
    sound = λ k is. begins k (new_of k is);
    started = marks.all;
    closed = λ k j v is at has. inr (⊎_elim (λ (was : IsMarked old.marks.items k). absurd (none.none k was)) (λ (waits : Has new.work.items k). waits) (marks.waits k is));
    waiting = λ k waits. ⊎_elim (λ (was : Has old.work.items k). absurd (subst (λ (xs : List ℕ). Has xs k) none.rests was)) (λ (has : Has from k). marks.all k has) (marks.work_from k waits);
  }
    where
      new_of : (k : ℕ) → IsMarked new.marks.items k → Has from k
      new_of k is = ⊎_elim (λ (was : IsMarked old.marks.items k). absurd (none.none k was)) (λ (has : Has from k). has) (marks.from k is)

  -- the neighbours of one that waited are marked
  pub spread_on : (old mid new : Marked) (n : ℕ) (v : List ℕ) → mid.marks.items ≡ old.marks.items → old.work.items ≡ mid.work.items ++ n ∷ [] → slice_get into n ≡ Some v → IsSpreading into from old → Marks v mid new → IsSpreading into from new
  spread_on old mid new n v same work at s marks = record {
    count = marks.count ∙ ap length same ∙ s.count;
    sound = λ k is. ⊎_elim
        (λ (was : IsMarked mid.marks.items k). s.sound k (back k was))
        (λ (has : Has v k). goes k v (s.sound n n_marked) at has)
        (marks.from k is);
    started = λ k has. marks.stays k (forth k (s.started k has));
    closed = λ k j w is at_k has. ⊎_elim
        (λ (was : IsMarked mid.marks.items k). ⊎_elim
        (λ (done : IsMarked old.marks.items j). inl (marks.stays j (forth j done)))
        (λ (waits : Has old.work.items k). ⊎_elim
        (λ (still : Has mid.work.items k). inr (marks.work_stays k still))
        (λ (now : (n ≡ k) ⊎ ⊥). inl (own k j w now at_k has))
        (has_append mid.work.items (n ∷ []) k (subst (λ (xs : List ℕ). Has xs k) work waits)))
        (s.closed k j w (back k was) at_k has))
        (λ (waits : Has new.work.items k). inr waits)
        (marks.waits k is);
    waiting = λ k waits. ⊎_elim
        (λ (was : Has mid.work.items k). marks.stays k (forth k (s.waiting k (subst (λ (xs : List ℕ). Has xs k) (sym work) (append_has mid.work.items (n ∷ []) k (inl was))))))
        (λ (has : Has v k). marks.all k has)
        (marks.work_from k waits);
  }
    where
      back : (k : ℕ) → IsMarked mid.marks.items k → IsMarked old.marks.items k
      back k is = subst (λ (xs : List Bool). IsMarked xs k) same is

      forth : (k : ℕ) → IsMarked old.marks.items k → IsMarked mid.marks.items k
      forth k is = subst (λ (xs : List Bool). IsMarked xs k) (sym same) is

      n_marked : IsMarked old.marks.items n
      n_marked = s.waiting n (subst (λ (xs : List ℕ). Has xs n) (sym work) (append_has mid.work.items (n ∷ []) n (inr (inl refl))))

      own : (k j : ℕ) (w : List ℕ) → (n ≡ k) ⊎ ⊥ → slice_get into k ≡ Some w → Has w j → IsMarked new.marks.items j
      own k j w (inl here) at_k has = marks.all j (subst (λ (x : List ℕ). Has x j) (same_Some w v (sym at_k ∙ ap (slice_get into) (sym here) ∙ at)) has)
      own k j w (inr none) at_k has = absurd none

  module _ (marked : Marked) (rests : marked.work.items ≡ []) (s : IsSpreading into from marked) where
    reached : {k : ℕ} → Spread into from k → IsMarked marked.marks.items k
    reached (begins k has) = s.started k has
    reached (goes {k = j} k v way at has) = ⊎_elim
        (λ (is : IsMarked marked.marks.items k). is)
        (λ (waits : Has marked.work.items j). absurd (subst (λ (xs : List ℕ). Has xs j) rests waits))
        (s.closed j k v (reached way) at has)

    pub spread_ends : IsSpread into from marked.marks.items
    spread_ends = record { count = s.count; is = λ k. (s.sound k, λ way. reached way) }

pub last_has : {X : Type 0} (xs : List X) (x : X) → Has (xs ++ x ∷ []) x
last_has xs x = append_has xs (x ∷ []) x (inr (inl refl))

pub no_rest : (xs : List ℕ) (n : ℕ) → n ≡ length xs → (0 < n → false ≡ true) → xs ≡ []
no_rest [] n count none = refl
no_rest (x ∷ xs) n count none = absurd (false≢true (none (omega (arith, count))))

pub number_within : (into : List (List ℕ)) (from : List ℕ) (marked : Marked) (n : ℕ) → IsSpreading into from marked → Has marked.work.items n → n < length into
number_within into from marked n s has = let less : n < length marked.marks.items = slice_get_within marked.marks.items n true (s.waiting n has) in omega (arith, less, s.count)
