-- The queue of the nodes that wait.
use Rattle.std.proofs.Common.{ℕ, ◌≡◌, ◌≢◌, ◌<◌, ⊎_elim, Bool, true, false, List, [], ◌∷◌, All, length, get_or, set, replicate, refl, sym, ap, subst, ◌∙◌, arith, length-set}
use Rattle.std.specs.List.{Contains}
use Rattle.std.specs.List.Sorted.{IsPermutation}
use Rattle.std.proofs.lemmas.Bool.{true≢false, false≢true}
use Rattle.std.proofs.lemmas.List.Elements.{All-cons, All-tail}
use Rattle.std.proofs.lemmas.List.Sorted.{All-permutation, Contains-permutation}
use Rattle.wc_fix.specs.Inner.Queues.{Waits, IsIdle, IsQueue}
use Rattle.wc_fix.proofs.RaisingLemmas.{waits_news, waits_off, no_flag, contains_head, contains_tail, contains_cons, contains_nothing}

pub queue_begins : (n : ℕ) → IsQueue (replicate n false) []
queue_begins n = record {
  has = λ p waits. absurd (false≢true (sym (no_flag n p) ∙ waits));
  inside = λ k d within. absurd (omega arith);
}

pub queue_added : (waiting : List Bool) (node : ℕ) (old new : List ℕ) → node < length waiting → IsPermutation (node ∷ old) new → IsQueue waiting old → IsQueue (set waiting node true) new
queue_added waiting node old new within moved queue = record {
  has = λ p waits. Contains-permutation (node ∷ old) new p moved (⊎_elim
      (λ (was : Waits waiting p). contains_tail node old p (queue.has p was))
      (λ (same : p ≡ node). subst (λ (n : ℕ). Contains (node ∷ old) n) (sym same) (contains_head node old))
      (waits_news waiting node p waits));
  inside = subst (λ (n : ℕ). All (λ p. p < n) new) (sym (length-set waiting node true))
      (All-permutation (λ (p : ℕ). p < length waiting) (node ∷ old) new moved (All-cons (λ (p : ℕ). p < length waiting) node old within queue.inside));
}

module _ (waiting : List Bool) (node : ℕ) (old new : List ℕ) (moved : IsPermutation old (node ∷ new)) (queue : IsQueue waiting old) where
  pub first_inside : node < length waiting
  first_inside = All-permutation (λ (p : ℕ). p < length waiting) old (node ∷ new) moved queue.inside 0 0 (omega arith)

  rest_inside : All (λ p. p < length waiting) new
  rest_inside = All-tail (λ (p : ℕ). p < length waiting) node new (All-permutation (λ (p : ℕ). p < length waiting) old (node ∷ new) moved queue.inside)

  rest_has : (p : ℕ) → p ≢ node → Waits waiting p → Contains new p
  rest_has p apart waits = ⊎_elim
      (λ (same : node ≡ p). absurd (apart (sym same)))
      (λ (among : Contains new p). among)
      (contains_cons node new p (Contains-permutation old (node ∷ new) p moved (queue.has p waits)))

  -- the node at the front waited
  pub queue_taken : IsQueue (set waiting node false) new
  queue_taken = record {
    has = λ p waits. let was = waits_off waiting node p first_inside waits in rest_has p was.0 was.1;
    inside = subst (λ (n : ℕ). All (λ p. p < n) new) (sym (length-set waiting node false)) rest_inside;
  }

  -- it didn't
  pub queue_passed : get_or waiting node false ≡ false → IsQueue waiting new
  queue_passed idle = record {
    has = λ p waits. rest_has p (λ (same : p ≡ node). absurd (true≢false (sym waits ∙ ap (λ (n : ℕ). get_or waiting n false) same ∙ idle))) waits;
    inside = rest_inside;
  }

pub queue_ends : (waiting : List Bool) → IsQueue waiting [] → IsIdle waiting
queue_ends waiting queue p = idle (get_or waiting p false) (λ waits. contains_nothing p (queue.has p waits))
  where
    idle : (b : Bool) → (b ≡ true → ⊥) → b ≡ false
    idle true not = absurd (not refl)
    idle false not = refl
