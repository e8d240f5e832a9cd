-- The flags that are written are those of the most precise solution.
use Rattle.std.proofs.Common.{ℕ, zero, suc, ◌≡◌, ◌≢◌, ◌<◌, ◌≤◌, ◌+◌, ◌%◌, ◌==◌, ◌⊎◌, inl, inr, ⊎_elim, Bool, true, false, if◌then◌else◌, List, [], ◌∷◌, Option, None, Some, length, get_or, map, refl, sym, ap, subst, ◌∙◌, arith}
use Rattle.std.specs.Prelude.{nat_lt}
use Rattle.std.specs.List.{Contains}
use Rattle.std.specs.List.Sorted.{IsStrictlyIncreasing}
use Rattle.std.proofs.lemmas.Bool.{cases_eq, cases_lt}
use Rattle.std.proofs.lemmas.Bool.Decides.{nat_tests}
use Rattle.std.proofs.lemmas.List.{get_or-map, get_or_default}
use Rattle.std.proofs.lemmas.Option.{none-some, same_Some, slice_get_within, slice_get-get_or, get_or_from_slice_get}
use Rattle.wc_ages.specs.States.{MustHeld, MayHeld, must_ages, may_ages, holds_line}
use Rattle.wc_model.specs.declared.graphs.Graph.{Graph}
use Rattle.wc_model.specs.declared.graphs.Node.{Node}
use Rattle.wc_model.specs.declared.machine.Cache.{Cache}
use Rattle.wc_model.specs.Cache.Ages.{Ages, Sets, IsMostPrecise, MustPrecise, MayPrecise, must_accessed, may_accessed, no_line, no_lines, accesses}
use Rattle.wc_model.specs.Cache.Lines.{line_of}
use Rattle.wc_model.specs.Program.Graphs.{IsGraph}
use Rattle.wc_mustmay.specs.declared.one_set.Analysis.{Analysis}
use Rattle.wc_mustmay.specs.declared.one_set.Analysis.TheVariants.{Must, May}
use Rattle.wc_mustmay.specs.Inner.Names.{AreNamed, IsName}
use Rattle.wc_mustmay.specs.Inner.OneSet.{of_set, own_access, precise_of, accessed_of, new_flag, AreOwnFlags, KeepsOthers, AreAllFlags, AreSomeFlags, HasSets, AreFlagsBy}
use Rattle.wc_mustmay.proofs.NameLemmas.{by_line, place_at, most_by_line}
use Rattle.wc_mustmay.proofs.SetLemmas.{laws_refl, laws_trans, own_at, most_together, most_still}

flag_there : {L : Type 0} (ages : L → Ages) (state : Option L) (line : Option ℕ) (a : L) (l : ℕ) (old : Bool) → state ≡ Some a → line ≡ Some l → new_flag ages state line old ≡ holds_line (ages a) l
flag_there ages state line a l old is at = ap (λ x. new_flag ages x line old) is ∙ ap (λ (y : Option ℕ). new_flag ages (Some a) y old) at

named_as : (names : List ℕ) (x name : Option ℕ) (line : ℕ) → x ≡ Some line → IsName names x name → (k : ℕ) × (name ≡ Some k) × (k < length names) × (get_or names k 0 ≡ line)
named_as names None name line is called = absurd (none-some line is)
named_as names (Some l) name line is called = (called.0, called.1, called.2, called.3 ∙ same_Some l line is)

pub must_flags : (graph : Graph) (ways : ℕ) (own : List (Option ℕ)) (first : MustHeld) (states read : List (Option MustHeld)) (old new : List Bool)
    → (solution : ℕ → Ages) → IsMostPrecise MustPrecise must_accessed graph.steps own graph.start (must_ages first) (length graph.nodes) solution
    → ((p : ℕ) → p < length graph.nodes → (a : MustHeld) × (get_or states p None ≡ Some a) × (must_ages a ≡ solution p)) → must_ages first ≡ no_lines ways → read ≡ states → length old ≡ length graph.nodes
    → ((p : ℕ) → p < length old → get_or new p false ≡ new_flag must_ages (get_or read p None) (get_or own p None) (get_or old p false)) → AreOwnFlags Must ways graph own new
must_flags graph ways own first states read old new solution most each empty is count written = record {
  states = solution;
  most = subst (λ (a : Ages). IsMostPrecise MustPrecise must_accessed graph.steps own graph.start a (length graph.nodes) solution) empty most;
  each = λ p line within at.
      let held = each p within in
      written p (omega (arith, count, within)) ∙ flag_there must_ages (get_or read p None) (get_or own p None) held.0 line (get_or old p false) (ap (λ xs. get_or xs p None) is ∙ held.1) at
      ∙ ap (λ (a : Ages). holds_line a line) held.2;
}

pub may_flags : (graph : Graph) (ways : ℕ) (own : List (Option ℕ)) (names names_read : List ℕ) (named fetched written_named : List (Option ℕ)) (first : MayHeld) (states read : List (Option MayHeld)) (old new : List Bool)
    → IsStrictlyIncreasing names → names_read ≡ names → AreNamed names_read own named → fetched ≡ named → written_named ≡ named
    → (solution : ℕ → Ages) → IsMostPrecise MayPrecise may_accessed graph.steps fetched graph.start (may_ages first) (length graph.nodes) solution
    → ((p : ℕ) → p < length graph.nodes → (a : MayHeld) × (get_or states p None ≡ Some a) × (may_ages a ≡ solution p)) → may_ages first ≡ no_lines ways → read ≡ states → length old ≡ length graph.nodes
    → ((p : ℕ) → p < length old → get_or new p false ≡ new_flag may_ages (get_or read p None) (get_or written_named p None) (get_or old p false)) → AreOwnFlags May ways graph own new
may_flags graph ways own names names_read named fetched written_named first states read old new rising names_are are_named fetched_is written_is solution solved each empty is count written =
    let called : AreNamed names own named = subst (λ (ns : List ℕ). AreNamed ns own named) names_are are_named in
    let most : IsMostPrecise MayPrecise may_accessed graph.steps named graph.start (no_lines ways) (length graph.nodes) solution =
    subst (λ (a : Ages). IsMostPrecise MayPrecise may_accessed graph.steps named graph.start a (length graph.nodes) solution) empty
    (subst (λ (xs : List (Option ℕ)). IsMostPrecise MayPrecise may_accessed graph.steps xs graph.start (may_ages first) (length graph.nodes) solution) fetched_is solved) in
    record {
      states = λ p. by_line names (solution p);
      most = most_by_line names rising graph.steps own named graph.start ways called.each (length graph.nodes) solution most;
      each = λ p line within at.
          let held = each p within in
          let name = named_as names (get_or own p None) (get_or named p None) line at (called.each p) in
          let k : ℕ = name.0 in
          written p (omega (arith, count, within))
          ∙ flag_there may_ages (get_or read p None) (get_or written_named p None) held.0 k (get_or old p false) (ap (λ xs. get_or xs p None) is ∙ held.1) (ap (λ xs. get_or xs p None) written_is ∙ name.1)
          ∙ ap (λ (a : Ages). holds_line a k) held.2
          ∙ ap (λ (n : ℕ). nat_lt ((solution p).age n) (solution p).ways) (sym (place_at names rising k line name.2 name.3));
    }

-- All sets.

-- whose set it isn't
own_yes : (sets s line : ℕ) (x : Option ℕ) → of_set sets s x ≡ Some line → (x ≡ Some line) × (s ≡ line % sets)
own_yes sets s line None is = absurd (none-some line is)
own_yes sets s line (Some l) is = test_yes (s == l % sets) l line (λ same. equal s (l % sets) same) is
  where
    equal : (n y : ℕ) → (n == y) ≡ true → n ≡ y
    equal n y same = grind (arith, nat_tests)

    test_yes : (b : Bool) (l line : ℕ) → (b ≡ true → s ≡ l % sets) → (if b then Some l else None) ≡ Some line → (Some l ≡ Some line) × (s ≡ line % sets)
    test_yes true l line same is = (is, same refl ∙ ap (λ (n : ℕ). n % sets) (same_Some l line is))
    test_yes false l line same is = absurd (none-some line is)

own_no : (sets s : ℕ) (x : Option ℕ) → ((line : ℕ) → x ≡ Some line → s ≡ line % sets → ⊥) → of_set sets s x ≡ None
own_no sets s None not = refl
own_no sets s (Some l) not = ap (λ (b : Bool). if b then Some l else None) (unequal s (l % sets) (not l refl))
  where
    unequal : (n y : ℕ) → (n ≡ y → ⊥) → (n == y) ≡ false
    unequal n y other = grind (arith, nat_tests)

own_mine : (sets line : ℕ) (x : Option ℕ) → x ≡ Some line → of_set sets (line % sets) x ≡ Some line
own_mine sets line x is = ap (of_set sets (line % sets)) is ∙ ap (λ (b : Bool). if b then Some line else None) (same (line % sets))
  where
    same : (n : ℕ) → (n == n) ≡ true
    same n = grind (arith, nat_tests)

-- another set's flags stay
kept_flags : (analysis : Analysis) (ways sets : ℕ) (graph : Graph) (access : List (Option ℕ)) (s t : ℕ) (old new : List Bool) → KeepsOthers (own_access sets s access) old new → s ≢ t
    → AreOwnFlags analysis ways graph (own_access sets t access) old → AreOwnFlags analysis ways graph (own_access sets t access) new
kept_flags analysis ways sets graph access s t old new others apart flags = record {
  states = flags.states;
  most = flags.most;
  each = λ p line within at.
      let mine = own_yes sets t line (get_or access p None) (sym (own_at sets t access p) ∙ at) in
      let none : get_or (own_access sets s access) p None ≡ None = own_at sets s access p ∙ own_no sets s (get_or access p None) (λ l is same. apart (same ∙ ap (λ (n : ℕ). n % sets) (same_Some l line (sym is ∙ mine.0)) ∙ sym mine.1)) in
      others p none ∙ flags.each p line within at;
}

pub more_flags : (analysis : Analysis) (ways sets : ℕ) (graph : Graph) (access : List (Option ℕ)) (met : List ℕ) (i : ℕ) (own : List (Option ℕ)) (old new : List Bool)
    → own ≡ own_access sets (get_or met i 0) access → length new ≡ length old → AreOwnFlags analysis ways graph own new → KeepsOthers own old new
    → AreSomeFlags analysis ways sets graph access met i old → AreSomeFlags analysis ways sets graph access met (i + 1) new
more_flags analysis ways sets graph access met i own old new own_is long mine others some =
    let here : AreOwnFlags analysis ways graph (own_access sets (get_or met i 0) access) new = subst (λ (xs : List (Option ℕ)). AreOwnFlags analysis ways graph xs new) own_is mine in
    let rest : KeepsOthers (own_access sets (get_or met i 0) access) old new = subst (λ (xs : List (Option ℕ)). KeepsOthers xs old new) own_is others in
    record {
      count = long ∙ some.count;
      done = λ k below. ⊎_elim
          (λ (same : get_or met i 0 ≡ get_or met k 0). subst (λ (s : ℕ). AreOwnFlags analysis ways graph (own_access sets s access) new) same here)
          (λ (apart : get_or met i 0 ≢ get_or met k 0). kept_flags analysis ways sets graph access (get_or met i 0) (get_or met k 0) old new rest apart (some.done k (earlier k i met apart below)))
          (cases_eq (get_or met i 0) (get_or met k 0));
    }
  where
    earlier : (k i : ℕ) (met : List ℕ) → get_or met i 0 ≢ get_or met k 0 → k < i + 1 → k < i
    earlier k i met apart below = ⊎_elim (λ (less : k < i). less) (λ (more : i ≤ k). absurd (apart (ap (λ (n : ℕ). get_or met n 0) (let e : i ≡ k = omega arith in e)))) (cases_lt k i)

contains_or : (xs : List ℕ) (y : ℕ) → Contains xs y ⊎ (Contains xs y → ⊥)
contains_or [] y = inr (λ among. omega (arith, among.1))
contains_or (x ∷ xs) y = ⊎_elim
    (λ (same : x ≡ y). inl (0, omega arith, same))
    (λ (other : x ≢ y). ⊎_elim
    (λ (among : Contains xs y). inl (suc among.0, omega (arith, among.1), among.2))
    (λ (none : Contains xs y → ⊥). inr (λ among. neither x xs y other none among))
    (contains_or xs y))
    (cases_eq x y)
  where
    neither : (x : ℕ) (xs : List ℕ) (y : ℕ) → x ≢ y → (Contains xs y → ⊥) → Contains (x ∷ xs) y → ⊥
    neither x xs y other none (zero, within, is) = other is
    neither x xs y other none (suc k, within, is) = none (k, omega arith, is)

pub all_flags : (analysis : Analysis) (ways sets : ℕ) (graph : Graph) (access : List (Option ℕ)) (met : List ℕ) (i : ℕ) (flags : List Bool) → IsGraph graph → HasSets sets access met → length met ≤ i
    → AreSomeFlags analysis ways sets graph access met i flags → AreAllFlags analysis ways sets graph access flags
all_flags analysis ways sets graph access met i flags is_graph has all some s = ⊎_elim
    (λ (among : Contains met s).
    let k : ℕ = among.0 in
    let at : get_or met k 0 ≡ s = get_or_default met k 0 s among.1 ∙ among.2 in
    subst (λ (t : ℕ). AreOwnFlags analysis ways graph (own_access sets t access) flags) at (some.done k (omega (arith, among.1, all))))
    (λ (missing : Contains met s → ⊥).
    let none : (p : ℕ) → get_or (own_access sets s access) p None ≡ None = λ p.
    own_at sets s access p ∙ own_no sets s (get_or access p None) (λ line is same. missing (subst (Contains met) (sym same) (has p line is))) in
    record {
      states = λ _. no_lines ways;
      most = most_still (precise_of analysis) (accessed_of analysis) (laws_refl analysis) (laws_trans analysis) graph.steps (own_access sets s access) graph.start (no_lines ways) none (length graph.nodes) (λ p within. (is_graph.live p within).0);
      each = λ p line within at. absurd (none-some line (sym (none p) ∙ at));
    })
    (contains_or met s)

-- the lines of the graph's nodes
lines_are : (f : Node → ℕ) (nodes : List Node) → map Some (map f nodes) ≡ map (λ n. Some (f n)) nodes
lines_are f [] = refl
lines_are f (n ∷ nodes) = ap (λ (xs : List (Option ℕ)). Some (f n) ∷ xs) (lines_are f nodes)

pub accesses_are : (graph : Graph) (cache : Cache) (line : List ℕ) → line ≡ map (λ (n : Node). line_of cache n.pc) graph.nodes → map Some line ≡ accesses graph cache
accesses_are graph cache line is = ap (map Some) is ∙ lines_are (λ (n : Node). line_of cache n.pc) graph.nodes

pub flags_together : (analysis : Analysis) (graph : Graph) (cache : Cache) (access : List (Option ℕ)) (flags : List Bool) → access ≡ accesses graph cache → length flags ≡ length graph.nodes
    → AreAllFlags analysis cache.ways cache.sets graph access flags → AreFlagsBy analysis graph cache flags
flags_together analysis graph cache access flags is count all =
    let own : AreAllFlags analysis cache.ways cache.sets graph (accesses graph cache) flags = subst (λ (xs : List (Option ℕ)). AreAllFlags analysis cache.ways cache.sets graph xs flags) is all in
    let states : ℕ → Sets = λ p s. (own s).states p in (
      states,
      most_together (precise_of analysis) (accessed_of analysis) cache.sets graph.steps (accesses graph cache) graph.start (no_line cache.ways) (length graph.nodes) (λ s. (own s).states) (λ s. (own s).most),
      record {
        count = count;
        each = λ p n there.
            let within : p < length graph.nodes = slice_get_within graph.nodes p n there in
            let line : ℕ = line_of cache n.pc in
            let fetches : get_or (accesses graph cache) p None ≡ Some line =
            get_or-map (λ (m : Node). Some (line_of cache m.pc)) graph.nodes p n None within ∙ ap (λ (m : Node). Some (line_of cache m.pc)) (get_or_from_slice_get graph.nodes p n n there) in
            let mine : get_or (own_access cache.sets (line % cache.sets) (accesses graph cache)) p None ≡ Some line = own_at cache.sets (line % cache.sets) (accesses graph cache) p ∙ own_mine cache.sets line (get_or (accesses graph cache) p None) fetches in
            slice_get-get_or flags p false (omega (arith, count, within)) ∙ ap Some ((own (line % cache.sets)).each p line within mine);
      },
    )
