-- An edit that touches none of some parts leaves inputs that agree on all of them.
use Rattle.std.proofs.Common.{◌≡◌, ℕ, Bool, true, false, not, ◌||◌, ◌==◌, List, [], ◌∷◌, ◌++◌, cond, refl, sym, ap, ◌∙◌}
use Rattle.std.specs.List.{filter}
use Rattle.std.proofs.lemmas.List.{append-nil}
use Rattle.std.proofs.lemmas.List.Elements.{filter-append}
use Rattle.wc_model.specs.declared.flow_facts.Fact.{Fact}
use Rattle.wc_model.specs.declared.inputs.Edit.{Edit}
use Rattle.wc_model.specs.declared.inputs.Edit.TheVariants.{Add, Drop, Hardware as Timing}
use Rattle.wc_model.specs.declared.kinds.Part.{Part}
use Rattle.wc_model.specs.declared.kinds.Part.TheVariants.{Steer, Loops, Limits, Cache as CachePart, Cycles as CyclesPart}
use Rattle.wc_model.specs.Workspace.Closures.{touches_any}
use Rattle.wc_model.specs.Workspace.Edits.{Setting, edited, touches, touches_fact, belongs, fact_numbered, without_number, AgreeOn, AgreeOnAll}
use Rattle.wc_model.proofs.HardwareLemmas.{cycles_same, caches_same}

added : (part : Part) (facts : List (ℕ × Fact)) (n : ℕ) (fact : Fact) → belongs part fact ≡ false
    → filter (λ (f : ℕ × Fact). belongs part f.1) facts ≡ filter (λ (f : ℕ × Fact). belongs part f.1) (facts ++ (n, fact) ∷ [])
added part facts n fact other =
    let single : filter (λ (f : ℕ × Fact). belongs part f.1) ((n, fact) ∷ []) ≡ [] = rw other refl in
    sym (filter-append (λ (f : ℕ × Fact). belongs part f.1) facts ((n, fact) ∷ [])
    ∙ ap (λ l. filter (λ (f : ℕ × Fact). belongs part f.1) facts ++ l) single
    ∙ append-nil _)

dropped_case : (part : Part) (f : ℕ × Fact) (facts : List (ℕ × Fact)) (number : ℕ) (same : Bool) → (f.0 == number) ≡ same
    → touches_fact part (fact_numbered number (f ∷ facts)) ≡ false
    → (touches_fact part (fact_numbered number facts) ≡ false → filter (λ (f : ℕ × Fact). belongs part f.1) facts ≡ filter (λ (f : ℕ × Fact). belongs part f.1) (without_number number facts))
    → filter (λ (f : ℕ × Fact). belongs part f.1) (f ∷ facts) ≡ filter (λ (f : ℕ × Fact). belongs part f.1) (without_number number (f ∷ facts))
dropped_case part f facts number true is other rest = rw is (rw (rw is at other) refl)
dropped_case part f facts number false is other rest =
    rw is (ap (λ l. cond (belongs part f.1) (f ∷ l) l) (rest (rw is at other)))

dropped : (part : Part) (facts : List (ℕ × Fact)) (number : ℕ) → touches_fact part (fact_numbered number facts) ≡ false
    → filter (λ (f : ℕ × Fact). belongs part f.1) facts ≡ filter (λ (f : ℕ × Fact). belongs part f.1) (without_number number facts)
dropped part [] number other = refl
dropped part (f ∷ facts) number other = dropped_case part f facts number (f.0 == number) refl other (λ rest. dropped part facts number rest)

same_of_not : (b : Bool) → not b ≡ false → b ≡ true
same_of_not true p = refl
same_of_not false p = cc

agree_on : (n : ℕ) (s : Setting) (e : Edit) (part : Part) → touches part s e ≡ false → AgreeOn s (edited n s e) part
agree_on n s (Add fact) Steer p = added Steer s.facts n fact p
agree_on n s (Add fact) Loops p = added Loops s.facts n fact p
agree_on n s (Add fact) Limits p = added Limits s.facts n fact p
agree_on n s (Drop number) Steer p = dropped Steer s.facts number p
agree_on n s (Drop number) Loops p = dropped Loops s.facts number p
agree_on n s (Drop number) Limits p = dropped Limits s.facts number p
agree_on n s (Timing hardware) Steer p = refl
agree_on n s (Timing hardware) Loops p = refl
agree_on n s (Timing hardware) Limits p = refl
agree_on n s (Add fact) CyclesPart p = refl
agree_on n s (Drop number) CyclesPart p = refl
agree_on n s (Timing hardware) CyclesPart p = cycles_same s.hardware.cycles hardware.cycles (same_of_not _ p)
agree_on n s (Add fact) CachePart p = refl
agree_on n s (Drop number) CachePart p = refl
agree_on n s (Timing hardware) CachePart p = caches_same s.hardware.cache hardware.cache (same_of_not _ p)

or_left : (a b : Bool) → (a || b) ≡ false → a ≡ false
or_left false b p = refl
or_left true b p = p

or_right : (a b : Bool) → (a || b) ≡ false → b ≡ false
or_right false b p = p
or_right true b p = cc

pub same_image : (n : ℕ) (s : Setting) (e : Edit) → s.image ≡ (edited n s e).image
same_image n s (Add fact) = refl
same_image n s (Drop number) = refl
same_image n s (Timing hardware) = refl

pub agree_untouched : (n : ℕ) (s : Setting) (e : Edit) (parts : List Part) → touches_any parts s e ≡ false → AgreeOnAll s (edited n s e) parts
agree_untouched n s e [] p = same_image n s e
agree_untouched n s e (part ∷ parts) p = (agree_on n s e part (or_left _ _ p), agree_untouched n s e parts (or_right (touches part s e) _ p))
