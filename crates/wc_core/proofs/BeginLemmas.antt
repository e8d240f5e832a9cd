-- The opening edits, one after the other.
use Rattle.std.proofs.Common.{◌≡◌, ℕ, zero, suc, ◌+◌, ◌<◌, ◌≤◌, Bool, true, false, List, [], ◌∷◌, ◌++◌, length, map, take, get_or, if◌then◌else◌, refl, sym, ap, ap₂, subst, ◌∙◌, append_assoc, arith, add-one}
use Rattle.std.specs.List.{All, list_any}
use Rattle.std.proofs.lemmas.List.Elements.{All-cons, All-head, All-nil, All-tail}
use Rattle.wc_model.specs.declared.elf_image.Image.{Image}
use Rattle.wc_model.specs.declared.entries.Entry.{Entry}
use Rattle.wc_model.specs.declared.entries.Entry.TheVariants.{Edit as EditEntry}
use Rattle.wc_model.specs.declared.flow_facts.Fact.{Fact}
use Rattle.wc_model.specs.declared.inputs.Edit.{Edit}
use Rattle.wc_model.specs.declared.inputs.Edit.TheVariants.{Add}
use Rattle.wc_model.specs.declared.kinds.Describe.{Describe}
use Rattle.wc_model.specs.Workspace.Closures.{closure, last_touch, order_of, touches_any}
use Rattle.wc_model.specs.Workspace.Edits.{Setting, all_edited, bare, edited, numbered, touches}
use Rattle.wc_model.specs.Workspace.History.{opening_entry}
use Rattle.wc_model.proofs.Replays.{all_edited-append, last_touch-append}
use Rattle.wc_core.specs.declared.touching.Touched.{Touched}
use Rattle.wc_core.specs.Inner.Begins.{AreBegun, entries_from, key_after}
use Rattle.wc_core.specs.Inner.Touching.{AreTouched, stamped, touches_kind}
use Rattle.wc_core.proofs.TouchLemmas.{stamped_same, touches_same}

pub length-entries : (count : ℕ) (es : List Edit) → length (entries_from count es) ≡ length es
length-entries count [] = refl
length-entries count (e ∷ es) = ap (λ n. suc n) (length-entries (count + 1) es)

entries-append : (count : ℕ) (es : List Edit) (e : Edit) → entries_from count (es ++ e ∷ []) ≡ entries_from count es ++ EditEntry 0 (count + length es) e ∷ []
entries-append count [] e = let same : count ≡ count + 0 = omega arith in ap (λ n. EditEntry 0 n e ∷ []) same
entries-append count (f ∷ fs) e =
    let same : count + 1 + length fs ≡ count + suc (length fs) = omega arith in
    ap (λ l. EditEntry 0 count f ∷ l) (entries-append (count + 1) fs e ∙ ap (λ n. entries_from (count + 1) fs ++ EditEntry 0 n e ∷ []) same)

-- the opening facts are edits that add them
pub entries_facts : (count : ℕ) (facts : List Fact) → entries_from count (map Add facts) ≡ map opening_entry (numbered count facts)
entries_facts count [] = refl
entries_facts count (f ∷ fs) = ap (λ l. EditEntry 0 count (Add f) ∷ l) (entries_facts (count + 1) fs)

-- one fact more
added_suc : (fs : List Fact) (i : ℕ) (f d : Fact) → i < length fs → f ≡ get_or fs i d → map Add (take (suc i) fs) ≡ map Add (take i fs) ++ Add f ∷ []
added_suc [] i f d below is = absurd (omega arith)
added_suc (g ∷ gs) zero f d below is = ap (λ x. Add x ∷ []) (sym is)
added_suc (g ∷ gs) (suc i) f d below is = ap (λ l. Add g ∷ l) (added_suc gs i f d (omega arith) is)

pub added_next : (fs : List Fact) (i : ℕ) (f d : Fact) (edits : List Edit) → i < length fs → f ≡ get_or fs i d → edits ++ map Add (take (i + 1) fs) ≡ (edits ++ map Add (take i fs)) ++ Add f ∷ []
added_next fs i f d edits below is = rw add-one (ap (λ l. edits ++ l) (added_suc fs i f d below is) ∙ sym (append_assoc edits (map Add (take i fs)) (Add f ∷ [])))

stamped_case : (touched : ℕ → Bool) (k n m s : ℕ) → n ≡ m → stamped touched n (k, s) ≡ (k, if touched k then m else s)
stamped_case touched k n m s same = ap (λ x. stamped touched x (k, s)) same ∙ by (touched k) where
  by : (b : Bool) → ◌≡◌ {A = ℕ × ℕ} (if b then (k, m) else (k, s)) (k, if b then m else s)
  by true = refl
  by false = refl

module _ (kinds : List Describe) (image : Image) (edits : List Edit) (e : Edit) where
  abbrev inputs_now : Setting
  inputs_now = all_edited 0 (bare image) edits

  abbrev touched : ℕ → Bool
  touched k = touches_any (closure kinds k) inputs_now e

  keys_grow : (count : ℕ) (ks : List ℕ) → count ≡ length edits + 1 → map (stamped touched count) (map (key_after kinds image edits) ks) ≡ map (key_after kinds image (edits ++ e ∷ [])) ks
  keys_grow count [] same = refl
  keys_grow count (k ∷ ks) same =
      let next : count ≡ 0 + length edits + 1 = omega (arith, same) in
      let here = stamped_case touched k count (0 + length edits + 1) (last_touch (closure kinds k) 0 0 (bare image) edits) next ∙ ap (λ s. (k, s)) (sym (last_touch-append (closure kinds k) 0 0 (bare image) edits (e ∷ []))) in
      ap₂ (λ (x : ℕ × ℕ) xs. x ∷ xs) here (keys_grow count ks same)

  pub begun_next : (count : ℕ) (inputs new : Setting) (keys stamps : List (ℕ × ℕ)) (history entries : List Entry) (t : Touched)
      → count ≡ length history + 1
      → AreTouched (λ part. touches part inputs e) t
      → new ≡ edited count inputs e
      → stamps ≡ map (stamped (λ k. touches_kind t (closure kinds k)) count) keys
      → entries ≡ history ++ EditEntry 0 count e ∷ []
      → AreBegun kinds image edits inputs keys history
      → AreBegun kinds image (edits ++ e ∷ []) new stamps entries
  begun_next count inputs new keys stamps history entries t counted are new_is stamps_are entries_are begun =
      let long : length history ≡ length edits = ap length begun.entries_are ∙ length-entries 1 edits in
      let next : count ≡ 0 + length edits + 1 = omega (arith, long, counted) in
      let after : count ≡ 1 + length edits = omega (arith, long, counted) in
      let same : (k : ℕ) → touches_kind t (closure kinds k) ≡ touched k = λ k. touches_same (λ part. touches part inputs e) t are (closure kinds k) ∙ ap (λ i. list_any (λ part. touches part i e) (closure kinds k)) begun.inputs_are in
      record {
        inputs_are = new_is ∙ ap₂ (λ n i. edited n i e) next begun.inputs_are ∙ sym (all_edited-append 0 (bare image) edits (e ∷ []));
        keys_are =
            stamps_are
            ∙ stamped_same (λ k. touches_kind t (closure kinds k)) touched same count keys
            ∙ ap (map (stamped touched count)) begun.keys_are
            ∙ keys_grow count (order_of kinds) (omega (arith, long, counted));
        entries_are = entries_are ∙ ap₂ (λ l n. l ++ EditEntry 0 n e ∷ []) begun.entries_are after ∙ sym (entries-append 1 edits e);
      }

-- no edit yet
pub begun_bare : (kinds : List Describe) (image : Image) (inputs : Setting) (keys : List (ℕ × ℕ)) (history : List Entry) → inputs ≡ bare image → keys ≡ map (λ k. (k, 0)) (order_of kinds) → history ≡ [] → AreBegun kinds image [] inputs keys history
begun_bare kinds image inputs keys history inputs_are keys_are none = record { inputs_are = inputs_are; keys_are = keys_are; entries_are = none }

-- the numbers of the kinds
pub below_all : (order : List ℕ) → All (λ (k : ℕ × ℕ). k.0 < 65) (map (λ k. (k, 0)) order) → All (λ k. k < 65) order
below_all [] below = All-nil (λ k. k < 65)
below_all (k ∷ ks) below =
    let P : ℕ × ℕ → Type 0 = λ j. j.0 < 65 in
    let rest : List (ℕ × ℕ) = map (λ j. (j, 0)) ks in
    All-cons (λ j. j < 65) k ks (All-head P (k, 0) rest below) (below_all ks (All-tail P (k, 0) rest below))
