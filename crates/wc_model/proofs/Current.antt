-- Inputs between which no edit touched some parts: what is lawful for one of them is so for the other.
use Rattle.std.proofs.Common.{◌≡◌, ℕ, zero, suc, ◌+◌, ◌≤◌, Bool, true, false, List, [], ◌∷◌, ◌++◌, length, take, drop, refl, sym, ap, subst, ◌∙◌, arith, if◌then◌else◌}
use Rattle.wc_model.specs.declared.elf_image.Image.{Image}
use Rattle.wc_model.specs.declared.inputs.Edit.{Edit}
use Rattle.wc_model.specs.declared.kinds.Part.{Part}
use Rattle.wc_model.specs.declared.kinds.Part.TheVariants.{Steer, Loops, Limits, Cache as CachePart, Cycles as CyclesPart}
use Rattle.wc_model.specs.Workspace.Closures.{touches_any, last_touch}
use Rattle.wc_model.specs.Workspace.Edits.{Setting, bare, edited, all_edited, after_edits, AgreeOn, AgreeOnAll}
use Rattle.wc_model.proofs.Replays.{all_edited-append, last_touch-append}
use Rattle.wc_model.proofs.Untouched.{agree_untouched}

-- Agreement goes both ways.

agree_back : (a b : Setting) (part : Part) → AgreeOn a b part → AgreeOn b a part
agree_back a b Steer agree = sym agree
agree_back a b Loops agree = sym agree
agree_back a b Limits agree = sym agree
agree_back a b CachePart agree = sym agree
agree_back a b CyclesPart agree = sym agree

pub agree_all_back : (a b : Setting) (parts : List Part) → AgreeOnAll a b parts → AgreeOnAll b a parts
agree_all_back a b [] agree = sym agree
agree_all_back a b (part ∷ parts) agree = (agree_back a b part agree.0, agree_all_back a b parts agree.1)

-- Edits that touch nothing.

touched_case : (parts : List Part) (stamp count : ℕ) (s : Setting) (es : List Edit) (t : Bool) → stamp ≤ count
    → ((from : ℕ) → from ≤ count + 1 → from ≤ last_touch parts from (count + 1) s es)
    → stamp ≤ last_touch parts (if t then count + 1 else stamp) (count + 1) s es
touched_case parts stamp count s es true within rest = omega (arith, rest (count + 1) (omega arith))
touched_case parts stamp count s es false within rest = rest stamp (omega arith)

-- the last touch never falls
pub touched_later : (parts : List Part) (stamp count : ℕ) (s : Setting) (es : List Edit) → stamp ≤ count → stamp ≤ last_touch parts stamp count s es
touched_later parts stamp count s [] within = omega arith
touched_later parts stamp count s (e ∷ es) within =
    touched_case parts stamp count (edited (count + 1) s e) es (touches_any parts s e) within (λ from le. touched_later parts from (count + 1) (edited (count + 1) s e) es le)

untouched_case : (parts : List Part) (stamp count : ℕ) (s : Setting) (es : List Edit) (t : Bool) → stamp ≤ count
    → last_touch parts (if t then count + 1 else stamp) (count + 1) s es ≡ stamp → (t ≡ false) × (last_touch parts stamp (count + 1) s es ≡ stamp)
untouched_case parts stamp count s es true within is = absurd (omega (arith, is, touched_later parts (count + 1) (count + 1) s es (omega arith)))
untouched_case parts stamp count s es false within is = (refl, is)

-- Where the last touch stays, what agreement carries on holds after the edits, and what it carries back held before.
pub carried_on : (parts : List Part) (P : Setting → Type 0) (stamp count : ℕ) (s : Setting) (es : List Edit)
    → ((a b : Setting) → AgreeOnAll a b parts → P a → P b)
    → stamp ≤ count → last_touch parts stamp count s es ≡ stamp → P s → P (all_edited count s es)
carried_on parts P stamp count s [] law within is p = p
carried_on parts P stamp count s (e ∷ es) law within is p =
    let both = untouched_case parts stamp count (edited (count + 1) s e) es (touches_any parts s e) within is in
    carried_on parts P stamp (count + 1) (edited (count + 1) s e) es law (omega arith) both.1 (law s (edited (count + 1) s e) (agree_untouched (count + 1) s e parts both.0) p)

pub carried_back : (parts : List Part) (P : Setting → Type 0) (stamp count : ℕ) (s : Setting) (es : List Edit)
    → ((a b : Setting) → AgreeOnAll a b parts → P a → P b)
    → stamp ≤ count → last_touch parts stamp count s es ≡ stamp → P (all_edited count s es) → P s
carried_back parts P stamp count s [] law within is p = p
carried_back parts P stamp count s (e ∷ es) law within is p =
    let both = untouched_case parts stamp count (edited (count + 1) s e) es (touches_any parts s e) within is in
    law (edited (count + 1) s e) s (agree_all_back s (edited (count + 1) s e) parts (agree_untouched (count + 1) s e parts both.0))
    (carried_back parts P stamp (count + 1) (edited (count + 1) s e) es law (omega arith) both.1 p)

-- The stamp at a count is at most the count.
last_within : (parts : List Part) (stamp count : ℕ) (s : Setting) (es : List Edit) → stamp ≤ count → last_touch parts stamp count s es ≤ count + length es
last_within parts stamp count s [] within = omega arith
last_within parts stamp count s (e ∷ es) within =
    let rest = last_within parts (if touches_any parts s e then count + 1 else stamp) (count + 1) (edited (count + 1) s e) es (next_within (touches_any parts s e) stamp count within) in
    omega (arith, rest)
  where
    next_within : (t : Bool) (stamp count : ℕ) → stamp ≤ count → (if t then count + 1 else stamp) ≤ count + 1
    next_within true stamp count within = omega arith
    next_within false stamp count within = omega arith

-- Between a count and the end: with equal stamps, both ways.
parted : (at : ℕ) (edits : List Edit) → take at edits ++ drop at edits ≡ edits
parted zero edits = refl
parted (suc at) [] = refl
parted (suc at) (e ∷ edits) = ap (λ l. e ∷ l) (parted at edits)

module _ (parts : List Part) (image : Image) (at : ℕ) (edits : List Edit) (within : at ≤ length edits)
    (same : last_touch parts 0 0 (bare image) (take at edits) ≡ last_touch parts 0 0 (bare image) edits) where
  pub between : (last_touch parts (last_touch parts 0 0 (bare image) (take at edits)) (0 + length (take at edits)) (after_edits image at edits) (drop at edits) ≡ last_touch parts 0 0 (bare image) (take at edits))
      × (last_touch parts 0 0 (bare image) (take at edits) ≤ 0 + length (take at edits))
  between =
      (sym (last_touch-append parts 0 0 (bare image) (take at edits) (drop at edits)) ∙ ap (λ es. last_touch parts 0 0 (bare image) es) (parted at edits) ∙ sym same, last_within parts 0 0 (bare image) (take at edits) (omega arith))

  whole : all_edited (0 + length (take at edits)) (after_edits image at edits) (drop at edits) ≡ all_edited 0 (bare image) edits
  whole = sym (all_edited-append 0 (bare image) (take at edits) (drop at edits)) ∙ ap (λ es. all_edited 0 (bare image) es) (parted at edits)

  pub now_from_then : (P : Setting → Type 0) → ((a b : Setting) → AgreeOnAll a b parts → P a → P b) → P (after_edits image at edits) → P (all_edited 0 (bare image) edits)
  now_from_then P law p =
      subst P whole (carried_on parts P (last_touch parts 0 0 (bare image) (take at edits)) (0 + length (take at edits)) (after_edits image at edits) (drop at edits) law between.1 between.0 p)

  pub then_from_now : (P : Setting → Type 0) → ((a b : Setting) → AgreeOnAll a b parts → P a → P b) → P (all_edited 0 (bare image) edits) → P (after_edits image at edits)
  then_from_now P law p =
      carried_back parts P (last_touch parts 0 0 (bare image) (take at edits)) (0 + length (take at edits)) (after_edits image at edits) (drop at edits) law between.1 between.0 (subst P (sym whole) p)
