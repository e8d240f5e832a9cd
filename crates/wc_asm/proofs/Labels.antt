-- The symbols of a program's file with their names, as they are read.
use Rattle.std.proofs.Common.{◌≡◌, ℕ, suc, ◌+◌, ◌-◌, ◌*◌, ◌%◌, ◌^◌, ◌<◌, Bool, true, false, not, ◌==◌, nat_lt, List, [], ◌∷◌, ◌++◌, map, flat_map, length, take, drop, position, All, Some, None, refl, sym, ap, ap₂, ◌∙◌, arith, append_assoc, length-append, take_at, lt-ltb}
use Rattle.std.specs.List.{list_any, position_or_len, range_with_len}
use Rattle.std.proofs.lemmas.Bool.{and_parts, or_parts, not-true, cond-true}
use Rattle.wc_model.specs.Program.Elf.{byte, st_name, st_value, st_type, st_shndx, sh_offset, linked, contents}
use Rattle.wc_model.specs.Program.Image.{is_label, name_length, label_checks, label_name}
use Rattle.wc_asm.specs.Files.{halves, symbol, symbols_from, strings_of, names_size, is_name, are_names}
use Rattle.wc_asm.specs.Images.{told, function_of}
use Rattle.wc_asm.proofs.Parts.{behind, word_of_part, half_in, byte_of_part}
use Rattle.wc_asm.proofs.Passes.{Pass, pass_both}

-- the first NUL stands behind a name without one
abbrev is_nul : ℕ → Bool
is_nul byte = byte == 0

nul_behind : (name others : List ℕ) → list_any is_nul name ≡ false → position_or_len is_nul (name ++ (0 ∷ others)) ≡ length name
nul_behind [] others none = refl
nul_behind (x ∷ name) others none =
    let parts = or_parts (is_nul x) (list_any is_nul name) none in
    rw (parts.0, nul_behind name others parts.1) (omega arith)

name_ends : (name others : List ℕ) → list_any is_nul name ≡ false → position is_nul (name ++ (0 ∷ others)) ≡ Some (length name)
name_ends name others none =
    let at = nul_behind name others none in
    let long = length-append name (0 ∷ others) in
    let p = position_or_len is_nul (name ++ (0 ∷ others)) in
    cond-true (nat_lt p (length (name ++ (0 ∷ others)))) (Some p) None (lt-ltb p (length (name ++ (0 ∷ others))) (omega (arith, at, long))) ∙ ap Some at

-- a function's symbol, with a name of so many bytes
record IsFunction (file : List ℕ) (section at place value long : ℕ) : Type 0 where
  shndx : st_shndx file at ≡ 0xFFF1
  kind : st_type file at ≡ 2
  name_at : st_name file at ≡ place
  address : st_value file at ≡ value
  name : name_length file section at ≡ Some long
  some : (place == 0) ≡ false

function : (file : List ℕ) (section at place value : ℕ) (text name others rest : List ℕ) → drop at file ≡ symbol place value ++ rest → contents file (linked file section) ≡ text
    → drop place text ≡ name ++ (0 ∷ others) → list_any is_nul name ≡ false → 0 < place → place < 2 ^ 32 → value < 2 ^ 32 → IsFunction file section at place value (length name)
function file section at place value text name others rest is is_text here none some low small =
    let fields : List ℕ = place ∷ value ∷ 0 ∷ [] in
    let more : List ℕ = (0x12 ∷ 0 ∷ halves (0xFFF1 ∷ [])) ++ rest in
    let named : st_name file at ≡ place = word_of_part file at at fields more 0 is (omega arith) (omega arith) low in
    record {
      shndx = half_in file at 14 (symbol place value ++ rest) is;
      kind = ap (λ b. b % 16) (byte_of_part file at 12 (symbol place value ++ rest) is);
      name_at = named;
      address = word_of_part file at (at + 4) fields more 1 is refl (omega arith) small;
      name = ap₂ (λ p t. position is_nul (drop p t)) named is_text ∙ ap (position is_nul) here ∙ name_ends name others none;
      some = grind arith;
    }

labelled : (file : List ℕ) (section at place value long : ℕ) → IsFunction file section at place value long → is_label file at ≡ true
labelled file section at place value long f = rw (f.shndx, f.kind, f.name_at, f.some) refl

label_passes : (file : List ℕ) (section at place value long : ℕ) → IsFunction file section at place value long → Pass (label_checks file section at)
label_passes file section at place value long f = rw (labelled file section at place value long f, f.name) (refl, tt)

label_named : (file : List ℕ) (section at place value long strings : ℕ) → IsFunction file section at place value long → sh_offset file (linked file section) ≡ strings → (long == 0) ≡ false
    → label_name file section at ≡ record { offset = strings + place; length = long; value = value; function = true } ∷ []
label_named file section at place value long strings f is some = rw (labelled file section at place value long f, f.name, some, is, f.name_at, f.address, f.kind) refl

-- the symbols from the index on, and the strings from the place on
pub record AreToCome (file : List ℕ) (section symbols strings : ℕ) (text after rest : List ℕ) (names : List (List ℕ × ℕ)) (index place : ℕ) : Type 0 where
  pub is_text : contents file (linked file section) ≡ text
  pub is_at : sh_offset file (linked file section) ≡ strings
  pub named : are_names names ≡ true
  pub values : All (λ name. name.1 < 2 ^ 32) names
  pub some : 0 < place
  pub few : place + names_size names < 2 ^ 32
  pub symbols_here : drop (symbols + 16 * index) file ≡ symbols_from place names ++ rest
  pub text_here : drop place text ≡ strings_of names
  pub strings_here : drop (strings + place) file ≡ strings_of names ++ after

symbol_next : (file rest : List ℕ) (names : List (List ℕ × ℕ)) (symbols index place after value : ℕ) → drop (symbols + 16 * index) file ≡ (symbol place value ++ symbols_from after names) ++ rest
    → drop (symbols + 16 * (index + 1)) file ≡ symbols_from after names ++ rest
symbol_next file rest names symbols index place after value is =
    let on : symbols + 16 * (index + 1) ≡ symbols + 16 * index + 16 = omega arith in
    ap (λ at. drop at file) on
    ∙ behind file (symbols + 16 * index) 16 (symbol place value) (symbols_from after names ++ rest) (is ∙ append_assoc (symbol place value) (symbols_from after names) rest) refl

string_next : (bytes name others : List ℕ) (at next : ℕ) → drop at bytes ≡ name ++ (0 ∷ others) → next ≡ at + (length name + 1) → drop next bytes ≡ others
string_next bytes name others at next is on =
    let long : length (name ++ (0 ∷ [])) ≡ length name + 1 = length-append name (0 ∷ []) in
    ap (λ place. drop place bytes) on ∙ behind bytes at (length name + 1) (name ++ (0 ∷ [])) others (is ∙ sym (append_assoc name (0 ∷ []) others)) long

to_come_next : (file : List ℕ) (section symbols strings : ℕ) (text after rest : List ℕ) (name : List ℕ × ℕ) (names : List (List ℕ × ℕ)) (index place : ℕ)
    → AreToCome file section symbols strings text after rest (name ∷ names) index place
    → AreToCome file section symbols strings text after rest names (index + 1) (place + (length name.0 + 1))
to_come_next file section symbols strings text after rest name names index place c =
    let next = place + (length name.0 + 1) in
    record {
      is_text = c.is_text;
      is_at = c.is_at;
      named = (and_parts (is_name name.0) (are_names names) c.named).1;
      values = λ k d more. c.values (suc k) d (omega arith);
      some = omega arith;
      few = omega (arith, c.few);
      symbols_here = symbol_next file rest names symbols index place next name.1 c.symbols_here;
      text_here = string_next text name.0 (strings_of names) place next c.text_here refl;
      strings_here = string_next file name.0 (strings_of names ++ after) (strings + place) (strings + next) (c.strings_here ∙ append_assoc name.0 (0 ∷ strings_of names) after) (omega arith);
    }

-- a name has a byte, and no NUL
record IsText (name : List ℕ) : Type 0 where
  some : (length name == 0) ≡ false
  no_nul : list_any is_nul name ≡ false

is_text : (name : List ℕ) → is_name name ≡ true → IsText name
is_text name is =
    let parts = and_parts (not (length name == 0)) (not (list_any is_nul name)) is in
    record { some = not-true (length name == 0) parts.0; no_nul = not-true (list_any is_nul name) parts.1 }

to_come_text : (file : List ℕ) (section symbols strings : ℕ) (text after rest : List ℕ) (name : List ℕ × ℕ) (names : List (List ℕ × ℕ)) (index place : ℕ)
    → AreToCome file section symbols strings text after rest (name ∷ names) index place → IsText name.0
to_come_text file section symbols strings text after rest name names index place c = is_text name.0 (and_parts (is_name name.0) (are_names names) c.named).0

to_come_first : (file : List ℕ) (section symbols strings : ℕ) (text after rest : List ℕ) (name : List ℕ × ℕ) (names : List (List ℕ × ℕ)) (index place : ℕ)
    → AreToCome file section symbols strings text after rest (name ∷ names) index place → IsFunction file section (symbols + 16 * index) place name.1 (length name.0)
to_come_first file section symbols strings text after rest name names index place c =
    let t = to_come_text file section symbols strings text after rest name names index place c in
    function file section (symbols + 16 * index) place name.1 text name.0 (strings_of names) (symbols_from (place + (length name.0 + 1)) names ++ rest) c.symbols_here c.is_text c.text_here t.no_nul c.some (omega (arith, c.few)) (c.values 0 name (omega arith))

told_first : (file after : List ℕ) (at : ℕ) (name : List ℕ × ℕ) (names : List (List ℕ × ℕ)) → drop at file ≡ strings_of (name ∷ names) ++ after
    → told file (record { offset = at; length = length name.0; value = name.1; function = true }) ≡ function_of name
told_first file after at name names is =
    let size : at + length name.0 - at ≡ length name.0 = omega arith in
    ap (λ bytes. (bytes, name.1, true)) (
    ap₂ (λ n bytes. take n bytes) size (is ∙ append_assoc name.0 (0 ∷ strings_of names) after) ∙ take_at name.0 ((0 ∷ strings_of names) ++ after) (length name.0) refl
    )

abbrev places : ℕ → ℕ → ℕ → List ℕ
places symbols index count = map (λ k. symbols + 16 * k) (range_with_len index count)

pub labels_pass : (file : List ℕ) (section symbols strings : ℕ) (text after rest : List ℕ) (names : List (List ℕ × ℕ)) (index place : ℕ)
    → AreToCome file section symbols strings text after rest names index place → Pass (flat_map (label_checks file section) (map (λ k. symbols + 16 * k) (range_with_len index (length names))))
labels_pass file section symbols strings text after rest [] index place c = tt
labels_pass file section symbols strings text after rest (name ∷ names) index place c =
    let at = symbols + 16 * index in
    pass_both (label_checks file section at) (flat_map (label_checks file section) (places symbols (index + 1) (length names)))
    (label_passes file section at place name.1 (length name.0) (to_come_first file section symbols strings text after rest name names index place c))
    (labels_pass file section symbols strings text after rest names (index + 1) (place + (length name.0 + 1)) (to_come_next file section symbols strings text after rest name names index place c))

pub labels_told : (file : List ℕ) (section symbols strings : ℕ) (text after rest : List ℕ) (names : List (List ℕ × ℕ)) (index place : ℕ)
    → AreToCome file section symbols strings text after rest names index place
    → map (told file) (flat_map (label_name file section) (map (λ k. symbols + 16 * k) (range_with_len index (length names)))) ≡ map function_of names
labels_told file section symbols strings text after rest [] index place c = refl
labels_told file section symbols strings text after rest (name ∷ names) index place c =
    let first = to_come_first file section symbols strings text after rest name names index place c in
    let t = to_come_text file section symbols strings text after rest name names index place c in
    let one = label_named file section (symbols + 16 * index) place name.1 (length name.0) strings first c.is_at t.some in
    ap (λ labels. map (told file) (labels ++ flat_map (label_name file section) (places symbols (index + 1) (length names)))) one
    ∙ ap₂ (λ x xs. x ∷ xs) (told_first file after (strings + place) name names c.strings_here)
    (labels_told file section symbols strings text after rest names (index + 1) (place + (length name.0 + 1)) (to_come_next file section symbols strings text after rest name names index place c))
