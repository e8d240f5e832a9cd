-- The three section headers at the end of a program's file, as they are read.
use Rattle.std.proofs.Common.{◌≡◌, ℕ, ◌+◌, ◌*◌, ◌%◌, ◌^◌, ◌<◌, ◌≤◌, ◌==◌, true, List, [], ◌∷◌, ◌++◌, length, drop, find, Some, ap, ap₂, ◌∙◌, refl, arith, eq-eqb, add-zero}
use Rattle.wc_model.specs.Program.Elf.{e_shoff, e_shentsize, sh_type, sh_offset, sh_size, sh_link, section_headers, symbol_section, linked, entries}
use Rattle.wc_model.specs.Program.Image.{section_table_checks, symbol_section_checks, is_string_table}
use Rattle.wc_asm.specs.Files.{words, section_headers as headers_of}
use Rattle.wc_asm.proofs.Openings.{IsOpening}
use Rattle.wc_asm.proofs.Parts.{behind, word_of_part}
use Rattle.wc_asm.proofs.Passes.{Pass, inside}

-- section headers at `at`: none, the symbols and their strings
pub record AreSections (file : List ℕ) (at symbols symbols_size strings size : ℕ) : Type 0 where
  pub null : sh_type file at ≡ 0
  pub symbols_kind : sh_type file (at + 40) ≡ 2
  pub symbols_at : sh_offset file (at + 40) ≡ symbols
  pub symbols_long : sh_size file (at + 40) ≡ symbols_size
  pub link : sh_link file (at + 40) ≡ 2
  pub strings_kind : sh_type file (at + 80) ≡ 3
  pub strings_at : sh_offset file (at + 80) ≡ strings
  pub strings_long : sh_size file (at + 80) ≡ size

-- the second and the third header stand 40 and 80 bytes on
second : (file : List ℕ) (at symbols symbols_size strings size : ℕ) → drop at file ≡ headers_of symbols symbols_size strings size
    → drop (at + 40) file ≡ words (0 ∷ 2 ∷ 0 ∷ 0 ∷ symbols ∷ symbols_size ∷ 2 ∷ 1 ∷ 4 ∷ 16 ∷ []) ++ words (0 ∷ 3 ∷ 0 ∷ 0 ∷ strings ∷ size ∷ 0 ∷ 0 ∷ 1 ∷ 0 ∷ [])
second file at symbols symbols_size strings size is = behind file at 40 (words (0 ∷ 0 ∷ 0 ∷ 0 ∷ 0 ∷ 0 ∷ 0 ∷ 0 ∷ 0 ∷ 0 ∷ [])) _ is refl

third : (file : List ℕ) (at symbols symbols_size strings size : ℕ) → drop at file ≡ headers_of symbols symbols_size strings size
    → drop (at + 80) file ≡ words (0 ∷ 3 ∷ 0 ∷ 0 ∷ strings ∷ size ∷ 0 ∷ 0 ∷ 1 ∷ 0 ∷ []) ++ []
third file at symbols symbols_size strings size is =
    let here : at + 80 ≡ at + 40 + 40 = omega arith in
    ap (λ place. drop place file) here
    ∙ behind file (at + 40) 40 (words (0 ∷ 2 ∷ 0 ∷ 0 ∷ symbols ∷ symbols_size ∷ 2 ∷ 1 ∷ 4 ∷ 16 ∷ [])) _ (second file at symbols symbols_size strings size is) refl

pub sections_are : (file : List ℕ) (at symbols symbols_size strings size : ℕ) → drop at file ≡ headers_of symbols symbols_size strings size
    → symbols < 2 ^ 32 → symbols_size < 2 ^ 32 → strings < 2 ^ 32 → size < 2 ^ 32 → AreSections file at symbols symbols_size strings size
sections_are file at symbols symbols_size strings size is a b c d =
    let none : List ℕ = 0 ∷ 0 ∷ 0 ∷ 0 ∷ 0 ∷ 0 ∷ 0 ∷ 0 ∷ 0 ∷ 0 ∷ [] in
    let first : List ℕ = 0 ∷ 2 ∷ 0 ∷ 0 ∷ symbols ∷ symbols_size ∷ 2 ∷ 1 ∷ 4 ∷ 16 ∷ [] in
    let other : List ℕ = 0 ∷ 3 ∷ 0 ∷ 0 ∷ strings ∷ size ∷ 0 ∷ 0 ∷ 1 ∷ 0 ∷ [] in
    let two : drop (at + 40) file ≡ words first ++ words other = second file at symbols symbols_size strings size is in
    let three : drop (at + 80) file ≡ words other ++ [] = third file at symbols symbols_size strings size is in
    record {
      null = word_of_part file at (at + 4) none (words first ++ words other) 1 is refl (omega arith) (omega arith);
      symbols_kind = word_of_part file (at + 40) (at + 40 + 4) first (words other) 1 two refl (omega arith) (omega arith);
      symbols_at = word_of_part file (at + 40) (at + 40 + 16) first (words other) 4 two refl (omega arith) a;
      symbols_long = word_of_part file (at + 40) (at + 40 + 20) first (words other) 5 two refl (omega arith) b;
      link = word_of_part file (at + 40) (at + 40 + 24) first (words other) 6 two refl (omega arith) (omega arith);
      strings_kind = word_of_part file (at + 80) (at + 80 + 4) other [] 1 three refl (omega arith) (omega arith);
      strings_at = word_of_part file (at + 80) (at + 80 + 16) other [] 4 three refl (omega arith) c;
      strings_long = word_of_part file (at + 80) (at + 80 + 20) other [] 5 three refl (omega arith) d;
    }

three_headers : (file : List ℕ) (at : ℕ) → IsOpening file at → section_headers file ≡ at ∷ (at + 40) ∷ (at + 80) ∷ []
three_headers file at is = ap₂ (λ table count. entries table 40 count) is.shoff is.shnum ∙ ap (λ first. first ∷ (at + 40) ∷ (at + 80) ∷ []) (add-zero at)

pub symbol_section_is : (file : List ℕ) (at symbols symbols_size strings size : ℕ) → IsOpening file at → AreSections file at symbols symbols_size strings size → symbol_section file ≡ Some (at + 40)
symbol_section_is file at symbols symbols_size strings size o s =
    ap (find (λ header. sh_type file header == 2)) (three_headers file at o) ∙ rw (s.null, s.symbols_kind) refl

pub linked_is : (file : List ℕ) (at symbols symbols_size strings size : ℕ) → IsOpening file at → AreSections file at symbols symbols_size strings size → linked file (at + 40) ≡ at + 80
linked_is file at symbols symbols_size strings size o s = ap₂ (λ table index. table + 40 * index) o.shoff s.link

pub section_table_passes : (file : List ℕ) (at : ℕ) → IsOpening file at → at + 120 ≤ length file → Pass (section_table_checks file)
section_table_passes file at is long = rw is.shnum (eq-eqb (e_shentsize file) 40 is.shentsize, (inside file (e_shoff file) (40 * 3) at 120 is.shoff refl long, tt))

string_table : (file : List ℕ) (at symbols symbols_size strings size : ℕ) → IsOpening file at → AreSections file at symbols symbols_size strings size → is_string_table file (at + 40) ≡ true
string_table file at symbols symbols_size strings size o s =
    let kind : sh_type file (linked file (at + 40)) ≡ 3 = ap (sh_type file) (linked_is file at symbols symbols_size strings size o s) ∙ s.strings_kind in
    rw (kind, s.link, o.shnum) refl

pub symbol_section_passes : (file : List ℕ) (at symbols count strings size : ℕ) → IsOpening file at → AreSections file at symbols (16 * count) strings size
    → symbols + 16 * count ≤ length file → strings + size ≤ length file → Pass (symbol_section_checks file (at + 40))
symbol_section_passes file at symbols count strings size o s few less =
    let section = at + 40 in
    let link = linked_is file at symbols (16 * count) strings size o s in (
      eq-eqb (sh_size file section % 16) 0 (omega (arith, s.symbols_long)),
      (
        inside file (sh_offset file section) (sh_size file section) symbols (16 * count) s.symbols_at s.symbols_long few,
        (
          string_table file at symbols (16 * count) strings size o s,
          (
            inside file (sh_offset file (linked file section)) (sh_size file (linked file section)) strings size (ap (sh_offset file) link ∙ s.strings_at) (ap (sh_size file) link ∙ s.strings_long) less,
            tt,
          ),
        ),
      ),
    )
