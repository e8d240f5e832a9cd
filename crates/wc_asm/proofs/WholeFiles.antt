-- The file of a program is read back as the program.
use Rattle.std.proofs.Common.{◌≡◌, ℕ, suc, ◌+◌, ◌-◌, ◌*◌, ◌/◌, ◌%◌, ◌^◌, ◌<◌, ◌≤◌, true, false, ◌&&◌, ◌==◌, nat_le, List, [], ◌∷◌, ◌++◌, map, flat_map, length, take, drop, slice_range, All, Some, None, refl, sym, ap, ap₂, subst, ◌∙◌, arith, take_at, add-zero, eqb-true, leb-true}
use Rattle.std.specs.List.{range_with_len}
use Rattle.std.proofs.lemmas.Bool.{and_parts}
use Rattle.wc_model.specs.Program.Elf.{st_shndx, sh_offset, sh_size, linked, symbols, symbol_section, entries}
use Rattle.wc_model.specs.Program.Image.{checks, header_checks, range_checks, name_checks, section_table_checks, symbol_checks, symbol_section_checks, label_checks, label_name, is_label, section_names, names_of, image_fault, IsImageOf}
use Rattle.wc_model.specs.declared.elf_image.Image.{Image}
use Rattle.wc_asm.specs.Files.{words, symbols_from, strings_of, string_table, symbols_offset, strings_offset, strings_size, sections_offset, file_size, file_of, is_code, are_names, is_writable_of}
use Rattle.wc_asm.specs.Images.{code_range, told, function_of, IsProgramImage, IsReadBack}
use Rattle.wc_asm.specs.declared.program.Program.{Program}
use Rattle.wc_asm.proofs.Parts.{behind, half_in}
use Rattle.wc_asm.proofs.FileParts.{length-string_table, behind_strings, behind_symbols, behind_words, behind_headers, HasParts, parts}
use Rattle.wc_asm.proofs.CodeWords.{word_here, no_word}
use Rattle.wc_asm.proofs.Passes.{Pass, no_fault, pass_both}
use Rattle.wc_asm.proofs.Openings.{IsSegment, segment, header_passes, ranges_pass, ranges_are}
use Rattle.wc_asm.proofs.Tables.{AreSections, sections_are, symbol_section_is, linked_is, section_table_passes, symbol_section_passes}
use Rattle.wc_asm.proofs.Labels.{AreToCome, labels_pass, labels_told}
use Rattle.wc_asm.proofs.Lookups.{looked_up}

-- the program's numbers are those of their types
pub record AreNumbers (program : Program) : Type 0 where
  pub start : program.start < 2 ^ 32
  pub words : All (λ word. word < 2 ^ 32) program.words
  pub addresses : All (λ name. name.1 < 2 ^ 32) program.names

record IsSmall (program : Program) : Type 0 where
  aligned : program.start % 4 ≡ 0
  ends : program.start + 4 * length program.words ≤ 2 ^ 32
  named : are_names program.names ≡ true
  few : file_size program ≤ 2 ^ 24

is_small : (program : Program) → is_writable_of program ≡ true → IsSmall program
is_small p is =
    let most = and_parts (is_code p && are_names p.names) (nat_le (file_size p) (2 ^ 24)) is in
    let some = and_parts (is_code p) (are_names p.names) most.0 in
    let code = and_parts (p.start % 4 == 0) (nat_le (p.start + 4 * length p.words) (2 ^ 32)) some.0 in
    record {
      aligned = eqb-true (p.start % 4) 0 code.0;
      ends = leb-true (p.start + 4 * length p.words) (2 ^ 32) code.1;
      named = some.1;
      few = leb-true (file_size p) (2 ^ 24) most.1;
    }

-- the fields of the program header and of the section headers
record HasFields (program : Program) (file : List ℕ) : Type 0 where
  code : IsSegment file program.start (4 * length program.words)
  tables : AreSections file (sections_offset program) (symbols_offset program) (16 * (length program.names + 1)) (strings_offset program) (strings_size program)

fields : (program : Program) (file : List ℕ) → IsSmall program → AreNumbers program → HasParts program file → HasFields program file
fields p file small numbers has =
    record {
      code = segment file p.start (4 * length p.words) (behind_headers p) has.header numbers.start (omega (arith, small.few));
      tables = sections_are file (sections_offset p) (symbols_offset p) (16 * (length p.names + 1)) (strings_offset p) (strings_size p) has.tables (omega (arith, small.few)) (omega (arith, small.few)) (omega (arith, small.few)) (omega (arith, small.few));
    }

-- the symbols: the one that names nothing, and those of the names
symbols_are : (file : List ℕ) (section at count : ℕ) → sh_offset file section ≡ at → sh_size file section ≡ 16 * (count + 1) → symbols file section ≡ at ∷ map (λ k. at + 16 * k) (range_with_len 1 count)
symbols_are file section at count offset size =
    let more : sh_size file section / 16 ≡ suc count = omega (arith, size) in
    ap₂ (λ table n. entries table 16 n) offset more ∙ ap (λ first. first ∷ map (λ k. at + 16 * k) (range_with_len 1 count)) (add-zero at)

no_label : (file : List ℕ) (at : ℕ) (rest : List ℕ) → drop at file ≡ words (0 ∷ 0 ∷ 0 ∷ 0 ∷ []) ++ rest → is_label file at ≡ false
no_label file at rest is = let none : st_shndx file at ≡ 0 = half_in file at 14 (words (0 ∷ 0 ∷ 0 ∷ 0 ∷ []) ++ rest) is in rw none refl

to_come : (program : Program) (file : List ℕ) → IsSmall program → AreNumbers program → HasParts program file → HasFields program file
    → AreToCome file (sections_offset program + 40) (symbols_offset program) (strings_offset program) (string_table program.names) (behind_strings program) (behind_symbols program) program.names 1 1
to_come p file small numbers has f =
    let link = linked_is file (sections_offset p) (symbols_offset p) (16 * (length p.names + 1)) (strings_offset p) (strings_size p) has.front f.tables in
    let at : sh_offset file (linked file (sections_offset p + 40)) ≡ strings_offset p = ap (sh_offset file) link ∙ f.tables.strings_at in
    let long : sh_size file (linked file (sections_offset p + 40)) ≡ strings_size p = ap (sh_size file) link ∙ f.tables.strings_long in
    let size : strings_offset p + strings_size p - strings_offset p ≡ strings_size p = omega arith in
    record {
      is_text = ap₂ (λ at size. slice_range file at (at + size)) at long ∙ ap₂ (λ n bytes. take n bytes) size has.texts ∙ take_at (string_table p.names) (behind_strings p) (strings_size p) (length-string_table p.names);
      is_at = at;
      named = small.named;
      values = numbers.addresses;
      some = omega arith;
      few = omega (arith, small.few);
      symbols_here = behind file (symbols_offset p) 16 (words (0 ∷ 0 ∷ 0 ∷ 0 ∷ [])) (symbols_from 1 p.names ++ behind_symbols p) has.names refl;
      text_here = refl;
      strings_here = behind file (strings_offset p) 1 (0 ∷ []) (strings_of p.names ++ behind_strings p) has.texts refl;
    }

symbols_of : (program : Program) (file : List ℕ) → HasFields program file → symbols file (sections_offset program + 40) ≡ symbols_offset program ∷ map (λ k. symbols_offset program + 16 * k) (range_with_len 1 (length program.names))
symbols_of p file f = symbols_are file (sections_offset p + 40) (symbols_offset p) (length p.names) f.tables.symbols_at f.tables.symbols_long

section_of : (program : Program) (file : List ℕ) → HasParts program file → HasFields program file → symbol_section file ≡ Some (sections_offset program + 40)
section_of p file has f = symbol_section_is file (sections_offset p) (symbols_offset p) (16 * (length p.names + 1)) (strings_offset p) (strings_size p) has.front f.tables

first_no_label : (program : Program) (file : List ℕ) → HasParts program file → is_label file (symbols_offset program) ≡ false
first_no_label p file has = no_label file (symbols_offset p) (symbols_from 1 p.names ++ behind_symbols p) has.names

unchecked : (file : List ℕ) (section at : ℕ) → is_label file at ≡ false → label_checks file section at ≡ []
unchecked file section at other = rw other refl

unnamed : (file : List ℕ) (section at : ℕ) → is_label file at ≡ false → label_name file section at ≡ []
unnamed file section at other = rw other refl

names_pass : (program : Program) (file : List ℕ) → IsSmall program → AreNumbers program → HasParts program file → HasFields program file → Pass (name_checks file)
names_pass p file small numbers has f =
    let section = sections_offset p + 40 in
    let labels = flat_map (label_checks file section) in
    let others = map (λ k. symbols_offset p + 16 * k) (range_with_len 1 (length p.names)) in
    let come = to_come p file small numbers has f in
    let all : Pass (labels others) = labels_pass file section (symbols_offset p) (strings_offset p) (string_table p.names) (behind_strings p) (behind_symbols p) p.names 1 1 come in
    let with_first : Pass (labels (symbols_offset p ∷ others)) = subst (λ checks. Pass (checks ++ labels others)) (sym (unchecked file section (symbols_offset p) (first_no_label p file has))) all in
    let in_symbols : Pass (labels (symbols file section)) = subst (λ s. Pass (labels s)) (sym (symbols_of p file f)) with_first in
    let header : Pass (symbol_section_checks file section) = symbol_section_passes file (sections_offset p) (symbols_offset p) (length p.names + 1) (strings_offset p) (strings_size p) has.front f.tables (omega (arith, has.long)) (omega (arith, has.long)) in
    pass_both (section_table_checks file) (symbol_checks file (symbol_section file)) (section_table_passes file (sections_offset p) has.front (omega (arith, has.long)))
    (subst (λ s. Pass (symbol_checks file s)) (sym (section_of p file has f)) (pass_both (symbol_section_checks file section) (labels (symbols file section)) header in_symbols))

sound : (program : Program) (file : List ℕ) → IsSmall program → AreNumbers program → HasParts program file → HasFields program file → image_fault file ≡ None
sound p file small numbers has f =
    no_fault (checks file) (
    pass_both (header_checks file) (range_checks file ++ name_checks file) (header_passes file (sections_offset p) has.front (omega (arith, has.long)))
    (
    pass_both (range_checks file) (name_checks file)
    (ranges_pass file (sections_offset p) p.start (4 * length p.words) has.front f.code (omega (arith, has.long)) small.ends)
    (names_pass p file small numbers has f)
    )
    )

names_told : (program : Program) (file : List ℕ) → IsSmall program → AreNumbers program → HasParts program file → HasFields program file → map (told file) (names_of file) ≡ map function_of program.names
names_told p file small numbers has f =
    let section = sections_offset p + 40 in
    let others = map (λ k. symbols_offset p + 16 * k) (range_with_len 1 (length p.names)) in
    ap (λ s. map (told file) (section_names file s)) (section_of p file has f)
    ∙ ap (λ s. map (told file) (flat_map (label_name file section) s)) (symbols_of p file f)
    ∙ ap (λ first. map (told file) (first ++ flat_map (label_name file section) others)) (unnamed file section (symbols_offset p) (first_no_label p file has))
    ∙ labels_told file section (symbols_offset p) (strings_offset p) (string_table p.names) (behind_strings p) (behind_symbols p) p.names 1 1 (to_come p file small numbers has f)

image_is : (program : Program) (file : List ℕ) → IsSmall program → AreNumbers program → HasParts program file → HasFields program file
    → (image : Image) → IsImageOf file image → IsProgramImage program image
image_is p file small numbers has f image is =
    let range : image.ranges ≡ code_range p ∷ [] = is.ranges ∙ ranges_are file (sections_offset p) p.start (4 * length p.words) has.front f.code in
    let names : map (told image.bytes) image.names ≡ map function_of p.names = ap₂ (λ bytes names. map (told bytes) names) is.bytes is.names ∙ names_told p file small numbers has f in
    record {
      range = range;
      words = λ k more. word_here image.bytes p.words (behind_words p) p.start k image.ranges range (ap (drop 84) is.bytes ∙ has.code) small.aligned more (numbers.words k 0 more);
      others = λ at out. no_word image.bytes p.start (4 * length p.words) at image.ranges range out;
      names = names;
      addresses = λ called. looked_up image.bytes called image.names p.names names;
    }

pub read_back : (program : Program) → is_writable_of program ≡ true → AreNumbers program → IsReadBack program (file_of program)
read_back p writable numbers =
    let small = is_small p writable in
    let has = parts p (omega (arith, small.few)) in
    let f = fields p (file_of p) small numbers has in
    record {
      sound = sound p (file_of p) small numbers has f;
      image = image_is p (file_of p) small numbers has f;
    }
