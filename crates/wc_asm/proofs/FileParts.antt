-- The parts of a program's file, and where each of them stands.
use Rattle.std.proofs.Common.{◌≡◌, ℕ, ◌+◌, ◌*◌, ◌^◌, ◌<◌, List, [], ◌∷◌, ◌++◌, replicate, length, drop, refl, arith, length-append}
use Rattle.std.proofs.lemmas.List.{length-replicate}
use Rattle.wc_asm.specs.Files.{words, symbol, symbols_from, symbol_table, strings_of, string_table, names_size, symbols_offset, strings_offset, strings_size, padding, sections_offset, file_size, file_header, program_header, section_headers, file_of}
use Rattle.wc_asm.specs.declared.program.Program.{Program}
use Rattle.wc_asm.proofs.Parts.{behind, length-numbers}
use Rattle.wc_asm.proofs.Openings.{IsOpening, opening}

length-symbols_from : (at : ℕ) (names : List (List ℕ × ℕ)) → length (symbols_from at names) ≡ 16 * length names
length-symbols_from at [] = refl
length-symbols_from at (name ∷ names) =
    let more = length-append (symbol at name.1) (symbols_from (at + (length name.0 + 1)) names) in
    let others = length-symbols_from (at + (length name.0 + 1)) names in
    omega (arith, more, others)

length-strings_of : (names : List (List ℕ × ℕ)) → length (strings_of names) ≡ names_size names
length-strings_of [] = refl
length-strings_of (name ∷ names) =
    let more = length-append name.0 (0 ∷ strings_of names) in
    let others = length-strings_of names in
    omega (arith, more, others)

length-symbol_table : (names : List (List ℕ × ℕ)) → length (symbol_table names) ≡ 16 * (length names + 1)
length-symbol_table names = let others = length-symbols_from 1 names in omega (arith, others)

pub length-string_table : (names : List (List ℕ × ℕ)) → length (string_table names) ≡ 1 + names_size names
length-string_table names = let others = length-strings_of names in omega (arith, others)

-- what stands behind the parts of the file
abbrev pub last : Program → List ℕ
last program = section_headers (symbols_offset program) (16 * (length program.names + 1)) (strings_offset program) (strings_size program)

abbrev pub behind_strings : Program → List ℕ
behind_strings program = replicate (padding program) 0 ++ last program

abbrev pub behind_symbols : Program → List ℕ
behind_symbols program = string_table program.names ++ behind_strings program

abbrev pub behind_words : Program → List ℕ
behind_words program = symbol_table program.names ++ behind_symbols program

abbrev pub behind_headers : Program → List ℕ
behind_headers program = words program.words ++ behind_words program

pub record HasParts (program : Program) (file : List ℕ) : Type 0 where
  pub front : IsOpening file (sections_offset program)
  pub header : drop 52 file ≡ program_header program.start (4 * length program.words) ++ behind_headers program
  pub code : drop 84 file ≡ behind_headers program
  pub names : drop (symbols_offset program) file ≡ behind_words program
  pub texts : drop (strings_offset program) file ≡ behind_symbols program
  pub tables : drop (sections_offset program) file ≡ last program
  pub long : length file ≡ file_size program

length_of_seven : (h q w y s z t : List ℕ) → length (h ++ (q ++ (w ++ (y ++ (s ++ (z ++ t)))))) ≡ length h + (length q + (length w + (length y + (length s + (length z + length t)))))
length_of_seven h q w y s z t = simp length-append refl

length_of_file : (program : Program) → length (file_of program) ≡ file_size program
length_of_file p =
    let all = length_of_seven (file_header p.start (sections_offset p)) (program_header p.start (4 * length p.words)) (words p.words) (symbol_table p.names) (string_table p.names) (replicate (padding p) 0) (last p) in
    let code = length-numbers 4 p.words in
    let names = length-symbol_table p.names in
    let texts = length-string_table p.names in
    let zeros = length-replicate {A = ℕ} (padding p) 0 in
    omega (arith, all, code, names, texts, zeros)

pub parts : (program : Program) → sections_offset program < 2 ^ 32 → HasParts program (file_of program)
parts p low =
    let file = file_of p in
    let one : drop 52 file ≡ program_header p.start (4 * length p.words) ++ behind_headers p = refl in
    let two : drop 84 file ≡ behind_headers p = refl in
    let three : drop (symbols_offset p) file ≡ behind_words p = behind file 84 (4 * length p.words) (words p.words) (behind_words p) two (length-numbers 4 p.words) in
    let four : drop (strings_offset p) file ≡ behind_symbols p = behind file (symbols_offset p) (16 * (length p.names + 1)) (symbol_table p.names) (behind_symbols p) three (length-symbol_table p.names) in
    let five : drop (strings_offset p + strings_size p) file ≡ behind_strings p = behind file (strings_offset p) (strings_size p) (string_table p.names) (behind_strings p) four (length-string_table p.names) in
    record {
      front = opening p.start (sections_offset p) (program_header p.start (4 * length p.words) ++ behind_headers p) low;
      header = one;
      code = two;
      names = three;
      texts = four;
      tables = behind file (strings_offset p + strings_size p) (padding p) (replicate (padding p) 0) (last p) five (length-replicate {A = ℕ} (padding p) 0);
      long = length_of_file p;
    }
