use Rattle.std.proofs.Common.{◌≡◌, ◌+◌, ◌-◌, ◌*◌, ◌^◌, ◌<◌, ℕ, List, All, ◌∙◌, ◌++◌, ap, sym, subst, length, replicate, arith}
use Rattle.wc_asm.specs.Files.{words, file_header, program_header, symbol_table, string_table, section_headers, file_of, symbols_offset, strings_offset, strings_size, sections_offset, padding}
use Rattle.wc_asm.proofs.Appends.{six_parts, same_two, same_four}
use Rattle.wc_asm.specs.Images.{IsReadBack}
use Rattle.wc_asm.proofs.WholeFiles.{read_back, AreNumbers}
use Rattle.wc_asm.proofs.writer.write_elf.Goals as goal

pub returns : goal.returns
returns c =
    let p = c.args.program.now in
    let l = c.in-Some.layout in
    let is = c.in-Some.ensures in
    let size : 4 * length c.items-words.result.now ≡ 4 * length p.words = ap (λ w. 4 * length w) c.items-words.ensures in
    let count : l.strings - l.symbols ≡ 16 * (length p.names + 1) = omega (arith, is.strings, is.symbols) in
    let bytes : c.put_sections.new.file.items ≡ file_of p =
    six_parts _ _ _ _ _ _ _
    (file_header p.start (sections_offset p)) (program_header p.start (4 * length p.words)) (words p.words) (symbol_table p.names) (string_table p.names) (replicate (padding p) 0)
    (section_headers (symbols_offset p) (16 * (length p.names + 1)) (strings_offset p) (strings_size p))
    c.new-file.ensures.items
    (c.in_ok-put_headers.ensures ∙ ap (λ x. c.new-file.result.items ++ x) (same_two (λ a b. file_header p.start a ++ program_header p.start b) _ _ _ _ is.sections size))
    (c.in_ok-put_words.ensures.words ∙ ap (λ x. c.put_headers.new.file.items ++ words x) c.items-words.ensures)
    (c.in_ok-put_symbols.ensures.table ∙ ap (λ x. c.put_words.new.file.items ++ symbol_table x) c.items-names.ensures)
    (c.in_ok-put_strings.ensures ∙ ap (λ x. c.put_symbols.new.file.items ++ string_table x) c.items-names.ensures)
    (c.in_ok-put_padding.ensures ∙ ap (λ x. c.put_strings.new.file.items ++ replicate x 0) is.padding)
    (c.in_ok-put_sections.ensures ∙ ap (λ x. c.put_padding.new.file.items ++ x) (same_four section_headers _ _ _ _ _ _ _ _ is.symbols count is.strings is.size)) in
    let numbers : AreNumbers p =
    record {
      start = omega arith;
      words = subst (All (λ word. word < 2 ^ 32)) c.items-words.ensures c.put_words.ensures.numbers;
      addresses = subst (All (λ (name : List ℕ × ℕ). name.1 < 2 ^ 32)) c.items-names.ensures (c.in_ok-put_symbols.ensures.addresses);
    } in
    record {
      bytes = bytes;
      read_back = subst (IsReadBack p) (sym bytes) (read_back p c.requires numbers);
    }
