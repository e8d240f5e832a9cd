-- Names with the same bytes and addresses give the same answer to each look-up.
use Rattle.std.proofs.Common.{◌≡◌, ℕ, Bool, true, false, cond, List, [], ◌∷◌, map, find, Option, Some, refl, ap, ◌∙◌, bytes_eq}
use Rattle.wc_model.specs.Program.Words.{is_called, address_of}
use Rattle.wc_model.specs.declared.elf_image.Name.{Name}
use Rattle.wc_asm.specs.Images.{told, function_of, arm_address, address_in}

here_or_later : (is : Bool) (symbol : Name) (name : List ℕ × ℕ) (symbols : Option Name) (names : Option (List ℕ × ℕ)) → symbol.value ≡ name.1 → symbol.function ≡ true
    → address_of symbols ≡ arm_address names → address_of (cond is (Some symbol) symbols) ≡ arm_address (cond is (Some name) names)
here_or_later true symbol name symbols names value function later = rw (function, value) refl
here_or_later false symbol name symbols names value function later = later

pub looked_up : (bytes called : List ℕ) (symbols : List Name) (names : List (List ℕ × ℕ)) → map (told bytes) symbols ≡ map function_of names
    → address_of (find (is_called bytes called) symbols) ≡ address_in names called
looked_up bytes called [] [] same = refl
looked_up bytes called [] (name ∷ names) same = absurd cc
looked_up bytes called (symbol ∷ symbols) [] same = absurd cc
looked_up bytes called (symbol ∷ symbols) (name ∷ names) same =
    let head : told bytes symbol ≡ function_of name = cc in
    let tail : map (told bytes) symbols ≡ map function_of names = cc in
    let text = ap (λ (t : List ℕ × ℕ × Bool). bytes_eq t.0 called) head in
    ap (λ is. address_of (cond is (Some symbol) (find (is_called bytes called) symbols))) text
    ∙ here_or_later (bytes_eq name.0 called) symbol name (find (is_called bytes called) symbols) (find (λ n. bytes_eq n.0 called) names) (ap (λ (t : List ℕ × ℕ × Bool). t.1) head) (ap (λ (t : List ℕ × ℕ × Bool). t.2) head) (looked_up bytes called symbols names tail)
