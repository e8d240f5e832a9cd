-- The words of a file whose one range is the code at 84.
use Rattle.std.proofs.Common.{◌≡◌, ◌⊎◌, inl, inr, ℕ, ◌+◌, ◌-◌, ◌*◌, ◌%◌, ◌^◌, ◌<◌, ◌≤◌, Bool, true, false, cond, if◌then◌else◌, ◌==◌, nat_le, List, [], ◌∷◌, ◌++◌, find, length, drop, slice_index, Option, Some, None, refl, ap, ◌∙◌, arith, le-leb, eq-eqb}
use Rattle.std.proofs.lemmas.Bool.{and_from, and_left, and_right, cond-true, lt-leb}
use Rattle.wc_model.specs.Program.Words.{word_in, has_word}
use Rattle.wc_model.specs.declared.elf_image.Range.{Range}
use Rattle.wc_asm.specs.Files.{words}
use Rattle.wc_asm.proofs.Parts.{word_of_part}

-- the word at a place of the program's range
pub word_here : (file numbers rest : List ℕ) (start k : ℕ) (ranges : List Range) → ranges ≡ record { start = start; offset = 84; length = 4 * length numbers } ∷ [] → drop 84 file ≡ words numbers ++ rest
    → start % 4 ≡ 0 → k < length numbers → slice_index numbers k < 2 ^ 32
    → (if (start + 4 * k) % 4 == 0 then word_in file (start + 4 * k) (find (has_word (start + 4 * k)) ranges) else None) ≡ Some (slice_index numbers k)
word_here file numbers rest start k ranges is here aligned more small =
    let at = start + 4 * k in
    let range : Range = record { start = start; offset = 84; length = 4 * length numbers } in
    let whole : (at % 4 == 0) ≡ true = eq-eqb (at % 4) 0 (omega arith) in
    let holds : has_word at range ≡ true = and_from (nat_le start at) (nat_le (at + 4) (start + 4 * length numbers)) (le-leb start at (omega arith)) (le-leb (at + 4) (start + 4 * length numbers) (omega arith)) in
    cond-true (at % 4 == 0) (word_in file at (find (has_word at) ranges)) None whole
    ∙ ap (λ r. word_in file at (find (has_word at) r)) is
    ∙ ap (λ b. word_in file at (cond b (Some range) None)) holds
    ∙ ap Some (word_of_part file 84 (84 + (at - start)) numbers rest k here (omega arith) more small)

outside : (start size at : ℕ) → (at < start) ⊎ (start + size ≤ at) → has_word at (record { start = start; offset = 84; length = size }) ≡ false
outside start size at (inl below) = and_left (nat_le start at) (nat_le (at + 4) (start + size)) (lt-leb start at below)
outside start size at (inr above) = and_right (nat_le start at) (nat_le (at + 4) (start + size)) (lt-leb (at + 4) (start + size) (omega arith))

in_both : (test : Bool) (word : Option ℕ) → word ≡ None → cond test word None ≡ None
in_both true word none = none
in_both false word none = refl

pub no_word : (file : List ℕ) (start size at : ℕ) (ranges : List Range) → ranges ≡ record { start = start; offset = 84; length = size } ∷ [] → (at < start) ⊎ (start + size ≤ at)
    → (if at % 4 == 0 then word_in file at (find (has_word at) ranges) else None) ≡ None
no_word file start size at ranges is out =
    let range : Range = record { start = start; offset = 84; length = size } in
    in_both (at % 4 == 0) (word_in file at (find (has_word at) ranges)) (ap (λ r. word_in file at (find (has_word at) r)) is ∙ ap (λ b. word_in file at (cond b (Some range) None)) (outside start size at out))
