-- Which rows of the table can take a word, by its bits 27:25.
use Rattle.std.proofs.Common.{◌≡◌, ◌≢◌, ◌⊎◌, inl, inr, ◌∙◌, None, ℕ, ◌+◌, ◌*◌, ◌/◌, ◌≤◌, ◌==◌, Bool, true, false, refl, arith, List, [], ◌∷◌}
use Rattle.wc_model.specs.Program.Instruction.{field, bit, insn_of, first_row, is_unconditional, is_branch_exchange, is_branch_link_exchange, is_no_operation, is_move_half, is_count_zeros, is_multiply, is_extra_transfer, is_data_processing, is_transfer, is_multiple, is_branch, is_divide, is_extend, is_bit_field, is_reverse, is_supervisor_call, base, is_to_pc, unless, next, transfer, multiple, branch}
use Rattle.std.specs.declared.option.Option.{Option}
use Rattle.wc_model.specs.declared.instructions.Insn.{Insn}
use Rattle.wc_model.specs.declared.instructions.Class.TheVariants.{Alu, Div, System}
use Rattle.wc_a32.specs.Groups.{extension_rows, register_rows, immediate_rows, media_rows}

-- bits 27:25 of the words that a row with a wider field takes
exchange : (w : ℕ) → field w 27 4 ≡ 0x12FFF1 → field w 27 25 ≡ 0
exchange w is = omega arith

link_exchange : (w : ℕ) → field w 27 4 ≡ 0x12FFF3 → field w 27 25 ≡ 0
link_exchange w is = omega arith

no_operation : (w : ℕ) → field w 27 0 ≡ 0x320F000 → field w 27 25 ≡ 1
no_operation w is = omega arith

under_twenty : (w : ℕ) → field w 27 25 ≡ field w 27 20 / 32
under_twenty w = omega arith

under_sixteen : (w : ℕ) → field w 27 25 ≡ field w 27 16 / 512
under_sixteen w = omega arith

under_twenty_one : (w : ℕ) → field w 27 25 ≡ field w 27 21 / 16
under_twenty_one w = omega arith

under_twenty_four : (w : ℕ) → field w 27 24 ≡ 2 * field w 27 25 + bit w 24
under_twenty_four w = omega arith

not_exchange : (w : ℕ) → field w 27 25 ≢ 0 → is_branch_exchange w ≡ false
not_exchange w other = grind (arith, exchange w)

not_link_exchange : (w : ℕ) → field w 27 25 ≢ 0 → is_branch_link_exchange w ≡ false
not_link_exchange w other = grind (arith, link_exchange w)

not_no_operation : (w : ℕ) → field w 27 25 ≢ 1 → is_no_operation w ≡ false
not_no_operation w other = grind (arith, no_operation w)

not_move_half : (w : ℕ) → field w 27 25 ≢ 1 → is_move_half w ≡ false
not_move_half w other = grind (arith, under_twenty w)

not_count_zeros : (w : ℕ) → field w 27 25 ≢ 0 → is_count_zeros w ≡ false
not_count_zeros w other = grind (arith, under_sixteen w)

not_multiply : (w : ℕ) → field w 27 25 ≢ 0 → is_multiply w ≡ false
not_multiply w other = grind (arith, under_twenty_four w)

not_divide : (w : ℕ) → field w 27 25 ≢ 3 → is_divide w ≡ false
not_divide w other = grind (arith, under_twenty w)

not_extend : (w : ℕ) → field w 27 25 ≢ 3 → is_extend w ≡ false
not_extend w other = grind (arith, under_sixteen w)

not_bit_field : (w : ℕ) → field w 27 25 ≢ 3 → is_bit_field w ≡ false
not_bit_field w other = grind (arith, under_twenty_one w)

not_reverse : (w : ℕ) → field w 27 25 ≢ 3 → is_reverse w ≡ false
not_reverse w other = grind (arith, under_sixteen w)

-- within bits 27:25 = 000, bits 7 and 4 part the multiplications and further transfers from the rest
exchange_seven : (w : ℕ) → bit w 7 ≡ 1 → is_branch_exchange w ≡ false
exchange_seven w set = grind arith

link_exchange_seven : (w : ℕ) → bit w 7 ≡ 1 → is_branch_link_exchange w ≡ false
link_exchange_seven w set = grind arith

count_zeros_seven : (w : ℕ) → bit w 7 ≡ 1 → bit w 4 ≡ 1 → is_count_zeros w ≡ false
count_zeros_seven w seven four = let low : field w 11 4 ≡ 0xF1 → bit w 7 ≡ 1 = λ is. omega arith in grind arith

data_processing_extension : (w : ℕ) → field w 27 25 ≡ 0 → bit w 7 ≡ 1 → bit w 4 ≡ 1 → is_data_processing w ≡ false
data_processing_extension w group seven four = grind arith

multiply_plain : (w : ℕ) → bit w 7 * bit w 4 ≡ 0 → is_multiply w ≡ false
multiply_plain w plain = let low : field w 7 4 ≡ 9 → bit w 7 * bit w 4 ≡ 1 = λ is. (let seven : bit w 7 ≡ 1 = omega arith in let four : bit w 4 ≡ 1 = omega arith in rw (seven, four) refl) in grind arith

extra_transfer_plain : (w : ℕ) → bit w 7 * bit w 4 ≡ 0 → is_extra_transfer w ≡ false
extra_transfer_plain w plain = grind arith

not_extra_transfer : (w : ℕ) → field w 27 25 ≢ 0 → is_extra_transfer w ≡ false
not_extra_transfer w other = grind arith

not_data_processing : (w : ℕ) → field w 27 25 ≢ 0 → field w 27 25 ≢ 1 → is_data_processing w ≡ false
not_data_processing w other also = grind arith

not_transfer : (w : ℕ) → field w 27 25 ≢ 2 → (field w 27 25 ≢ 3 ⊎ bit w 4 ≡ 1) → is_transfer w ≡ false
not_transfer w other also = grind arith

not_multiple : (w : ℕ) → field w 27 25 ≢ 4 → is_multiple w ≡ false
not_multiple w other = grind arith

not_branch : (w : ℕ) → field w 27 25 ≢ 5 → is_branch w ≡ false
not_branch w other = grind arith

not_supervisor_call : (w : ℕ) → field w 27 24 ≢ 15 → is_supervisor_call w ≡ false
not_supervisor_call w other = grind arith

is_call : (w : ℕ) → field w 27 25 ≡ 7 → bit w 24 ≡ 1 → is_supervisor_call w ≡ true
is_call w group set = grind (arith, under_twenty_four w)

pub only_extension : (at w : ℕ) → is_unconditional w ≡ false → field w 27 25 ≡ 0 → bit w 7 ≡ 1 → bit w 4 ≡ 1 → insn_of at w ≡ first_row (extension_rows w)
only_extension at w cond group seven four =
    rw (cond, exchange_seven w seven, link_exchange_seven w seven, not_no_operation w (omega arith), not_move_half w (omega arith), count_zeros_seven w seven four, data_processing_extension w group seven four)
    (rw (not_transfer w (omega arith) (inl (omega arith)), not_divide w (omega arith), not_extend w (omega arith), not_bit_field w (omega arith), not_reverse w (omega arith), not_multiple w (omega arith), not_branch w (omega arith), not_supervisor_call w (omega (arith, under_twenty_four w))) refl)

pub only_register : (at w : ℕ) → is_unconditional w ≡ false → field w 27 25 ≡ 0 → bit w 7 * bit w 4 ≡ 0 → insn_of at w ≡ first_row (register_rows w)
only_register at w cond group plain =
    rw (cond, not_no_operation w (omega arith), not_move_half w (omega arith), multiply_plain w plain, extra_transfer_plain w plain)
    (rw (not_transfer w (omega arith) (inl (omega arith)), not_divide w (omega arith), not_extend w (omega arith), not_bit_field w (omega arith), not_reverse w (omega arith), not_multiple w (omega arith), not_branch w (omega arith), not_supervisor_call w (omega (arith, under_twenty_four w))) refl)

pub only_immediate : (at w : ℕ) → is_unconditional w ≡ false → field w 27 25 ≡ 1 → insn_of at w ≡ first_row (immediate_rows w)
only_immediate at w cond group =
    rw (cond, not_exchange w (omega arith), not_link_exchange w (omega arith), not_count_zeros w (omega arith), not_multiply w (omega arith), not_extra_transfer w (omega arith))
    (rw (not_transfer w (omega arith) (inl (omega arith)), not_divide w (omega arith), not_extend w (omega arith), not_bit_field w (omega arith), not_reverse w (omega arith), not_multiple w (omega arith), not_branch w (omega arith), not_supervisor_call w (omega (arith, under_twenty_four w))) refl)

-- what is left of the table where bits 27:25 aren't 000 or 001
late_rows : ℕ → ℕ → List (Bool × Option Insn)
late_rows at w =
    (is_transfer w, transfer w)
    ∷ (is_divide w, unless (base w == 15) (next Div 0))
    ∷ (is_extend w, unless (is_to_pc w) (next Alu 0))
    ∷ (is_bit_field w, unless (is_to_pc w) (next Alu 0))
    ∷ (is_reverse w, unless (is_to_pc w) (next Alu 0))
    ∷ (is_multiple w, multiple w)
    ∷ (is_branch w, branch at w)
    ∷ (is_supervisor_call w, next System 0)
    ∷ []

late : (at w : ℕ) → is_unconditional w ≡ false → 2 ≤ field w 27 25 → insn_of at w ≡ first_row (late_rows at w)
unfolding late_rows
late at w cond group =
    rw (cond, not_exchange w (omega arith), not_link_exchange w (omega arith), not_no_operation w (omega arith), not_move_half w (omega arith), not_count_zeros w (omega arith), not_multiply w (omega arith), not_extra_transfer w (omega arith), not_data_processing w (omega arith) (omega arith)) refl

pub only_transfer : (at w : ℕ) → is_unconditional w ≡ false → (field w 27 25 ≡ 2) ⊎ ((field w 27 25 ≡ 3) × (bit w 4 ≡ 0)) → insn_of at w ≡ transfer w
unfolding late_rows
only_transfer at w cond group = let is : is_transfer w ≡ true = grind arith in late at w cond (omega arith) ∙ rw is refl

pub only_media : (at w : ℕ) → is_unconditional w ≡ false → field w 27 25 ≡ 3 → bit w 4 ≡ 1 → insn_of at w ≡ first_row (media_rows w)
unfolding late_rows
only_media at w cond group four = late at w cond (omega arith) ∙ rw (not_transfer w (omega arith) (inr four), not_multiple w (omega arith), not_branch w (omega arith), not_supervisor_call w (omega (arith, under_twenty_four w))) refl

no_media : (at w : ℕ) → is_unconditional w ≡ false → 4 ≤ field w 27 25 → insn_of at w ≡ first_row ((is_multiple w, multiple w) ∷ (is_branch w, branch at w) ∷ (is_supervisor_call w, next System 0) ∷ [])
unfolding late_rows
no_media at w cond group = late at w cond (omega arith) ∙ rw (not_transfer w (omega arith) (inl (omega arith)), not_divide w (omega arith), not_extend w (omega arith), not_bit_field w (omega arith), not_reverse w (omega arith)) refl

pub only_multiple : (at w : ℕ) → is_unconditional w ≡ false → field w 27 25 ≡ 4 → insn_of at w ≡ multiple w
only_multiple at w cond group = let is : is_multiple w ≡ true = grind arith in no_media at w cond (omega arith) ∙ rw is refl

pub only_branch : (at w : ℕ) → is_unconditional w ≡ false → field w 27 25 ≡ 5 → insn_of at w ≡ branch at w
only_branch at w cond group = let is : is_branch w ≡ true = grind arith in no_media at w cond (omega arith) ∙ rw (not_multiple w (omega arith), is) refl

pub only_call : (at w : ℕ) → is_unconditional w ≡ false → field w 27 25 ≡ 7 → bit w 24 ≡ 1 → insn_of at w ≡ next System 0
only_call at w cond group set = no_media at w cond (omega arith) ∙ rw (not_multiple w (omega arith), not_branch w (omega arith), is_call w group set) refl

pub none : (at w : ℕ) → is_unconditional w ≡ false → (field w 27 25 ≡ 6) ⊎ ((field w 27 25 ≡ 7) × (bit w 24 ≡ 0)) → insn_of at w ≡ None
none at w cond group =
    let high : 6 ≤ field w 27 25 = omega arith in
    let not_call : field w 27 24 ≢ 15 = omega (arith, under_twenty_four w) in
    no_media at w cond (omega arith) ∙ rw (not_multiple w (omega arith), not_branch w (omega arith), not_supervisor_call w not_call) refl
