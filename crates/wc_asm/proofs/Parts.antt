-- A list that is made of parts, read at a place of a part.
use Rattle.std.proofs.Common.{◌≡◌, ℕ, zero, suc, ◌+◌, ◌*◌, ◌^◌, ◌<◌, List, [], ◌∷◌, ◌++◌, length, drop, slice_index, flat_map, sym, ap, ◌∙◌, arith, append_assoc, length-append, drop-drop, drop_at, get_or-drop, mul-suc, mul-zero, add_comm}
use Rattle.byteorder.specs.Endian.{little_number, little_bytes}
use Rattle.byteorder.specs.Numbers.{little_number-reads_back, length-bytes_low_first}
use Rattle.wc_model.specs.Program.Elf.{byte, half, word}
use Rattle.wc_asm.specs.Files.{words, halves}

-- the rest of the list, behind a part
pub behind : {X : Type 0} (xs : List X) (at n : ℕ) (part rest : List X) → drop at xs ≡ part ++ rest → length part ≡ n → drop (at + n) xs ≡ rest
behind xs at n part rest is long = sym (drop-drop n at xs) ∙ ap (drop n) is ∙ drop_at part rest n long

one_more : (n count : ℕ) → n * suc count ≡ n + n * count
one_more n count = mul-suc n count ∙ add_comm (n * count) n

pub length-numbers : (n : ℕ) (numbers : List ℕ) → length (flat_map (little_bytes n) numbers) ≡ n * length numbers
length-numbers n [] = omega arith
length-numbers n (x ∷ numbers) =
    length-append (little_bytes n x) (flat_map (little_bytes n) numbers)
    ∙ ap (λ one. one + length (flat_map (little_bytes n) numbers)) (length-bytes_low_first 0 n x)
    ∙ ap (λ others. n + others) (length-numbers n numbers)
    ∙ sym (one_more n (length numbers))

after_first : (n x : ℕ) (numbers rest : List ℕ) → drop n (flat_map (little_bytes n) (x ∷ numbers) ++ rest) ≡ flat_map (little_bytes n) numbers ++ rest
after_first n x numbers rest =
    ap (drop n) (append_assoc (little_bytes n x) (flat_map (little_bytes n) numbers) rest)
    ∙ drop_at (little_bytes n x) (flat_map (little_bytes n) numbers ++ rest) n (length-bytes_low_first 0 n x)

-- the k-th of numbers that stand one after the other
number_at : (n : ℕ) (numbers rest : List ℕ) (k : ℕ) → k < length numbers → slice_index numbers k < 256 ^ n
    → little_number n (drop (n * k) (flat_map (little_bytes n) numbers ++ rest)) ≡ slice_index numbers k
number_at n [] rest k more small = absurd (omega arith)
number_at n (x ∷ numbers) rest zero more small =
    ap (λ at. little_number n (drop at (flat_map (little_bytes n) (x ∷ numbers) ++ rest))) (mul-zero n)
    ∙ ap (little_number n) (append_assoc (little_bytes n x) (flat_map (little_bytes n) numbers) rest)
    ∙ little_number-reads_back n x (flat_map (little_bytes n) numbers ++ rest) small
number_at n (x ∷ numbers) rest (suc k) more small =
    ap (λ at. little_number n (drop at (flat_map (little_bytes n) (x ∷ numbers) ++ rest))) (one_more n k)
    ∙ ap (little_number n) (sym (drop-drop (n * k) n (flat_map (little_bytes n) (x ∷ numbers) ++ rest)) ∙ ap (drop (n * k)) (after_first n x numbers rest))
    ∙ number_at n numbers rest k (omega arith) small

pub word_of_part : (file : List ℕ) (at place : ℕ) (numbers rest : List ℕ) (k : ℕ) → drop at file ≡ words numbers ++ rest → place ≡ at + 4 * k → k < length numbers → slice_index numbers k < 2 ^ 32 → word file place ≡ slice_index numbers k
word_of_part file at place numbers rest k is here more small =
    ap (word file) here ∙ ap (little_number 4) (sym (drop-drop (4 * k) at file) ∙ ap (drop (4 * k)) is) ∙ number_at 4 numbers rest k more small

pub half_of_part : (file : List ℕ) (at place : ℕ) (numbers rest : List ℕ) (k : ℕ) → drop at file ≡ halves numbers ++ rest → place ≡ at + 2 * k → k < length numbers → slice_index numbers k < 2 ^ 16 → half file place ≡ slice_index numbers k
half_of_part file at place numbers rest k is here more small =
    ap (half file) here ∙ ap (little_number 2) (sym (drop-drop (2 * k) at file) ∙ ap (drop (2 * k)) is) ∙ number_at 2 numbers rest k more small

pub byte_of_part : (file : List ℕ) (at k : ℕ) (part : List ℕ) → drop at file ≡ part → byte file (at + k) ≡ slice_index part k
byte_of_part file at k part is = sym (get_or-drop at file k 0) ∙ ap (λ p. slice_index p k) is

pub half_in : (file : List ℕ) (at k : ℕ) (part : List ℕ) → drop at file ≡ part → half file (at + k) ≡ half part k
half_in file at k part is = ap (little_number 2) (sym (drop-drop k at file) ∙ ap (drop k) is)
