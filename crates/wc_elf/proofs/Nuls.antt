-- The first NUL of a table, place by place.
use Rattle.std.proofs.Common.{◌≡◌, ◌≢◌, ℕ, suc, false, ◌∷◌, ◌+◌, ◌<◌, List, length, drop, get_or, slice_index, refl, arith, drop-cons, add-one}
use Rattle.std.specs.List.{position_or_len}
use Rattle.wc_elf.specs.Strings.{is_nul, nul_from}

first_here : (x : ℕ) (xs : List ℕ) → x ≡ 0 → position_or_len is_nul (x ∷ xs) ≡ 0
first_here x xs is = rw is refl

first_later : (x : ℕ) (xs : List ℕ) → x ≢ 0 → position_or_len is_nul (x ∷ xs) ≡ 1 + position_or_len is_nul xs
first_later x xs other = let no : is_nul x ≡ false = grind arith in rw no refl

pub nul_here : (s : List ℕ) (at : ℕ) → at < length s → slice_index s at ≡ 0 → nul_from s at ≡ at
nul_here s at more is = rw (drop-cons s at 0, first_here (get_or s at 0) (drop (suc at) s) is) (omega arith)

pub nul_later : (s : List ℕ) (at : ℕ) → at < length s → slice_index s at ≢ 0 → nul_from s at ≡ nul_from s (at + 1)
nul_later s at more other = rw (drop-cons s at 0, first_later (get_or s at 0) (drop (suc at) s) other, add-one) (omega arith)
