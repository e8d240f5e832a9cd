-- Checks of a file that all hold.
use Rattle.std.proofs.Common.{◌≡◌, ℕ, ◌+◌, ◌≤◌, Bool, true, false, List, [], ◌∷◌, ◌++◌, length, None, refl, sym, arith, true≢false, le-leb}
use Rattle.wc_base.specs.declared.faults.Fault.{Fault}
use Rattle.wc_model.specs.Program.Elf.{is_inside}
use Rattle.wc_model.specs.Program.Image.{first_fault}

abbrev pub Pass : List (Bool × Fault) → Type 0
Pass [] = Unit {0}
Pass (check ∷ later) = (check.0 ≡ true) × Pass later

pub no_fault : (checks : List (Bool × Fault)) → Pass checks → first_fault checks ≡ None
no_fault [] pass = refl
no_fault ((true, fault) ∷ later) pass = no_fault later pass.1
no_fault ((false, fault) ∷ later) pass = absurd (true≢false (sym pass.0))

pub pass_both : (xs ys : List (Bool × Fault)) → Pass xs → Pass ys → Pass (xs ++ ys)
pass_both [] ys first second = second
pass_both (x ∷ xs) ys first second = (first.0, pass_both xs ys first.1 second)

pub inside : (file : List ℕ) (offset size at long : ℕ) → offset ≡ at → size ≡ long → at + long ≤ length file → is_inside file offset size ≡ true
inside file offset size at long o s few = le-leb (offset + size) (length file) (omega (arith, o, s))
