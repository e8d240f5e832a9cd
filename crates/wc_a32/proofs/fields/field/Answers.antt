use Rattle.std.proofs.Common.{◌≡◌, ℕ, ◌*◌, ◌-◌, ◌^◌, ◌%◌, ◌/◌, ◌+◌, ◌<◌, ◌≤◌, arith, bit_and}
use Rattle.std.proofs.Math.Nat.{mod-eq_of_lt, one-mul}
use Rattle.std.proofs.lemmas.Nat.{and_mask, pow_below}
use Rattle.wc_a32.proofs.fields.field.Goals as goal

-- a mask of k ones keeps the number modulo 2^k
masked : (n k : ℕ) → k ≤ 32 → bit_and n (1 * 2 ^ k % 2 ^ 64 - 1) ≡ n % 2 ^ k
masked n k few = let small : 2 ^ k < 2 ^ 64 = pow_below k 64 (omega arith) in rw (one-mul (2 ^ k), mod-eq_of_lt small) (and_mask n k)

pub returns : goal.returns
returns c = masked (c.args.word / 2 ^ c.args.low) (c.args.high + 1 - c.args.low) (omega arith)
