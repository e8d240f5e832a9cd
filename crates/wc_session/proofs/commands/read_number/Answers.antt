use Rattle.std.proofs.Common.{ℕ, ◌-◌, ◌^◌, List, Option, None, Some, MatchOption, arith}
use Rattle.wc_base.specs.Decimals.{ReadsNumber}
use Rattle.wc_session.specs.Commands.{IsNumber}
use Rattle.wc_session.proofs.commands.read_number.Goals as goal

-- a number that 64 bits hold, or none of them
read_as : (digits : List ℕ) (result : Option ℕ) → ReadsNumber 10 digits (2 ^ 64 - 1) result → MatchOption result ((number : ℕ) → IsNumber digits number → ⊥) (IsNumber digits)
read_as digits None reads = λ number is. omega (arith, reads number is.0, is.1)
read_as digits (Some number) reads = (reads.0, omega (arith, reads.1))

pub returns : goal.returns
returns c = read_as c.args.digits.now c.read_decimal.result c.read_decimal.ensures
