-- Positions of the program with its calls expanded: the calls that are open, and an address. The innermost open
-- call stands first, as on a stack.
use Rattle.std.specs.Prelude.{ℕ, List, [], reverse}
use Rattle.std.specs.Cmp.Lexicographic.{slice_cmp}
use Rattle.std.specs.Ordering.{ordering_then, nat_cmp}
use Rattle.std.specs.declared.cmp.Ordering.{Ordering}

-- an open call: where it returns to, and which function it called
pub record Call : Type 0 where
  pub returns : ℕ
  pub callee : ℕ

pub record Position : Type 0 where
  pub calls : List Call
  pub pc : ℕ

-- a function starts with no open call
abbrev pub start_of : ℕ → Position
start_of at = record { calls = []; pc = at }

-- Positions are ordered by their stacks from the outermost call on, call by call, where a stack that ends comes
-- first, and then by their addresses.
abbrev pub call_cmp : Call → Call → Ordering
call_cmp a b = ordering_then (nat_cmp a.returns b.returns) (nat_cmp a.callee b.callee)

abbrev pub stack_cmp : List Call → List Call → Ordering
stack_cmp a b = slice_cmp call_cmp (reverse a) (reverse b)

abbrev pub position_cmp : Position → Position → Ordering
position_cmp p q = ordering_then (stack_cmp p.calls q.calls) (nat_cmp p.pc q.pc)
