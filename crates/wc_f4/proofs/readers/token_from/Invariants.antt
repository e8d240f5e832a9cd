use Rattle.std.proofs.Common.{◌≡◌, ◌-◌, length, drop}
use Rattle.wc_f4.specs.Tokens.{tokens_from}
use Rattle.wc_f4.proofs.readers.token_from.Given as goal

-- the bytes to come have all tokens
abbrev pub invariant-loop-place : goal.invariant-loop-place
invariant-loop-place l = tokens_from l.place 0 (drop l.place l.text) ≡ tokens_from l.start 0 (drop l.start l.text)

abbrev pub decreases-loop-place : goal.decreases-loop-place
decreases-loop-place l = length l.text - l.place
