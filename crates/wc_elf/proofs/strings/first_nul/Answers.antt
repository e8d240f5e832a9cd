use Rattle.std.proofs.Common.{◌∙◌, sym, arith}
use Rattle.wc_elf.proofs.Nuls.{nul_here, nul_later}
use Rattle.wc_elf.proofs.strings.first_nul.Goals as goal

pub returns-then-strings-place-eq0 : goal.returns-then-strings-place-eq0
returns-then-strings-place-eq0 c = sym (nul_here c.args.strings.now c.loop-place.place (omega arith) (grind arith)) ∙ c.loop-place.invariant

pub loop-place-preserved : goal.loop-place-preserved
loop-place-preserved c = sym (nul_later c.args.strings.now c.loop-place.place (omega arith) (grind arith)) ∙ c.loop-place.invariant
