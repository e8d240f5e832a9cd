use Rattle.std.proofs.Common.{arith}
use Rattle.wc_hw.proofs.Stated.{read_back}
use Rattle.wc_hw.proofs.printing.states.Goals as goal

pub returns : goal.returns
returns c =
    let y = c.args.hardware.cycles in
    let small = c.well_formed in
    read_back c.args.hardware (record {
      alu = omega (arith, small);
      mul = omega (arith, small);
      div = omega (arith, small);
      load = omega (arith, small);
      store = omega (arith, small);
      multi = omega (arith, small);
      branch = omega (arith, small);
      system = omega (arith, small);
      taken = omega (arith, small);
      per_register = omega (arith, small);
      hit = omega (arith, small);
      miss = omega (arith, small);
    })
