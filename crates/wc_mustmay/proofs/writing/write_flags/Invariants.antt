use Rattle.std.proofs.Common.{◌≡◌, ◌<◌, ◌≤◌, ℕ, None, false, get_or, length}
use Rattle.wc_mustmay.specs.Inner.OneSet.{new_flag}
use Rattle.wc_mustmay.proofs.writing.write_flags.Given as goal

abbrev pub invariant-loop-node : goal.invariant-loop-node
invariant-loop-node g l =
    record {
      count : length l.flags.items ≡ length l.initial.flags.items;
      written : (p : ℕ) → p < l.node → get_or l.flags.items p false ≡ new_flag g.L.Holds.ages (get_or l.states p None) (get_or l.lines p None) (get_or l.initial.flags.items p false);
      later : (p : ℕ) → l.node ≤ p → get_or l.flags.items p false ≡ get_or l.initial.flags.items p false;
    }
