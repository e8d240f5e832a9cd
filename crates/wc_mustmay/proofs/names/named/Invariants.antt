use Rattle.std.proofs.Common.{◌≡◌, ◌<◌, ℕ, None, All, IfSome, get_or, length}
use Rattle.wc_mustmay.specs.Inner.Names.{IsName}
use Rattle.wc_mustmay.proofs.names.named.Given as goal

abbrev pub invariant-loop-line : goal.invariant-loop-line
invariant-loop-line l =
    record {
      count : length l.named.items ≡ l.line-index;
      each : (p : ℕ) → p < l.line-index → IsName l.names (get_or l.own p None) (get_or l.named.items p None);
      small : All (λ x. IfSome x (λ k. k < length l.names)) l.named.items;
    }
