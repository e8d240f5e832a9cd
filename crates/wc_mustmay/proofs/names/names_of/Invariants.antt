use Rattle.std.proofs.Common.{◌≡◌, take}
use Rattle.std.specs.List.{flat_map}
use Rattle.wc_mustmay.specs.Inner.Names.{lines_in}
use Rattle.wc_mustmay.proofs.names.names_of.Given as goal

abbrev pub invariant-loop-line : goal.invariant-loop-line
invariant-loop-line l = l.names.items ≡ flat_map lines_in (take l.line-index l.own)
