-- Texts of three parts, written one after the other.
use Rattle.std.proofs.Common.{ℕ, List, ◌++◌, Option, Result}
use Rattle.std.proofs.KnownBytes.{Appends-trans}
use Rattle.std.specs.Io.KnownBytes.{Appends}
use Rattle.wc_io.specs.Writing.{AppendsPart, Writes}
use Rattle.wc_io.proofs.WritingLemmas.{Writes_after, part_after, part_longer}

module _ (a b c : Option (List ℕ)) (front middle end : List ℕ) (first : Appends a b front) where
  pub all_three : {E : Type 0} (d : Option (List ℕ)) (result : Result (Unit {0}) E) → Appends b c middle → Writes c d result end → Writes a d result ((front ++ middle) ++ end)
  all_three d result second third = Writes_after a c d result (front ++ middle) end (Appends-trans a b c front middle first second) third

  pub part_of_two : AppendsPart b c middle → AppendsPart a c ((front ++ middle) ++ end)
  part_of_two part = part_longer a c (front ++ middle) end (part_after a b c front middle first part)

pub part_of_first : (a b : Option (List ℕ)) (front middle end : List ℕ) → AppendsPart a b front → AppendsPart a b ((front ++ middle) ++ end)
part_of_first a b front middle end part = part_longer a b (front ++ middle) end (part_longer a b front middle part)
