-- The numbers by which users know the faults.
use Rattle.std.specs.Prelude.{ℕ}
use Rattle.wc_base.specs.declared.faults.Fault.{Fault}
use Rattle.wc_base.specs.declared.faults.Fault.TheVariants.{Truncated, NotArm, BadTable, NoSymbol, Thumb, LongFile, BadJson, BadField, BadFact, UnknownLabel, TooLarge, OutOfText, UnknownInstruction, Unresolved, Recursion, NoExit, Irreducible, Unbounded, NumberLimit, SystemLimit, PivotLimit, NoPath, BadCommand, LongLine, NoFact, TooMuch, Unbuilt}

abbrev pub number_of : Fault → ℕ
number_of (Truncated _) = 1
number_of (NotArm _) = 2
number_of (BadTable _) = 3
number_of NoSymbol = 4
number_of (Thumb _) = 5
number_of (LongFile _) = 6
number_of BadJson = 10
number_of (BadField _) = 11
number_of (BadFact _) = 12
number_of (UnknownLabel _) = 13
number_of TooLarge = 20
number_of (OutOfText _) = 21
number_of (UnknownInstruction _) = 22
number_of (Unresolved _) = 23
number_of (Recursion _) = 24
number_of NoExit = 25
number_of (Irreducible _) = 30
number_of (Unbounded _) = 31
number_of NumberLimit = 40
number_of SystemLimit = 41
number_of PivotLimit = 42
number_of NoPath = 43
number_of BadCommand = 50
number_of LongLine = 51
number_of NoFact = 52
number_of TooMuch = 53
number_of (Unbuilt _) = 90
