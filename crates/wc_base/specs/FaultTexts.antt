-- A fault's printed text: its number, its name and its place, with one space between them.
use Rattle.std.specs.Prelude.{ℕ, ◌+◌, ◌/◌, ◌%◌, ◌^◌, nat_lt, if◌then◌else◌, List, [], ◌∷◌, ◌++◌, codes, decimal}
use Rattle.wc_base.specs.declared.faults.FileWord.{FileWord}
use Rattle.wc_base.specs.declared.faults.FileWord.TheVariants as file
use Rattle.wc_base.specs.declared.faults.FieldWord.{FieldWord}
use Rattle.wc_base.specs.declared.faults.FieldWord.TheVariants as field
use Rattle.wc_base.specs.declared.faults.UnbuiltWord.{UnbuiltWord}
use Rattle.wc_base.specs.declared.faults.UnbuiltWord.TheVariants as unbuilt
use Rattle.wc_base.specs.declared.faults.Fault.{Fault}
use Rattle.wc_base.specs.declared.faults.Fault.TheVariants.{Truncated, NotArm, BadTable, NoSymbol, Thumb, LongFile, BadJson, BadField, BadFact, UnknownLabel, TooLarge, OutOfText, UnknownInstruction, Unresolved, Recursion, NoExit, Irreducible, Unbounded, NumberLimit, SystemLimit, PivotLimit, NoPath, BadCommand, LongLine, NoFact, TooMuch, Unbuilt}

-- one small hexadecimal digit
abbrev pub hex_digit : ℕ → ℕ
hex_digit d = if nat_lt d 10 then d + 48 else d + 87

-- `0x` and eight small hexadecimal digits
abbrev pub address : ℕ → List ℕ
address at = 48 ∷ 120 ∷ hex_digit (at / 2 ^ 28 % 16) ∷ hex_digit (at / 2 ^ 24 % 16) ∷ hex_digit (at / 2 ^ 20 % 16) ∷ hex_digit (at / 2 ^ 16 % 16)
    ∷ hex_digit (at / 2 ^ 12 % 16) ∷ hex_digit (at / 2 ^ 8 % 16) ∷ hex_digit (at / 2 ^ 4 % 16) ∷ hex_digit (at % 16) ∷ []

abbrev pub file_text : FileWord → List ℕ
file_text file.Binary = codes "binary"
file_text file.Hardware = codes "hardware"
file_text file.Facts = codes "facts"

abbrev pub field_text : FieldWord → List ℕ
field_text field.Root = codes "root"
field_text field.Cycles = codes "cycles"
field_text field.Alu = codes "alu"
field_text field.Mul = codes "mul"
field_text field.Div = codes "div"
field_text field.Load = codes "load"
field_text field.Store = codes "store"
field_text field.Multi = codes "multi"
field_text field.Branch = codes "branch"
field_text field.System = codes "system"
field_text field.Taken = codes "taken"
field_text field.PerRegister = codes "per_register"
field_text field.Icache = codes "icache"
field_text field.Sets = codes "sets"
field_text field.Ways = codes "ways"
field_text field.Line = codes "line"
field_text field.Hit = codes "hit"
field_text field.Miss = codes "miss"
field_text field.Start = codes "start"

abbrev pub unbuilt_text : UnbuiltWord → List ℕ
unbuilt_text unbuilt.Binary = codes "binary"
unbuilt_text unbuilt.Facts = codes "facts"
unbuilt_text unbuilt.Icache = codes "icache"
unbuilt_text unbuilt.Code = codes "code"

abbrev pub fault_text : Fault → List ℕ
fault_text (Truncated n) = codes "1 Truncated offset " ++ decimal n
fault_text (NotArm n) = codes "2 NotArm offset " ++ decimal n
fault_text (BadTable n) = codes "3 BadTable offset " ++ decimal n
fault_text NoSymbol = codes "4 NoSymbol"
fault_text (Thumb at) = codes "5 Thumb " ++ address at
fault_text (LongFile word) = codes "6 LongFile " ++ file_text word
fault_text BadJson = codes "10 BadJson"
fault_text (BadField word) = codes "11 BadField " ++ field_text word
fault_text (BadFact n) = codes "12 BadFact line " ++ decimal n
fault_text (UnknownLabel n) = codes "13 UnknownLabel line " ++ decimal n
fault_text TooLarge = codes "20 TooLarge"
fault_text (OutOfText at) = codes "21 OutOfText " ++ address at
fault_text (UnknownInstruction at) = codes "22 UnknownInstruction " ++ address at
fault_text (Unresolved at) = codes "23 Unresolved " ++ address at
fault_text (Recursion at) = codes "24 Recursion " ++ address at
fault_text NoExit = codes "25 NoExit"
fault_text (Irreducible at) = codes "30 Irreducible " ++ address at
fault_text (Unbounded at) = codes "31 Unbounded " ++ address at
fault_text NumberLimit = codes "40 NumberLimit"
fault_text SystemLimit = codes "41 SystemLimit"
fault_text PivotLimit = codes "42 PivotLimit"
fault_text NoPath = codes "43 NoPath"
fault_text BadCommand = codes "50 BadCommand"
fault_text LongLine = codes "51 LongLine"
fault_text NoFact = codes "52 NoFact"
fault_text TooMuch = codes "53 TooMuch"
fault_text (Unbuilt word) = codes "90 Unbuilt " ++ unbuilt_text word
