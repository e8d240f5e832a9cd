-- What a line of a session's script says, and which command it is.
use Rattle.std.specs.Prelude.{◌≡◌, ℕ, ◌^◌, ◌<◌, ◌==◌, Bool, true, not, ◌||◌, ◌⊎◌, List, ◌++◌, length, codes, Result, Ok, Err}
use Rattle.std.specs.List.{list_all}
use Rattle.wc_base.specs.Decimals.{IsDecimal}
use Rattle.wc_base.specs.declared.faults.Fault.{Fault}
use Rattle.wc_base.specs.declared.faults.Fault.TheVariants.{BadCommand}
use Rattle.wc_base.specs.declared.troubles.Trouble.{Trouble}
use Rattle.wc_base.specs.declared.troubles.Trouble.TheVariants.{Fault as Refused, Memory}
use Rattle.wc_f4.specs.Reading.{ReadsOne, names_of}
use Rattle.wc_model.specs.declared.elf_image.Image.{Image}
use Rattle.wc_model.specs.declared.machine.Hardware.{Hardware}
use Rattle.wc_hw.specs.Reading.{ReadsAs}
use Rattle.wc_session.specs.declared.commands.Command.{Command}
use Rattle.wc_session.specs.declared.commands.Command.TheVariants as command

-- a space or a tab
abbrev pub is_blank : ℕ → Bool
is_blank b = b == 32 || b == 9

-- decimal digits that state a number below 2^64
abbrev pub IsNumber : List ℕ → ℕ → Type 0
IsNumber digits number = IsDecimal digits number × (number < 2 ^ 64)

-- a name isn't empty and has no space or tab
pub record IsName (name : List ℕ) : Type 0 where
  pub some : 0 < length name
  pub all : list_all (λ b. not (is_blank b)) name ≡ true

-- the forms of a line
pub data Form : Type 0 where
  blank : Form
  adds : List ℕ → Form
  drops : ℕ → Form
  sets : List ℕ → Form
  asks : List ℕ → Form
  lists : Form
  quits : Form

-- exactly one space stands where one is shown, and a fact or a JSON value is all that follows it
abbrev pub Says : List ℕ → Form → Type 0
Says line blank = list_all is_blank line ≡ true
Says line (adds fact) = line ≡ codes "add " ++ fact
Says line (drops number) = (digits : List ℕ) × (line ≡ codes "drop " ++ digits) × IsNumber digits number
Says line (sets json) = line ≡ codes "hardware " ++ json
Says line (asks name) = (line ≡ codes "bound " ++ name) × IsName name
Says line lists = line ≡ codes "list"
Says line quits = line ≡ codes "quit"

-- The command of a line that is accepted. Names in a fact are those of the image.
abbrev pub IsCommand : Image → List ℕ → Command → Type 0
IsCommand image line command.Blank = Says line blank
IsCommand image line command.Quit = Says line quits
IsCommand image line command.List = Says line lists
IsCommand image line (command.Bound name) = Says line (asks name)
IsCommand image line (command.Hardware hardware) = (json : List ℕ) × Says line (sets json) × ReadsAs json (Ok hardware)
IsCommand image line (command.Add fact) = (text : List ℕ) × Says line (adds text) × ReadsOne (names_of image) text (Ok fact)
IsCommand image line (command.Drop number) = Says line (drops number)

-- The fault of a line that is refused: it has none of the forms, or its fact or its hardware is refused.
abbrev pub IsFaulty : Image → List ℕ → Fault → Type 0
IsFaulty image line fault =
    ((fault ≡ BadCommand) × ((form : Form) → Says line form → ⊥))
    ⊎ (((text : List ℕ) × Says line (adds text) × ReadsOne (names_of image) text (Err (Refused fault)))
    ⊎ ((json : List ℕ) × Says line (sets json) × ReadsAs json (Err (Refused fault))))

-- What reading the rest of a line answers, behind the word of its form.
abbrev pub ReadsName : List ℕ → Result (List ℕ) Trouble → Type 0
ReadsName bytes (Ok name) = (name ≡ bytes) × IsName bytes
ReadsName bytes (Err (Refused fault)) = (fault ≡ BadCommand) × (IsName bytes → ⊥)
ReadsName bytes (Err (Memory _)) = Unit {0}

-- What reading a line answers. Neither a blank line nor `quit` takes memory.
abbrev pub Reads : Image → List ℕ → Result Command Trouble → Type 0
Reads image line (Ok command) = IsCommand image line command
Reads image line (Err (Refused fault)) = IsFaulty image line fault
Reads image line (Err (Memory _)) = (Says line blank → ⊥) × (Says line quits → ⊥)
