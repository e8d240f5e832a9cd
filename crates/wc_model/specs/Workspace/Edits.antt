-- The inputs of a bound, what an edit of them touches, and the inputs after some edits.
use Rattle.std.specs.Prelude.{ℕ, ◌+◌, Bool, true, false, not, ◌==◌, List, [], ◌∷◌, ◌++◌, take, filter, find, Option, None, Some, ◌≡◌}
use Rattle.std.specs.List.{flat_map}
use Rattle.std.specs.Option.{option_map}
use Rattle.wc_model.specs.declared.elf_image.Image.{Image}
use Rattle.wc_model.specs.declared.entries.Entry.{Entry}
use Rattle.wc_model.specs.declared.entries.Entry.TheVariants.{Edit as EditEntry}
use Rattle.wc_model.specs.declared.flow_facts.Fact.{Fact}
use Rattle.wc_model.specs.declared.flow_facts.Fact.TheVariants.{Loop, Multibranch, Multicall, Noreturn, Checksum, Limit}
use Rattle.wc_model.specs.declared.machine.Hardware.{Hardware}
use Rattle.wc_model.specs.declared.inputs.Inputs.{Inputs}
use Rattle.wc_model.specs.declared.inputs.Edit.{Edit}
use Rattle.wc_model.specs.declared.inputs.Edit.TheVariants.{Add, Drop, Hardware as Timing}
use Rattle.wc_model.specs.declared.kinds.Part.{Part}
use Rattle.wc_model.specs.declared.kinds.Part.TheVariants.{Steer, Loops, Limits, Cache as CachePart, Cycles as CyclesPart}
use Rattle.wc_model.specs.Workspace.Firsts.{without_first}
use Rattle.wc_model.specs.Workspace.Hardware.{default_hardware, same_cycles, same_cache}

-- The inputs by value. A live fact stands beside its number, which is the count of the edit that added it.
pub record Setting : Type 0 where
  pub image : Image
  pub facts : List (ℕ × Fact)
  pub hardware : Hardware

abbrev pub setting_of : Inputs → Setting
setting_of inputs = record { image = inputs.image.value; facts = inputs.facts; hardware = inputs.hardware }

-- Before the first edit there are no facts, and the hardware is the default one.
abbrev pub bare : Image → Setting
bare image = record { image = image; facts = []; hardware = default_hardware }

-- Facts with their numbers, from a first number on.
abbrev pub numbered : ℕ → List Fact → List (ℕ × Fact)
numbered number [] = []
numbered number (f ∷ fs) = (number, f) ∷ numbered (number + 1) fs

-- The live fact with a number, and the live facts without it. No two of them have the same number.
abbrev pub fact_numbered : ℕ → List (ℕ × Fact) → Option Fact
fact_numbered number facts = option_map (λ f. f.1) (find (λ f. f.0 == number) facts)

abbrev pub without_number : ℕ → List (ℕ × Fact) → List (ℕ × Fact)
without_number number facts = without_first (λ f. f.0 == number) facts

-- The inputs after the edit that is counted `count`.
abbrev pub edited : ℕ → Setting → Edit → Setting
edited count s (Add fact) = record s { facts = s.facts ++ (count, fact) ∷ [] }
edited count s (Drop number) = record s { facts = without_number number s.facts }
edited count s (Timing hardware) = record s { hardware = hardware }

-- The inputs after a list of edits, the first of which is counted `count + 1`.
abbrev pub all_edited : ℕ → Setting → List Edit → Setting
all_edited count s [] = s
all_edited count s (e ∷ es) = all_edited (count + 1) (edited (count + 1) s e) es

-- The accepted edits of a history, in order.
abbrev pub edit_of : Entry → List Edit
edit_of (EditEntry session count edit) = edit ∷ []
edit_of _ = []

abbrev pub edits_of : List Entry → List Edit
edits_of history = flat_map edit_of history

-- The inputs after the first `n` accepted edits.
abbrev pub after_edits : Image → ℕ → List Edit → Setting
after_edits image n edits = all_edited 0 (bare image) (take n edits)

abbrev pub after : Image → ℕ → List Entry → Setting
after image n history = after_edits image n (edits_of history)

-- The part that a fact belongs to: control flow, loop bounds or stated limits. A checksum belongs to none.
abbrev pub is_checksum : Fact → Bool
is_checksum (Checksum name value) = true
is_checksum _ = false

abbrev pub belongs : Part → Fact → Bool
belongs Steer (Multibranch at to) = true
belongs Steer (Multicall at to) = true
belongs Steer (Noreturn at) = true
belongs Loops (Loop at bound within) = true
belongs Limits (Limit left right) = true
belongs _ _ = false

abbrev pub touches_fact : Part → Option Fact → Bool
touches_fact part None = false
touches_fact part (Some fact) = belongs part fact

-- Whether an edit touches a part of the inputs that it finds. Dropping a fact touches what adding it does.
abbrev pub touches : Part → Setting → Edit → Bool
touches part s (Add fact) = belongs part fact
touches part s (Drop number) = touches_fact part (fact_numbered number s.facts)
touches CyclesPart s (Timing hardware) = not (same_cycles s.hardware.cycles hardware.cycles)
touches CachePart s (Timing hardware) = not (same_cache s.hardware.cache hardware.cache)
touches _ s (Timing hardware) = false

-- Two inputs agree on a part.
abbrev pub AgreeOn : Setting → Setting → Part → Type 0
AgreeOn a b CyclesPart = a.hardware.cycles ≡ b.hardware.cycles
AgreeOn a b CachePart = a.hardware.cache ≡ b.hardware.cache
AgreeOn a b part = filter (λ f. belongs part f.1) a.facts ≡ filter (λ f. belongs part f.1) b.facts

-- Two inputs have the same binary and agree on all of some parts.
abbrev pub AgreeOnAll : Setting → Setting → List Part → Type 0
AgreeOnAll a b [] = a.image ≡ b.image
AgreeOnAll a b (part ∷ parts) = AgreeOn a b part × AgreeOnAll a b parts
