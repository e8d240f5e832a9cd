-- What each fact of a text is like: its numbers have 32 bits, no list is empty but one of a call string, and a name could stand between quotation marks.
use Rattle.std.specs.Prelude.{◌≡◌, ℕ, ◌<◌, ◌^◌, true, List, [], ◌∷◌, IfSome}
use Rattle.std.specs.List.{AllByRecursion}
use Rattle.wc_model.specs.declared.flow_facts.Fact.{Fact}
use Rattle.wc_model.specs.declared.flow_facts.Fact.TheVariants.{Loop, Multibranch, Multicall, Noreturn, Checksum, Limit}
use Rattle.wc_model.specs.declared.flow_facts.Term.{Term}
use Rattle.wc_model.specs.declared.flow_facts.Term.TheVariants.{Constant, Visits}
use Rattle.wc_f4.specs.Bytes.{is_quoted}

abbrev pub IsSmall : ℕ → Type 0
IsSmall n = n < 2 ^ 32

abbrev pub IsFilled : {X : Type 0} → List X → Type 0
IsFilled [] = ⊥
IsFilled (x ∷ xs) = Unit {0}

abbrev pub IsStatedTerm : Term → Type 0
IsStatedTerm (Constant n) = IsSmall n
IsStatedTerm (Visits times at within) = IsSmall times × IsSmall at × AllByRecursion IsSmall within

abbrev pub IsStated : Fact → Type 0
IsStated (Loop at bound within) = IsSmall at × IfSome bound IsSmall × AllByRecursion IsSmall within
IsStated (Multibranch at to) = IsSmall at × IsFilled to × AllByRecursion IsSmall to
IsStated (Multicall at to) = IsSmall at × IsFilled to × AllByRecursion IsSmall to
IsStated (Noreturn at) = IsSmall at
IsStated (Checksum name value) = AllByRecursion (λ b. is_quoted b ≡ true) name × IsSmall value
IsStated (Limit left right) = IsFilled left × AllByRecursion IsStatedTerm left × IsFilled right × AllByRecursion IsStatedTerm right
