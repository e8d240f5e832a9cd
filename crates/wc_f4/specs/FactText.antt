-- The printed text of a flow fact.
use Rattle.std.specs.Prelude.{ℕ, ◌==◌, if◌then◌else◌, List, [], ◌∷◌, ◌++◌, codes, decimal, flat_map, Option, None, Some}
use Rattle.wc_base.specs.FaultTexts.{address}
use Rattle.wc_model.specs.declared.flow_facts.Fact.{Fact}
use Rattle.wc_model.specs.declared.flow_facts.Fact.TheVariants.{Loop, Multibranch, Multicall, Noreturn, Checksum, Limit}
use Rattle.wc_model.specs.declared.flow_facts.Term.{Term}
use Rattle.wc_model.specs.declared.flow_facts.Term.TheVariants.{Constant, Visits}

-- the texts of the items, each behind a separator
abbrev pub separated : {X : Type 0} → List ℕ → (X → List ℕ) → List X → List ℕ
separated separator text xs = flat_map (λ x. separator ++ text x) xs

-- the texts of the items, with a separator between two of them
abbrev pub between : {X : Type 0} → List ℕ → (X → List ℕ) → List X → List ℕ
between separator text [] = []
between separator text (x ∷ xs) = text x ++ separated separator text xs

abbrev pub bound_text : Option ℕ → List ℕ
bound_text None = codes "?"
bound_text (Some n) = decimal n

abbrev pub addresses_text : List ℕ → List ℕ
addresses_text addresses = between (codes ", ") address addresses

-- addresses behind the first one
abbrev pub more_addresses_text : List ℕ → List ℕ
more_addresses_text addresses = separated (codes ", ") address addresses

abbrev pub within_text : List ℕ → List ℕ
within_text [] = []
within_text (at ∷ more) = codes " in " ++ addresses_text (at ∷ more)

-- once is written without its number
abbrev pub times_text : ℕ → List ℕ
times_text times = if times == 1 then [] else decimal times ++ codes " * "

abbrev pub visited_text : ℕ → List ℕ → List ℕ
visited_text at within = (codes "[" ++ address at) ++ (within_text within ++ codes "]")

abbrev pub visits_text : ℕ → ℕ → List ℕ → List ℕ
visits_text times at within = times_text times ++ visited_text at within

abbrev pub term_text : Term → List ℕ
term_text (Constant n) = decimal n
term_text (Visits times at within) = visits_text times at within

-- terms behind the first one
abbrev pub more_terms_text : List Term → List ℕ
more_terms_text terms = separated (codes " + ") term_text terms

abbrev pub sum_text : List Term → List ℕ
sum_text terms = between (codes " + ") term_text terms

-- a loop without its call string
abbrev pub bounded_text : ℕ → Option ℕ → List ℕ
bounded_text at bound = codes "loop " ++ address at ++ codes " " ++ bound_text bound

abbrev pub loop_text : ℕ → Option ℕ → List ℕ → List ℕ
loop_text at bound within = bounded_text at bound ++ (within_text within ++ codes ";")

abbrev pub branching_text : List ℕ → ℕ → List ℕ → List ℕ
branching_text word at to = (word ++ (address at ++ codes " to ")) ++ (addresses_text to ++ codes ";")

abbrev pub checksum_text : List ℕ → ℕ → List ℕ
checksum_text name value = codes "checksum \"" ++ name ++ codes "\" " ++ decimal value ++ codes ";"

-- the right side of an inequality, with the sign before it and the fact's end
abbrev pub last_side_text : List Term → List ℕ
last_side_text right = (codes " <= " ++ sum_text right) ++ codes ";"

abbrev pub limit_text : List Term → List Term → List ℕ
limit_text left right = (codes "limit " ++ sum_text left) ++ last_side_text right

abbrev pub fact_text : Fact → List ℕ
fact_text (Loop at bound within) = loop_text at bound within
fact_text (Multibranch at to) = branching_text (codes "multibranch ") at to
fact_text (Multicall at to) = branching_text (codes "multicall ") at to
fact_text (Noreturn at) = codes "noreturn " ++ address at ++ codes ";"
fact_text (Checksum name value) = checksum_text name value
fact_text (Limit left right) = limit_text left right
