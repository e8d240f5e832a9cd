-- What the parts of a check answer.
use Rattle.std.specs.Prelude.{ℕ, ◌≡◌, ◌==◌, Bool, ℤ, pos, neg_ℤ, ◌+ℤ◌, ◌*ℤ◌, List, Option, Some, All, length, slice_get}
use Rattle.std.specs.Bool.{MatchBool}
use Rattle.wc_base.specs.Sums.{chosen}
use Rattle.wc_model.specs.declared.flow_system.System.{System}
use Rattle.wc_model.specs.declared.flow_system.SystemLimit.{SystemLimit}
use Rattle.wc_model.specs.declared.flow_system.SystemLoop.{SystemLoop}
use Rattle.wc_model.specs.declared.flow_system.SystemStep.{SystemStep}
use Rattle.wc_model.specs.Flow.Certificates.{factor_of}
use Rattle.wc_model.specs.Flow.Counts.{IsBounded, IsLimited, out_of}
use Rattle.wc_model.specs.Flow.Places.{is_listed, number_at}
use Rattle.wc_model.specs.Flow.SystemWalks.{cost_at}
use Rattle.wc_model.specs.Flow.Systems.{leads_to}
use Rattle.wc_dual.specs.Checks.{IsChecked}
use Rattle.wc_dual.specs.declared.checks.Check.{Check}
use Rattle.wc_dual.specs.declared.prices.PriceLists.{PriceLists}
use Rattle.wc_dual.specs.Wide.{IsOut, IsWideCount, IsWidePrice}
use Rattle.wc_dual.specs.Inner.Blocks.{Adds, AreBalances, CannotPut, CannotTake, IsTurn, LeavesIn, balance_of}
use Rattle.wc_dual.specs.Inner.Limits.{HasWideLimit, HasWideTerm, IsWideLimit, IsWideTerm, factor_term}
use Rattle.wc_dual.specs.Inner.Lines.{AreLines, AreMet, ArePriced, AreStarts, HasWideBound, HasWideCost, HasWideFactor, HasWideStart, IsStepPaid, IsWideBound, IsWideFactor, back_term, entry_term, limit_term, listed}
use Rattle.wc_dual.specs.Inner.Parts.{AreBalanced, HasWideLoop, HasWideNode, IsBlock, IsExact, IsWideLoop}
use Rattle.wc_dual.specs.Inner.Passes.{IsPass, IsRowTurn, IsSum, IsTerm}
use Rattle.wc_dual.specs.Inner.Shapes.{AreCounts}
use Rattle.wc_dual.specs.Inner.Values.{HasWideConstant, HasWideRound, HasWideValue, IsWideRound, constant_term, round_term, value_term}

-- the element at a place
abbrev pub At : {X : Type 0} → List X → ℕ → (X → Type 0) → Type 0
At {X} xs place P = (x : X) → slice_get xs place ≡ Some x → P x

-- Sums of a block.
abbrev pub IsPut : ℕ → ℕ → ℤ → List ℤ → List ℤ → Bool → Type 0
IsPut first node amount old new b = MatchBool b (Adds first (λ p. chosen (node == p) amount) old new) (CannotPut first node amount old)

abbrev pub IsTaken : ℕ → Option ℕ → ℤ → List ℤ → List ℤ → Bool → Type 0
IsTaken first node amount old new b = MatchBool b (Adds first (λ p. neg_ℤ (chosen (leads_to node p) amount)) old new) (CannotTake first node amount old)

abbrev pub AreNodeSums : List SystemStep → List ℤ → ℕ → List ℤ → List ℤ → Bool → Type 0
AreNodeSums steps x first old new b = MatchBool b (AreBalances steps (number_at x) first (length steps) new) (LeavesIn steps (number_at x) first (length old))

abbrev pub AddsBalance : List ℤ → ℕ → ℕ → List ℤ → List ℤ → Bool → SystemStep → Type 0
AddsBalance x place first old new b t = IsTurn first (balance_of (number_at x place) t) old new b

abbrev pub AddsVisit : List ℤ → ℕ → ℕ → ℤ → Option ℤ → SystemStep → Type 0
AddsVisit x place node sum next t = IsExact (sum +ℤ chosen (t.source == node) (number_at x place)) next

-- The rows of the counts.
abbrev pub ChecksFlow : System → ℤ → List ℤ → Check → Type 0
ChecksFlow s den x r = IsChecked (AreBalanced s den (number_at x) s.nodes) (HasWideNode s (number_at x)) r

abbrev pub ChecksBlock : System → ℤ → List ℤ → ℕ → ℕ → Check → Type 0
ChecksBlock s den x first count r = IsChecked (IsBlock s den (number_at x) first count) (HasWideNode s (number_at x)) r

abbrev pub ChecksLoops : System → ℤ → List ℤ → Check → Type 0
ChecksLoops s den x r = IsChecked (All (IsBounded s.start den (number_at x)) s.loops) (HasWideLoop s den (number_at x)) r

abbrev pub ChecksLoop : ℕ → ℤ → List ℤ → SystemLoop → Check → Type 0
ChecksLoop start den x l r = IsChecked (IsBounded start den (number_at x) l) (IsWideLoop start den (number_at x) l) r

abbrev pub ChecksLimits : System → ℤ → List ℤ → Check → Type 0
ChecksLimits s den x r = IsChecked (All (IsLimited s.steps den (number_at x)) s.limits) (HasWideLimit s den (number_at x)) r

abbrev pub ChecksLimit : List SystemStep → ℤ → List ℤ → SystemLimit → Check → Type 0
ChecksLimit steps den x l r = IsChecked (IsLimited steps den (number_at x) l) (IsWideLimit steps den (number_at x) l) r

abbrev pub ChecksCounts : System → ℤ → List ℤ → Check → Type 0
ChecksCounts s den x r = IsChecked (AreCounts s den (number_at x)) (IsWideCount s den (number_at x)) r

abbrev pub IsFactorSum : List SystemStep → List ℤ → List (ℕ × ℤ) → Option ℤ → Type 0
IsFactorSum steps x factors sum = IsSum (HasWideTerm steps (number_at x) factors) (pos 0) (factor_term steps (number_at x)) factors sum

abbrev pub IsFactorTerm : List SystemStep → List ℤ → ℕ × ℤ → ℤ → Option ℤ → Type 0
IsFactorTerm steps x f sum next = IsTerm (IsWideTerm steps (number_at x) f) sum (f.1 *ℤ out_of steps (number_at x) f.0) next

-- The lines of the steps.
abbrev pub AddsEntries : List SystemLoop → List ℤ → ℕ → List ℤ → List ℤ → Bool → Type 0
AddsEntries loops v first old new b = IsPass (HasWideBound loops (number_at v)) (entry_term (number_at v)) loops first old new b

abbrev pub AddsBack : List ℤ → ℕ → ℕ → List ℤ → List ℤ → Bool → SystemLoop → Type 0
AddsBack v place first old new b l = IsTurn first (back_term (number_at v) place l) old new b

abbrev pub AddsEntry : List ℤ → ℕ → ℕ → List ℤ → List ℤ → Bool → SystemLoop → Type 0
AddsEntry v place first old new b l = IsRowTurn (IsWideBound l (number_at v place)) first (entry_term (number_at v) place l) old new b

abbrev pub TakesEntries : SystemLoop → ℤ → ℕ → List ℤ → List ℤ → Bool → Type 0
TakesEntries l price first old new b = IsRowTurn (IsWideBound l price) first (λ i. neg_ℤ (chosen (is_listed i l.entry) (pos l.bound *ℤ price))) old new b

abbrev pub AddsLimits : List SystemStep → List SystemLimit → List ℤ → ℕ → List ℤ → List ℤ → Bool → Type 0
AddsLimits steps limits w first old new b = IsPass (HasWideFactor steps limits (number_at w)) (limit_term steps (number_at w)) limits first old new b

abbrev pub AddsLimit : List SystemStep → List ℤ → ℕ → ℕ → List ℤ → List ℤ → Bool → SystemLimit → Type 0
AddsLimit steps w place first old new b l = IsRowTurn (IsWideFactor steps l (number_at w place)) first (limit_term steps (number_at w) place l) old new b

abbrev pub PaysLimit : List SystemStep → SystemLimit → ℤ → ℕ → List ℤ → List ℤ → Bool → Type 0
PaysLimit steps l price first old new b = IsRowTurn (IsWideFactor steps l price) first (λ i. cost_at (λ t. factor_of t.source l.factors *ℤ price) (slice_get steps i)) old new b

abbrev pub PaysStep : ℕ → ℕ × ℤ → ℤ → ℕ → List ℤ → List ℤ → Bool → SystemStep → Type 0
PaysStep place f price first old new b t = IsStepPaid place t f price first old new b

abbrev pub ChecksLines : System → PriceLists → ℤ → ℕ → ℕ → Check → Type 0
ChecksLines s prices scale from to r = IsChecked (ArePriced s (listed prices) scale from to) (IsWidePrice s scale (listed prices)) r

abbrev pub AreBlockLines : System → PriceLists → ℕ → List ℤ → Bool → Type 0
AreBlockLines s prices first sums b = MatchBool b (AreLines s (listed prices) first sums) ((scale : ℤ) → IsWidePrice s scale (listed prices))

abbrev pub OpensLines : List SystemStep → List ℤ → ℕ → ℕ → List ℤ → Bool → Type 0
OpensLines steps u first count sums b = MatchBool b (AreStarts steps (number_at u) first count sums) (HasWideStart steps (number_at u))

abbrev pub MeetsCosts : List SystemStep → ℤ → ℕ → List ℤ → Check → Type 0
MeetsCosts steps scale first sums r = IsChecked (AreMet steps scale first (length sums) sums) (HasWideCost steps scale) r

-- The values.
abbrev pub IsValueSum : List SystemStep → List ℤ → Option ℤ → Type 0
IsValueSum steps x sum = IsSum (HasWideValue steps (number_at x)) (pos 0) (value_term (number_at x)) steps sum

abbrev pub IsValueTerm : List ℤ → ℕ → ℤ → Option ℤ → SystemStep → Type 0
IsValueTerm x place sum next t = IsTerm (IsOut (value_term (number_at x) place t)) sum (value_term (number_at x) place t) next

abbrev pub IsRoundSum : ℕ → List SystemLoop → List ℤ → ℤ → Option ℤ → Type 0
IsRoundSum start loops v begin sum = IsSum (HasWideRound start loops (number_at v)) begin (round_term start (number_at v)) loops sum

abbrev pub IsRoundTerm : ℕ → List ℤ → ℕ → ℤ → Option ℤ → SystemLoop → Type 0
IsRoundTerm start v place sum next l = IsTerm (IsWideRound start l (number_at v place)) sum (round_term start (number_at v) place l) next

abbrev pub IsPriceTerm : ℕ → SystemLoop → ℤ → ℤ → Option ℤ → Type 0
IsPriceTerm start l price sum next = IsTerm (IsWideRound start l price) sum (round_term start (λ _. price) 0 l) next

abbrev pub IsConstantSum : List SystemLimit → List ℤ → ℤ → Option ℤ → Type 0
IsConstantSum limits w begin sum = IsSum (HasWideConstant limits (number_at w)) begin (constant_term (number_at w)) limits sum

abbrev pub IsConstantTerm : List ℤ → ℕ → ℤ → Option ℤ → SystemLimit → Type 0
IsConstantTerm w place sum next l = IsTerm (IsOut (constant_term (number_at w) place l)) sum (constant_term (number_at w) place l) next
