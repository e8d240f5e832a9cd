-- A made system: a loop of nodes 1, 2 and 3, where node 2 may be left out, and then a loop of nodes 4 and 5. The row
-- machine may be run on it, with any limits.
use Rattle.std.proofs.Common.{◌≡◌, ℕ, zero, suc, ◌+◌, ◌*◌, ◌<◌, ◌≤◌, ◌^◌, ℤ, pos, ◌*ℤ◌, ◌≤ℤ◌, ◌+ℤ◌, ◌-ℤ◌, List, [], ◌∷◌, length, map, slice_get, Option, None, Some, refl, sym, ap, ap₂, subst, ◌∙◌, arith}
use Rattle.std.specs.Prelude.{All, IfSome, slice_index_or}
use Rattle.std.specs.List.{range_with_len}
use Rattle.std.proofs.Math.IntN.{*ℤ-zero}
use Rattle.std.proofs.lemmas.Int.{ints}
use Rattle.std.proofs.lemmas.List.{length-map}
use Rattle.std.proofs.lemmas.List.FromFn.{get_or-range_with_len}
use Rattle.std.proofs.lemmas.Nat.{mul-le}
use Rattle.wc_base.proofs.SumLemmas.{sum_zero}
use Rattle.wc_model.specs.declared.flow_system.System.{System}
use Rattle.wc_model.specs.declared.flow_system.SystemLimit.{SystemLimit}
use Rattle.wc_model.specs.declared.flow_system.SystemLoop.{SystemLoop}
use Rattle.wc_model.specs.declared.flow_system.SystemStep.{SystemStep}
use Rattle.wc_model.specs.Flow.Cells.{cells_of, columns_of, row_count, row_nodes}
use Rattle.wc_model.specs.Flow.Certificates.{ArePrices, Prices, factor_of, limit_price, scaled, step_price}
use Rattle.wc_model.specs.Flow.Ends.{system_ends}
use Rattle.wc_model.specs.Flow.Systems.{ArePlaces, IsSystem, IsSystemLoop, named_by}
use Rattle.wc_model.specs.Flow.Walks.{Joins}
use Rattle.wc_model.specs.Program.Reaching.{Ends, IsLive, Reaches, here, along, exits, onward}

abbrev step : ℕ → Option ℕ → ℕ → SystemStep
step source target cost = record { source = source; target = target; cost = cost }

abbrev pub one_loop : ℕ → ℕ → ℕ → ℕ → SystemLoop
one_loop head bound back entry = record { head = head; bound = bound; back = back ∷ []; entry = entry ∷ [] }

limit_zero : (w : ℕ → ℤ) → ((k : ℕ) → w k ≡ pos 0) → (limits : List SystemLimit) (p : ℕ) → limit_price w limits p ≡ pos 0
limit_zero w none limits p = sum_zero (λ k l. factor_of p l.factors *ℤ w k) limits (λ k l at. ap (λ z. factor_of p l.factors *ℤ z) (none k) ∙ *ℤ-zero (factor_of p l.factors))

-- a single place
single : (count n : ℕ) → n < count → ArePlaces count (n ∷ [])
single count n below = (at, (refl, tt))
  where
    at : (k : ℕ) (d : ℕ) → k < 1 → slice_index_or (n ∷ []) k d < count
    at zero d h = below
    at (suc k) d h = absurd (omega arith)

named_once : ArePlaces 6 (range_with_len 0 6)
named_once = ((λ k d within. omega (arith, get_or-range_with_len 0 6 k d within, within)), (refl, (refl, (refl, (refl, (refl, (refl, tt)))))))

module _ (c0 c1 c2 c3 c4 c5 c6 c7 c8 first second : ℕ) (limits : List SystemLimit) where
  abbrev steps : List SystemStep
  steps =
      step 0 (Some 1) c0 ∷ step 1 (Some 2) c1 ∷ step 1 (Some 3) c2 ∷ step 2 (Some 3) c3 ∷ step 3 (Some 1) c4 ∷ step 3 (Some 4) c5 ∷ step 4 (Some 5) c6 ∷ step 5 (Some 4) c7 ∷ step 5 None c8 ∷ []

  abbrev pub made : System
  made = record { nodes = 6; steps = steps; start = 0; loops = one_loop 1 first 4 0 ∷ one_loop 4 second 7 5 ∷ []; limits = limits }

  sources : (k : ℕ) (d : SystemStep) → k < 9 → (slice_index_or steps k d).source < 6
  sources zero d h = omega arith
  sources (suc zero) d h = omega arith
  sources (suc (suc zero)) d h = omega arith
  sources (suc (suc (suc zero))) d h = omega arith
  sources (suc (suc (suc (suc zero)))) d h = omega arith
  sources (suc (suc (suc (suc (suc zero))))) d h = omega arith
  sources (suc (suc (suc (suc (suc (suc zero)))))) d h = omega arith
  sources (suc (suc (suc (suc (suc (suc (suc zero))))))) d h = omega arith
  sources (suc (suc (suc (suc (suc (suc (suc (suc zero)))))))) d h = omega arith
  sources (suc (suc (suc (suc (suc (suc (suc (suc (suc k))))))))) d h = absurd (omega arith)

  targets : (k : ℕ) (d : SystemStep) → k < 9 → IfSome (slice_index_or steps k d).target (λ q. q < 6)
  targets zero d h = omega arith
  targets (suc zero) d h = omega arith
  targets (suc (suc zero)) d h = omega arith
  targets (suc (suc (suc zero))) d h = omega arith
  targets (suc (suc (suc (suc zero)))) d h = omega arith
  targets (suc (suc (suc (suc (suc zero))))) d h = omega arith
  targets (suc (suc (suc (suc (suc (suc zero)))))) d h = omega arith
  targets (suc (suc (suc (suc (suc (suc (suc zero))))))) d h = omega arith
  targets (suc (suc (suc (suc (suc (suc (suc (suc zero)))))))) d h = tt
  targets (suc (suc (suc (suc (suc (suc (suc (suc (suc k))))))))) d h = absurd (omega arith)

  loops : first < 2 ^ 32 → second < 2 ^ 32 → (k : ℕ) (d : SystemLoop) → k < 2 → IsSystemLoop made (slice_index_or made.loops k d)
  loops few few_too zero d h = record { head = omega arith; bound = few; back = single 9 4 (omega arith); entry = single 9 0 (omega arith) }
  loops few few_too (suc zero) d h = record { head = omega arith; bound = few_too; back = single 9 7 (omega arith); entry = single 9 5 (omega arith) }
  loops few few_too (suc (suc k)) d h = absurd (omega arith)

  pub made_sound : first < 2 ^ 32 → second < 2 ^ 32 → All (λ l. named_by l ≡ range_with_len 0 6) limits → IsSystem made
  made_sound few few_too named =
      record { start = omega arith; sources = sources; targets = targets; loops = loops few few_too; limits = λ k d within. subst (ArePlaces 6) (sym (named k d within)) named_once }

  -- Five nodes have rows, and there are eight columns.
  nodes_are : length (row_nodes made) ≡ 5
  nodes_are = refl

  columns_are : length (columns_of made) ≡ 8
  columns_are = refl

  pub made_small : length limits ≤ 4 → cells_of made ≤ 250000
  made_small few =
      let most = mul-le (row_count made + 2) (length (columns_of made) + (2 + length limits) + row_count made + 2) 13 27 (omega (arith, nodes_are, few)) (omega (arith, nodes_are, columns_are, few)) in
      omega (arith, most)

  -- Each node is on a walk to the exit.
  abbrev Leads : ℕ → Option ℕ → Type 0
  Leads = Joins system_ends steps

  enters : Leads 0 (Some 1)
  enters = (step 0 (Some 1) c0, (0, omega arith, refl), refl, refl)

  into : Leads 1 (Some 2)
  into = (step 1 (Some 2) c1, (1, omega arith, refl), refl, refl)

  meets : Leads 2 (Some 3)
  meets = (step 2 (Some 3) c3, (3, omega arith, refl), refl, refl)

  leaves : Leads 3 (Some 4)
  leaves = (step 3 (Some 4) c5, (5, omega arith, refl), refl, refl)

  goes : Leads 4 (Some 5)
  goes = (step 4 (Some 5) c6, (6, omega arith, refl), refl, refl)

  ends : Leads 5 None
  ends = (step 5 None c8, (8, omega arith, refl), refl, refl)

  to_2 : Reaches Leads 0 2
  to_2 = along 2 (along 1 here enters) into

  to_4 : Reaches Leads 0 4
  to_4 = along 4 (along 3 to_2 meets) leaves

  from_4 : Ends Leads 4
  from_4 = onward 5 goes (exits ends)

  from_2 : Ends Leads 2
  from_2 = onward 3 meets (onward 4 leaves from_4)

  pub made_live : (p : ℕ) → p < 6 → IsLive Leads 0 p
  made_live zero h = (here, onward 1 enters (onward 2 into from_2))
  made_live (suc zero) h = (along 1 here enters, onward 2 into from_2)
  made_live (suc (suc zero)) h = (to_2, from_2)
  made_live (suc (suc (suc zero))) h = (along 3 to_2 meets, onward 4 leaves from_4)
  made_live (suc (suc (suc (suc zero)))) h = (to_4, from_4)
  made_live (suc (suc (suc (suc (suc zero))))) h = (along 5 to_4 goes, exits ends)
  made_live (suc (suc (suc (suc (suc (suc k)))))) h = absurd (omega arith)

  -- The prices, where `all` is at least the cost of each step: a round of a loop is worth that of each of its steps.
  module _ (all : ℕ) (is : all ≡ c0 + c1 + c2 + c3 + c4 + c5 + c6 + c7 + c8) where
    abbrev round_price : ℕ → ℤ
    round_price zero = pos (all * 3)
    round_price (suc k) = pos (all * 2)

    abbrev from_3 : ℕ
    from_3 = all * 3 + second * (all * 2)

    abbrev potential : ℕ → ℤ
    potential zero = pos (all * 3 + from_3 + first * (all * 3))
    potential (suc zero) = pos (all * 2 + from_3)
    potential (suc (suc zero)) = pos (all + from_3)
    potential (suc (suc (suc zero))) = pos from_3
    potential (suc (suc (suc (suc zero)))) = pos (all * 2)
    potential (suc (suc (suc (suc (suc p))))) = pos all

    abbrev prices : Prices
    prices = record { u = potential; v = round_price; w = λ k. pos 0 }

    unlimited : (p : ℕ) → limit_price prices.w limits p ≡ pos 0
    unlimited p = limit_zero prices.w (λ k. refl) limits p

    priced_at : (i : ℕ) → IfSome (slice_get steps i) (λ t. scaled (pos 1) t ≤ℤ step_price made prices i t)
    priced_at zero = omega (arith, ints, is, unlimited 0)
    priced_at (suc zero) = omega (arith, ints, is, unlimited 1)
    priced_at (suc (suc zero)) = omega (arith, ints, is, unlimited 1)
    priced_at (suc (suc (suc zero))) = omega (arith, ints, is, unlimited 2)
    priced_at (suc (suc (suc (suc zero)))) = omega (arith, ints, is, unlimited 3)
    priced_at (suc (suc (suc (suc (suc zero))))) = omega (arith, ints, is, unlimited 3)
    priced_at (suc (suc (suc (suc (suc (suc zero)))))) = omega (arith, ints, is, unlimited 4)
    priced_at (suc (suc (suc (suc (suc (suc (suc zero))))))) = omega (arith, ints, is, unlimited 5)
    priced_at (suc (suc (suc (suc (suc (suc (suc (suc zero)))))))) = omega (arith, ints, is, unlimited 5)
    priced_at (suc (suc (suc (suc (suc (suc (suc (suc (suc k))))))))) = tt

    some : (k : ℕ) → k < 2 → pos 0 ≤ℤ round_price k
    some zero h = omega (arith, ints)
    some (suc k) h = omega (arith, ints)

    are_prices : ArePrices made (scaled (pos 1)) prices
    are_prices = record {
      loops_some = some;
      limits_some = λ k within. omega (arith, ints);
      steps = λ i t at. subst (λ o. IfSome o (λ t. scaled (pos 1) t ≤ℤ step_price made prices i t)) at (priced_at i);
    }

  pub made_priced : (prices : Prices) × ArePrices made (scaled (pos 1)) prices
  made_priced = (prices (c0 + c1 + c2 + c3 + c4 + c5 + c6 + c7 + c8) refl, are_prices (c0 + c1 + c2 + c3 + c4 + c5 + c6 + c7 + c8) refl)

-- Steps with these ends, whatever they cost, make such a system.
abbrev joined : List ℕ → List (Option ℕ) → List ℕ → List SystemStep
joined (q ∷ qs) (o ∷ os) (c ∷ cs) = step q o c ∷ joined qs os cs
joined _ _ _ = []

rejoined : (ts : List SystemStep) → ts ≡ joined (map (λ t. t.source) ts) (map (λ t. t.target) ts) (map (λ t. t.cost) ts)
rejoined [] = refl
rejoined (t ∷ ts) = ap (λ l. t ∷ l) (rejoined ts)

abbrev made_sources : List ℕ
made_sources = 0 ∷ 1 ∷ 1 ∷ 2 ∷ 3 ∷ 3 ∷ 4 ∷ 5 ∷ 5 ∷ []

abbrev made_targets : List (Option ℕ)
made_targets = Some 1 ∷ Some 2 ∷ Some 3 ∷ Some 3 ∷ Some 1 ∷ Some 4 ∷ Some 5 ∷ Some 4 ∷ None ∷ []

module _ (P : System → Type 0) (first second : ℕ) (limits : List SystemLimit)
    (holds : (c0 c1 c2 c3 c4 c5 c6 c7 c8 : ℕ) → P (made c0 c1 c2 c3 c4 c5 c6 c7 c8 first second limits)) where
  abbrev over : List SystemStep → List SystemLoop → System
  over steps loops = record { nodes = 6; steps = steps; start = 0; loops = loops; limits = limits }

  abbrev made_loops : List SystemLoop
  made_loops = one_loop 1 first 4 0 ∷ one_loop 4 second 7 5 ∷ []

  of_nine : (costs : List ℕ) → length costs ≡ 9 → P (over (joined made_sources made_targets costs) made_loops)
  of_nine (c0 ∷ c1 ∷ c2 ∷ c3 ∷ c4 ∷ c5 ∷ c6 ∷ c7 ∷ c8 ∷ []) is = holds c0 c1 c2 c3 c4 c5 c6 c7 c8
  of_nine [] is = absurd (omega (arith, is))
  of_nine (_ ∷ []) is = absurd (omega (arith, is))
  of_nine (_ ∷ _ ∷ []) is = absurd (omega (arith, is))
  of_nine (_ ∷ _ ∷ _ ∷ []) is = absurd (omega (arith, is))
  of_nine (_ ∷ _ ∷ _ ∷ _ ∷ []) is = absurd (omega (arith, is))
  of_nine (_ ∷ _ ∷ _ ∷ _ ∷ _ ∷ []) is = absurd (omega (arith, is))
  of_nine (_ ∷ _ ∷ _ ∷ _ ∷ _ ∷ _ ∷ []) is = absurd (omega (arith, is))
  of_nine (_ ∷ _ ∷ _ ∷ _ ∷ _ ∷ _ ∷ _ ∷ []) is = absurd (omega (arith, is))
  of_nine (_ ∷ _ ∷ _ ∷ _ ∷ _ ∷ _ ∷ _ ∷ _ ∷ []) is = absurd (omega (arith, is))
  of_nine (_ ∷ _ ∷ _ ∷ _ ∷ _ ∷ _ ∷ _ ∷ _ ∷ _ ∷ _ ∷ cs) is = absurd (omega (arith, is))

  pub by_ends : (ts steps : List SystemStep) (loops : List SystemLoop) → map (λ t. t.source) ts ≡ made_sources → map (λ t. t.target) ts ≡ made_targets → steps ≡ ts → loops ≡ made_loops
      → P (over steps loops)
  by_ends ts steps loops sources targets same same_loops =
      subst (λ l. P (over steps l)) (sym same_loops)
      (subst (λ l. P (over l made_loops)) (sym (same ∙ rejoined ts ∙ ap₂ (λ qs os. joined qs os (map (λ t. t.cost) ts)) sources targets))
      (of_nine (map (λ t. t.cost) ts) (length-map ts (λ t. t.cost) ∙ sym (length-map ts (λ t. t.source)) ∙ ap length sources)))
