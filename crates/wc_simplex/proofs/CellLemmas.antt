-- How many rows, columns and cells there are.
use Rattle.std.proofs.Common.{◌≡◌, ℕ, suc, ◌+◌, ◌-◌, ◌*◌, ◌<◌, ◌≤◌, ◌^◌, Bool, true, false, if◌then◌else◌, List, [], ◌∷◌, ◌++◌, map, length, refl, ap, subst, ◌∙◌, arith}
use Rattle.std.proofs.lemmas.List.{length-append, length-map}
use Rattle.wc_model.specs.declared.flow_system.System.{System}
use Rattle.wc_model.specs.Flow.Cells.{cells_of, columns_of, row_count, row_nodes, slack_count}
use Rattle.wc_model.specs.Flow.Tableaus.{Line, count_slacks, limit_line, lines_of, loop_line, node_line}

-- How many rows and columns there are.
slacks_append : (as_ bs : List Line) → count_slacks (as_ ++ bs) ≡ count_slacks as_ + count_slacks bs
slacks_append [] bs = zero_add (count_slacks bs)
  where
    zero_add : (n : ℕ) → n ≡ 0 + n
    zero_add n = omega arith
slacks_append (l ∷ as_) bs = by l.slack (slacks_append as_ bs)
  where
    by : (b : Bool) → count_slacks (as_ ++ bs) ≡ count_slacks as_ + count_slacks bs → (if b then suc (count_slacks (as_ ++ bs)) else count_slacks (as_ ++ bs)) ≡ (if b then suc (count_slacks as_) else count_slacks as_) + count_slacks bs
    by true rest = omega (arith, rest)
    by false rest = rest

slacks_all : {X : Type 0} (f : X → Line) (xs : List X) → ((x : X) → (f x).slack ≡ true) → count_slacks (map f xs) ≡ length xs
slacks_all f [] all = refl
slacks_all f (x ∷ xs) all = ap (λ b. if b then suc (count_slacks (map f xs)) else count_slacks (map f xs)) (all x) ∙ ap suc (slacks_all f xs all)

slacks_none : (s : System) (qs : List ℕ) → count_slacks (map (node_line s) qs) ≡ 0
slacks_none s [] = refl
slacks_none s (q ∷ qs) = slacks_none s qs

pub slacks_are : (s : System) → count_slacks (lines_of s) ≡ length s.loops + length s.limits
slacks_are s =
    omega (
      arith,
      slacks_append (map (node_line s) (row_nodes s) ++ map (loop_line s) s.loops) (map limit_line s.limits),
      slacks_append (map (node_line s) (row_nodes s)) (map (loop_line s) s.loops),
      slacks_none s (row_nodes s),
      slacks_all (loop_line s) s.loops (λ l. refl),
      slacks_all limit_line s.limits (λ l. refl),
    )

pub lines_count : (s : System) → length (lines_of s) ≡ length (row_nodes s) + length s.loops + length s.limits
lines_count s =
    omega (
      arith,
      length-append (map (node_line s) (row_nodes s) ++ map (loop_line s) s.loops) (map limit_line s.limits),
      length-append (map (node_line s) (row_nodes s)) (map (loop_line s) s.loops),
      length-map (row_nodes s) (node_line s),
      length-map s.loops (loop_line s),
      length-map s.limits limit_line,
    )

-- so few cells
factor_most : (k b n : ℕ) → suc k * b ≤ n → b ≤ n
factor_most k b n most = omega (arith, most, spread_suc k b)
  where
    spread_suc : (k b : ℕ) → suc k * b ≡ b + k * b
    spread_suc k b = grind arith

pub few_cells : (s : System) → cells_of s ≤ 250000 → length (columns_of s) + length s.loops + length s.limits + length (lines_of s) < 2 ^ 32
few_cells s small =
    let most = factor_most (row_count s + 1) (length (columns_of s) + slack_count s + row_count s + 2) 250000 (subst (λ n. n * (length (columns_of s) + slack_count s + row_count s + 2) ≤ 250000) (two (row_count s)) small) in
    omega (arith, most, lines_count s)
  where
    two : (n : ℕ) → n + 2 ≡ suc (n + 1)
    two n = omega arith
