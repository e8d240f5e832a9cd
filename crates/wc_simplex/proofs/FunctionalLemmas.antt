-- Linear functionals of rows: entries, sums, differences and multiples.
use Rattle.std.proofs.Common.{◌≡◌, ℕ, zero, suc, ◌+◌, ◌<◌, ℤ, pos, ◌+ℤ◌, ◌-ℤ◌, ◌*ℤ◌, List, [], ◌∷◌, map, get_or, length, Option, None, Some, refl, sym, ap, ap₂, ◌∙◌, arith}
use Rattle.std.proofs.Math.IntN.{*ℤ-zero}
use Rattle.std.proofs.lemmas.Int.{ints}
use Rattle.wc_base.proofs.Products.{exchange, spread_left, spread_sub}
use Rattle.wc_model.specs.Flow.Exact.{mix, mix_row}
use Rattle.wc_model.specs.Flow.RowMachine.{entry}
use Rattle.wc_simplex.specs.Inner.Reached.{IsLinear}
use Rattle.wc_simplex.proofs.LinearLemmas.{nothing_mixed}
use Rattle.wc_simplex.proofs.RowLemmas.{mix_value, mixes_cons}

entry_mix : (j : ℕ) (a b : ℤ) (row pivot new : List ℤ) → length row ≡ length pivot → mix_row a b row pivot ≡ Some new → entry new j ≡ a *ℤ entry row j -ℤ b *ℤ entry pivot j
entry_mix j a b [] [] new same is =
    let none : new ≡ [] = cc in
    ap (λ r. entry r j) none ∙ nothing_mixed a b
entry_mix j a b [] (y ∷ ys) new same is = absurd (omega arith)
entry_mix j a b (x ∷ xs) [] new same is = absurd (omega arith)
entry_mix zero a b (x ∷ xs) (y ∷ ys) new same is =
    let parts = mixes_cons a b x y xs ys new is in
    ap (λ r. entry r 0) parts.whole ∙ (mix_value a b x y parts.head parts.here).0
entry_mix (suc j) a b (x ∷ xs) (y ∷ ys) new same is =
    let parts = mixes_cons a b x y xs ys new is in
    ap (λ r. entry r (suc j)) parts.whole ∙ entry_mix j a b xs ys parts.tail (omega arith) parts.later

entry_times : (j : ℕ) (g : ℤ) (row : List ℤ) → entry (map (λ x. g *ℤ x) row) j ≡ g *ℤ entry row j
entry_times j g [] = sym (*ℤ-zero g)
entry_times zero g (x ∷ xs) = refl
entry_times (suc j) g (x ∷ xs) = entry_times j g xs

pub entry_linear : (j : ℕ) → IsLinear (λ row. entry row j)
entry_linear j = record { mix = entry_mix j; times = entry_times j }

pub none_linear : IsLinear (λ row. pos 0)
none_linear = record { mix = λ a b row pivot new same is. nothing_mixed a b; times = λ g row. sym (*ℤ-zero g) }

module _ (f g : List ℤ → ℤ) (lf : IsLinear f) (lg : IsLinear g) where
  pub add_linear : IsLinear (λ row. f row +ℤ g row)
  add_linear =
      record {
        mix = λ a b row pivot new same is.
            omega (arith, ints, lf.mix a b row pivot new same is, lg.mix a b row pivot new same is, spread_left a (f row) (g row), spread_left b (f pivot) (g pivot));
        times = λ c row. omega (arith, ints, lf.times c row, lg.times c row, spread_left c (f row) (g row));
      }

  pub less_linear : IsLinear (λ row. f row -ℤ g row)
  less_linear =
      record {
        mix = λ a b row pivot new same is.
            omega (arith, ints, lf.mix a b row pivot new same is, lg.mix a b row pivot new same is, spread_sub a (f row) (g row), spread_sub b (f pivot) (g pivot));
        times = λ c row. omega (arith, ints, lf.times c row, lg.times c row, spread_sub c (f row) (g row));
      }

pub scale_linear : (c : ℤ) (f : List ℤ → ℤ) → IsLinear f → IsLinear (λ row. c *ℤ f row)
scale_linear c f lf =
    record {
      mix = λ a b row pivot new same is.
          ap (λ z. c *ℤ z) (lf.mix a b row pivot new same is) ∙ spread_sub c (a *ℤ f row) (b *ℤ f pivot)
          ∙ ap₂ (λ x y. x -ℤ y) (exchange c a (f row)) (exchange c b (f pivot));
      times = λ g row. ap (λ z. c *ℤ z) (lf.times g row) ∙ exchange c g (f row);
    }

-- the sum of the entries from `k` on times those of the rows at a column
abbrev pub combined : ℕ → List (List ℤ) → ℕ → List ℤ → ℤ
combined k [] j row = pos 0
combined k (first ∷ more) j row = entry first j *ℤ entry row k +ℤ combined (suc k) more j row

pub combined_linear : (k : ℕ) (first : List (List ℤ)) (j : ℕ) → IsLinear (combined k first j)
combined_linear k [] j = record { mix = none_linear.mix; times = none_linear.times }
combined_linear k (first ∷ more) j =
    let both = add_linear (λ row. entry first j *ℤ entry row k) (combined (suc k) more j) (scale_linear (entry first j) (λ row. entry row k) (entry_linear k)) (combined_linear (suc k) more j) in
    record { mix = both.mix; times = both.times }

-- numbers at the columns of a basis
abbrev pub on_basis : (ℕ → ℤ) → ℕ → List ℕ → List ℤ → ℤ
on_basis x k [] row = pos 0
on_basis x k (b ∷ bs) row = x k *ℤ entry row b +ℤ on_basis x (suc k) bs row

pub on_basis_linear : (x : ℕ → ℤ) (k : ℕ) (basis : List ℕ) → IsLinear (on_basis x k basis)
on_basis_linear x k [] = record { mix = none_linear.mix; times = none_linear.times }
on_basis_linear x k (b ∷ bs) =
    let both = add_linear (λ row. x k *ℤ entry row b) (on_basis x (suc k) bs) (scale_linear (x k) (λ row. entry row b) (entry_linear b)) (on_basis_linear x (suc k) bs) in
    record { mix = both.mix; times = both.times }
