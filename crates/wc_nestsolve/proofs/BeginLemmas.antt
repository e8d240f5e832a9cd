-- Before the first round is found.
use Rattle.std.proofs.Common.{◌≡◌, ℕ, zero, suc, ◌==◌, ◌*◌, ◌-◌, ◌≤◌, pos, ◌*ℤ◌, List, [], ◌∷◌, length, replicate, slice_index, Option, None, Bool, true, false, refl, sym, ap, subst, ◌∙◌, arith}
use Rattle.std.proofs.Math.IntN.{*ℤ-zero}
use Rattle.std.proofs.lemmas.Option.{slice_get_within}
use Rattle.std.proofs.lemmas.List.{length-replicate}
use Rattle.std.specs.List.{filter}
use Rattle.wc_base.specs.Sums.{chosen}
use Rattle.wc_base.proofs.SumLemmas.{sum_zero}
use Rattle.wc_model.specs.declared.flow_system.System.{System}
use Rattle.wc_model.specs.declared.flow_system.SystemLoop.{SystemLoop}
use Rattle.wc_model.specs.declared.graphs.Nest.{Nest}
use Rattle.wc_model.specs.Flow.Ceiling.{dearest, total}
use Rattle.wc_nestsolve.specs.declared.found.Found.{Found}
use Rattle.wc_nestsolve.specs.Inner.Nested.{lies}
use Rattle.wc_nestsolve.specs.Inner.Passes.{IsRoundsPass, bounds_of, numbers, rounds_in, worth_in}
use Rattle.wc_nestsolve.specs.Inner.Tables.{AreTables, charge, found_at}
use Rattle.wc_nestsolve.specs.Inner.Weights.{surcharge}
use Rattle.wc_nestsolve.specs.Inner.Solvable.{IsSolvable}

pub zero_at : (n i : ℕ) → slice_index (replicate n 0) i ≡ 0
zero_at zero i = refl
zero_at (suc n) zero = refl
zero_at (suc n) (suc i) = zero_at n i

pub none_at : (n p : ℕ) → found_at (replicate n None) p ≡ None
none_at zero p = refl
none_at (suc n) zero = refl
none_at (suc n) (suc p) = none_at n p

module _ (nest : Nest) (s : System) (is : IsSolvable nest s) (order : List ℕ) (classes : List (List ℕ)) where
  no_worth : (q : ℕ) → charge s nest (replicate s.nodes 0) q ≤ worth_in s nest (length s.loops) q
  no_worth q =
      let none_left : length s.loops - length s.loops ≡ 0 = omega arith in
      let whole : worth_in s nest (length s.loops) q ≡ dearest s.steps q * 1 = ap (λ n. dearest s.steps q * rounds_in nest (bounds_of s) (length s.loops) n q) none_left in
      omega (arith, whole, zero_at s.nodes q)

  no_worths : (qs : List ℕ) → total (charge s nest (replicate s.nodes 0)) qs ≤ total (worth_in s nest (length s.loops)) qs
  no_worths [] = omega arith
  no_worths (q ∷ qs) = omega (arith, no_worth q, no_worths qs)

  no_surcharge : (q : ℕ) → pos 0 ≡ surcharge s (numbers (replicate (length s.loops) 0)) q
  no_surcharge q = sym (sum_zero (λ k l. chosen (q == l.head) (pos l.bound *ℤ numbers (replicate (length s.loops) 0) k)) s.loops (λ k l at. by (q == l.head) k l))
    where
      by : (b : Bool) (k : ℕ) (l : SystemLoop) → chosen b (pos l.bound *ℤ numbers (replicate (length s.loops) 0) k) ≡ pos 0
      by true k l = ap (λ n. pos l.bound *ℤ pos n) (zero_at (length s.loops) k) ∙ *ℤ-zero (pos l.bound)
      by false k l = refl

  first_tables : AreTables s nest (replicate s.nodes 0) (replicate s.nodes None)
  first_tables = record {
    sound = is.sound;
    few = is.few_steps;
    marks = is.marks;
    extra_counted = length-replicate s.nodes 0;
    best_counted = length-replicate s.nodes None;
  }

  pub rounds_begin : IsRoundsPass s nest order classes (length s.loops) (replicate s.nodes 0) (replicate (length s.loops) 0) (replicate s.nodes None)
  rounds_begin = record {
    tables = first_tables;
    clear = none_at s.nodes;
    counted = length-replicate (length s.loops) 0;
    rounds = record {
      charged = λ q. ap pos (zero_at s.nodes q) ∙ no_surcharge q;
      undone = λ m less. zero_at (length s.loops) m;
      done = λ m l at low. absurd (omega (arith, slice_get_within s.loops m l at));
      roomy = record { whole = no_worths order; outer = λ m less. no_worths (filter (lies nest m) order) };
    };
  }

  pub rounds_begun : (extra v : List ℕ) (best : List (Option Found)) → extra ≡ replicate s.nodes 0 → v ≡ replicate (length s.loops) 0 → best ≡ replicate s.nodes None → IsRoundsPass s nest order classes (length s.loops) extra v best
  rounds_begun extra v best is_extra is_v is_best =
      subst (λ xs. IsRoundsPass s nest order classes (length s.loops) xs v best) (sym is_extra)
      (subst (λ xs. IsRoundsPass s nest order classes (length s.loops) (replicate s.nodes 0) xs best) (sym is_v)
      (subst (λ xs. IsRoundsPass s nest order classes (length s.loops) (replicate s.nodes 0) (replicate (length s.loops) 0) xs) (sym is_best) rounds_begin))
