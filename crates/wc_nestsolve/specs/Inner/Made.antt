-- The solution that potentials, counts and rounds make.
use Rattle.std.specs.Prelude.{ℕ, ◌≡◌, ◌<◌, ◌≤◌, ◌^◌, ℤ, pos, neg_ℤ, ◌+ℤ◌, ◌*ℤ◌, ◌≤ℤ◌, List, [], map, All, length, slice_get, slice_index, Option, Some}
use Rattle.wc_model.specs.declared.flow_system.Solution.{Solution}
use Rattle.wc_model.specs.declared.flow_system.System.{System}
use Rattle.wc_model.specs.declared.flow_system.SystemLoop.{SystemLoop}
use Rattle.wc_model.specs.declared.flow_system.SystemStep.{SystemStep}
use Rattle.wc_model.specs.Flow.Counts.{entered, out_of}
use Rattle.wc_model.specs.Flow.Places.{number_at}
use Rattle.wc_nestsolve.specs.Inner.Raising.{settled}

-- they fit a solution's numbers
pub record IsMakable (start : ℕ) (extra v : List ℕ) (u : List (Option ℤ)) (x : List ℕ) : Type 0 where
  pub start_in : start < length u
  pub extra_in : start < length extra
  pub low : neg_ℤ (pos (2 ^ 120)) ≤ℤ number_at (map settled u) start
  pub high : number_at (map settled u) start ≤ℤ pos (2 ^ 120)
  pub small : slice_index extra start < 2 ^ 100
  pub counts : All (λ n. n < 2 ^ 127) x
  pub rounds : All (λ n. n < 2 ^ 127) v

pub record IsMade (start : ℕ) (extra v : List ℕ) (u : List (Option ℤ)) (x : List ℕ) (c : Solution) : Type 0 where
  pub num : c.num ≡ number_at (map settled u) start +ℤ pos (slice_index extra start)
  pub den : c.den ≡ pos 1
  pub x_is : c.x ≡ map pos x
  pub scale : c.scale ≡ pos 1
  pub u_is : c.u ≡ map settled u
  pub v_is : c.v ≡ map pos v
  pub w_is : c.w ≡ []

-- its numbers are small beside the range of exact numbers
pub record AreNarrow (s : System) (c : Solution) : Type 0 where
  pub few : length s.loops ≤ 100000
  pub unlimited : s.limits ≡ []
  pub u_low : (p : ℕ) → neg_ℤ (pos (2 ^ 120)) ≤ℤ number_at c.u p
  pub u_high : (p : ℕ) → number_at c.u p ≤ℤ pos (2 ^ 120)
  pub v_some : (k : ℕ) → pos 0 ≤ℤ number_at c.v k
  pub v_small : (k : ℕ) → number_at c.v k ≤ℤ pos (2 ^ 100)
  pub surcharges : (k : ℕ) (l : SystemLoop) → slice_get s.loops k ≡ Some l → (pos l.bound *ℤ number_at c.v k) ≤ℤ pos (2 ^ 100)
  pub x_some : (i : ℕ) → pos 0 ≤ℤ number_at c.x i
  pub visits : (p : ℕ) → p < s.nodes → out_of s.steps (number_at c.x) p ≤ℤ pos (2 ^ 100)
  pub come : (k : ℕ) (l : SystemLoop) → slice_get s.loops k ≡ Some l → entered s.start (pos 1) (number_at c.x) l ≤ℤ pos (2 ^ 100)
  pub allowed : (k : ℕ) (l : SystemLoop) → slice_get s.loops k ≡ Some l → (pos l.bound *ℤ entered s.start (pos 1) (number_at c.x) l) ≤ℤ pos (2 ^ 100)
  pub costs : (i : ℕ) (t : SystemStep) → slice_get s.steps i ≡ Some t → t.cost ≤ 2 ^ 100
