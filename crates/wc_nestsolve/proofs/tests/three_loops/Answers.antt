use Rattle.std.proofs.Common.{◌≡◌, ℕ, zero, suc, ◌<◌, ◌≤◌, ◌⊎◌, inl, inr, List, length, slice_get, slice_index_or, Option, None, Some, true, refl, sym, ap, subst, arith, rules}
use Rattle.std.specs.Prelude.{IfSome}
use Rattle.std.proofs.lemmas.Bool.{cases_lt}
use Rattle.wc_model.specs.declared.graphs.Context.{Context}
use Rattle.wc_model.specs.declared.graphs.Node.{Node}
use Rattle.wc_model.specs.declared.graphs.Step.{Step}
use Rattle.wc_model.specs.Program.Graphs.{IsGraph, LeadsIn}
use Rattle.wc_model.specs.Program.Reaching.{Ends, IsLive, Reaches, here, along, exits, onward}
use Rattle.wc_nestsolve.specs.declared.tests.TheConstants.{CONTEXTS, NODES, STEPS}
use Rattle.wc_nestsolve.proofs.tests.three_loops.Goals as goal

sources : (k : ℕ) (d : Step) → k < 10 → (slice_index_or STEPS k d).source < 6
sources zero d h = omega arith
sources (suc zero) d h = omega arith
sources (suc (suc zero)) d h = omega arith
sources (suc (suc (suc zero))) d h = omega arith
sources (suc (suc (suc (suc zero)))) d h = omega arith
sources (suc (suc (suc (suc (suc zero))))) d h = omega arith
sources (suc (suc (suc (suc (suc (suc zero)))))) d h = omega arith
sources (suc (suc (suc (suc (suc (suc (suc zero))))))) d h = omega arith
sources (suc (suc (suc (suc (suc (suc (suc (suc zero)))))))) d h = omega arith
sources (suc (suc (suc (suc (suc (suc (suc (suc (suc zero))))))))) d h = omega arith
sources (suc (suc (suc (suc (suc (suc (suc (suc (suc (suc k)))))))))) d h = absurd (omega arith)

targets : (k : ℕ) (d : Step) → k < 10 → IfSome (slice_index_or STEPS k d).target (λ q. q < 6)
targets zero d h = omega arith
targets (suc zero) d h = omega arith
targets (suc (suc zero)) d h = omega arith
targets (suc (suc (suc zero))) d h = omega arith
targets (suc (suc (suc (suc zero)))) d h = omega arith
targets (suc (suc (suc (suc (suc zero))))) d h = omega arith
targets (suc (suc (suc (suc (suc (suc zero)))))) d h = omega arith
targets (suc (suc (suc (suc (suc (suc (suc zero))))))) d h = omega arith
targets (suc (suc (suc (suc (suc (suc (suc (suc zero)))))))) d h = omega arith
targets (suc (suc (suc (suc (suc (suc (suc (suc (suc zero))))))))) d h = tt
targets (suc (suc (suc (suc (suc (suc (suc (suc (suc (suc k)))))))))) d h = absurd (omega arith)

-- the next step leaves no node before
next : (k : ℕ) (d : Step) → suc k < 10 → (slice_index_or STEPS k d).source ≤ (slice_index_or STEPS (suc k) d).source
next zero d h = omega arith
next (suc zero) d h = omega arith
next (suc (suc zero)) d h = omega arith
next (suc (suc (suc zero))) d h = omega arith
next (suc (suc (suc (suc zero)))) d h = omega arith
next (suc (suc (suc (suc (suc zero))))) d h = omega arith
next (suc (suc (suc (suc (suc (suc zero)))))) d h = omega arith
next (suc (suc (suc (suc (suc (suc (suc zero))))))) d h = omega arith
next (suc (suc (suc (suc (suc (suc (suc (suc zero)))))))) d h = omega arith
next (suc (suc (suc (suc (suc (suc (suc (suc (suc k))))))))) d h = absurd (omega arith)

sorted : (j i : ℕ) (d : Step) → i ≤ j → j < 10 → (slice_index_or STEPS i d).source ≤ (slice_index_or STEPS j d).source
sorted zero i d low h = let same : i ≡ zero = omega arith in omega (arith, ap (λ n. (slice_index_or STEPS n d).source) same)
sorted (suc j) i d low h = by (cases_lt i (suc j)) (λ less. sorted j i d less (omega arith))
  where
    by : (i < suc j) ⊎ (suc j ≤ i) → (i ≤ j → (slice_index_or STEPS i d).source ≤ (slice_index_or STEPS j d).source) → (slice_index_or STEPS i d).source ≤ (slice_index_or STEPS (suc j) d).source
    by (inl less) before = omega (arith, before (omega arith), next j d h)
    by (inr high) before = let same : i ≡ suc j = omega arith in omega (arith, ap (λ n. (slice_index_or STEPS n d).source) same)

none : Step
none = record { source = 9; target = None; taken = true }

enters : LeadsIn STEPS 0 (Some 1)
enters = let s : Step = slice_index_or STEPS 0 none in (s, (0, omega arith, refl), refl, refl)

into : LeadsIn STEPS 1 (Some 2)
into = let s : Step = slice_index_or STEPS 1 none in (s, (1, omega arith, refl), refl, refl)

past : LeadsIn STEPS 1 (Some 3)
past = let s : Step = slice_index_or STEPS 2 none in (s, (2, omega arith, refl), refl, refl)

out_of : LeadsIn STEPS 2 (Some 3)
out_of = let s : Step = slice_index_or STEPS 4 none in (s, (4, omega arith, refl), refl, refl)

leaves : LeadsIn STEPS 3 (Some 4)
leaves = let s : Step = slice_index_or STEPS 6 none in (s, (6, omega arith, refl), refl, refl)

goes : LeadsIn STEPS 4 (Some 5)
goes = let s : Step = slice_index_or STEPS 7 none in (s, (7, omega arith, refl), refl, refl)

ends : LeadsIn STEPS 5 None
ends = let s : Step = slice_index_or STEPS 9 none in (s, (9, omega arith, refl), refl, refl)

to_1 : Reaches (LeadsIn STEPS) 0 1
to_1 = along 1 here enters

to_3 : Reaches (LeadsIn STEPS) 0 3
to_3 = along 3 to_1 past

to_4 : Reaches (LeadsIn STEPS) 0 4
to_4 = along 4 to_3 leaves

from_4 : Ends (LeadsIn STEPS) 4
from_4 = onward 5 goes (exits ends)

from_3 : Ends (LeadsIn STEPS) 3
from_3 = onward 4 leaves from_4

live : (k : ℕ) → k < 6 → IsLive (LeadsIn STEPS) 0 k
live zero h = (here, onward 1 enters (onward 3 past from_3))
live (suc zero) h = (to_1, onward 3 past from_3)
live (suc (suc zero)) h = (along 2 to_1 into, onward 3 out_of from_3)
live (suc (suc (suc zero))) h = (to_3, from_3)
live (suc (suc (suc (suc zero)))) h = (to_4, from_4)
live (suc (suc (suc (suc (suc zero))))) h = (along 5 to_4 goes, exits ends)
live (suc (suc (suc (suc (suc (suc k)))))) h = absurd (omega arith)

placed : (k : ℕ) (d : Node) → k < 6 → (slice_index_or NODES k d).context < 1
placed zero d h = omega arith
placed (suc zero) d h = omega arith
placed (suc (suc zero)) d h = omega arith
placed (suc (suc (suc zero))) d h = omega arith
placed (suc (suc (suc (suc zero)))) d h = omega arith
placed (suc (suc (suc (suc (suc zero))))) d h = omega arith
placed (suc (suc (suc (suc (suc (suc k)))))) d h = absurd (omega arith)

parent : Option Context → Option ℕ
parent None = None
parent (Some c) = c.parent

parents : (k : ℕ) (c : Context) → slice_get CONTEXTS k ≡ Some c → IfSome c.parent (λ j. j < k)
unfolding parent
parents zero c at = subst (λ o. IfSome (parent o) (λ j. j < 0)) at tt
parents (suc k) c at = cc

is_graph : (contexts : List Context) (nodes : List Node) (steps : List Step) → contexts ≡ CONTEXTS → nodes ≡ NODES → steps ≡ STEPS
    → IsGraph (record { contexts = contexts; nodes = nodes; steps = steps; start = 0 })
is_graph contexts nodes steps by_contexts by_nodes by_steps =
    subst (λ cs. IsGraph (record { contexts = cs; nodes = nodes; steps = steps; start = 0 })) (sym by_contexts)
    (subst (λ ns. IsGraph (record { contexts = CONTEXTS; nodes = ns; steps = steps; start = 0 })) (sym by_nodes)
    (subst (λ ss. IsGraph (record { contexts = CONTEXTS; nodes = NODES; steps = ss; start = 0 })) (sym by_steps)
    (record {
      few = omega arith;
      few_steps = omega arith;
      starts = omega arith;
      sources = sources;
      targets = targets;
      sorted = λ i j d before within. sorted j i d (omega arith) within;
      live = live;
      placed = placed;
      parents = parents;
    })))

pub returns-clause-graph : goal.returns-clause-graph
returns-clause-graph c =
    let contexts : c.new.result ≡ CONTEXTS = search rules in
    let nodes : c.new-2.result ≡ NODES = search rules in
    let steps : c.new-3.result ≡ STEPS = search rules in
    is_graph _ _ _ contexts nodes steps

pub returns-clause-counted : goal.returns-clause-counted
returns-clause-counted c =
    let steps : c.new-3.result ≡ STEPS = search rules in
    ap length steps
