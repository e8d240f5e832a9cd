-- What each kind needs of the values that it was given: the results that it reads show features of one name.
use Rattle.std.proofs.Common.{ℕ, ◌≡◌, List, [], ◌∷◌, Option, Some, Result, Bor}
use Rattle.std.specs.Global.{Global}
use Rattle.std.specs.declared.sync.Arc.{Arc}
use Rattle.wc_base.specs.declared.faults.Fault.{Fault}
use Rattle.wc_core.specs.declared.work.Job.{Job}
use Rattle.wc_core.specs.Features.{value_at}
use Rattle.wc_model.specs.declared.flow_system.Solution.{Solution}
use Rattle.wc_model.specs.declared.flow_system.System.{System}
use Rattle.wc_model.specs.declared.graphs.Bounds.{Bounds}
use Rattle.wc_model.specs.declared.graphs.Category.{Category}
use Rattle.wc_model.specs.declared.graphs.Costs.{Costs}
use Rattle.wc_model.specs.declared.graphs.Flags.{Flags}
use Rattle.wc_model.specs.declared.graphs.Graph.{Graph}
use Rattle.wc_model.specs.declared.graphs.LineMap.{LineMap}
use Rattle.wc_model.specs.declared.graphs.Nest.{Nest}
use Rattle.wc_model.specs.declared.values.Value.{Value}
use Rattle.wc_model.specs.declared.values.Value.TheVariants as value
use Rattle.wc_model.specs.Cache.Ages.{AreMayFlags, AreMustFlags}
use Rattle.wc_model.specs.Cache.Categories.{AreCategories}
use Rattle.wc_model.specs.Cache.Costs.{upper_costs}
use Rattle.wc_model.specs.Cache.Lines.{line_map}
use Rattle.wc_model.specs.Workspace.Edits.{Setting, setting_of}
use Rattle.wc_model.specs.Workspace.Feature.{Always, Both, BoundsFeature, CategoryFeature, CostFeature, GraphFeature, LinesFeature, MayFeature, MustFeature, NestFeature, SolutionFeature, SystemFeature, joined}
use Rattle.wc_model.specs.Workspace.Phases.{BoundOf, BoundsOf, NestOf, SolutionOf, SystemOf}
use Rattle.wc_registry.proofs.KindLemmas.{first_there, later_there}
use Rattle.wc_works.specs.Required.{IsGiven, seen, seen_by}
use Rattle.wc_works.proofs.GivenLemmas.{the_bounds, the_category, the_cost, the_graph, the_lines, the_may, the_must, the_nest, the_solution, the_system}
use Rattle.wc_works.proofs.PassingLemmas.{both_seen}

-- what one to four borrowed parts show
abbrev pub see1 : {A : Type 0} → Bor A → A
see1 a = a.now

abbrev pub see2 : {A B : Type 0} → Bor A × Bor B → A × B
see2 p = (p.0.now, p.1.now)

abbrev pub see3 : {A B C : Type 0} → (Bor A × Bor B) × Bor C → (A × B) × C
see3 p = (see2 p.0, p.1.now)

abbrev pub see4 : {A B C D : Type 0} → ((Bor A × Bor B) × Bor C) × Bor D → ((A × B) × C) × D
see4 p = (see3 p.0, p.1.now)

-- The required features of each kind, and its phase after them.
module _ (inputs : Setting) (name : List ℕ) where
  abbrev pub NestNeed : Result Graph Fault → Type 0
  NestNeed = GraphFeature inputs name

  abbrev pub NestThen : Graph → Result Nest Fault → Type 0
  NestThen = NestOf

  abbrev pub BoundsNeed : Result (Graph × Nest) Fault → Type 0
  BoundsNeed = Both (GraphFeature inputs name) (NestFeature inputs name)

  abbrev pub BoundsThen : (Graph × Nest) → Result Bounds Fault → Type 0
  BoundsThen = λ given. BoundsOf inputs given.0 given.1

  abbrev pub LinesNeed : Result Graph Fault → Type 0
  LinesNeed = GraphFeature inputs name

  abbrev pub LinesThen : Graph → Result LineMap Fault → Type 0
  LinesThen = λ graph. Always (λ map. map ≡ line_map graph inputs.hardware.cache)

  abbrev pub MustNeed : Result (Graph × LineMap) Fault → Type 0
  MustNeed = Both (GraphFeature inputs name) (LinesFeature inputs name)

  abbrev pub MustThen : (Graph × LineMap) → Result Flags Fault → Type 0
  MustThen = λ given. Always (AreMustFlags given.0 inputs.hardware.cache)

  abbrev pub MayNeed : Result (Graph × LineMap) Fault → Type 0
  MayNeed = Both (GraphFeature inputs name) (LinesFeature inputs name)

  abbrev pub MayThen : (Graph × LineMap) → Result Flags Fault → Type 0
  MayThen = λ given. Always (AreMayFlags given.0 inputs.hardware.cache)

  abbrev pub CategoryNeed : Result (((Graph × LineMap) × Flags) × Flags) Fault → Type 0
  CategoryNeed = Both (Both (Both (GraphFeature inputs name) (LinesFeature inputs name)) (MustFeature inputs name)) (MayFeature inputs name)

  abbrev pub CategoryThen : (((Graph × LineMap) × Flags) × Flags) → Result (List Category) Fault → Type 0
  CategoryThen = λ given. Always (AreCategories given.0.0.0 inputs.hardware.cache)

  abbrev pub CostNeed : Result (Graph × (List Category)) Fault → Type 0
  CostNeed = Both (GraphFeature inputs name) (CategoryFeature inputs name)

  abbrev pub CostThen : (Graph × (List Category)) → Result Costs Fault → Type 0
  CostThen = λ given. Always (λ costs. costs.of ≡ upper_costs given.0 given.1 inputs.hardware.cycles)

  abbrev pub SystemNeed : Result (((Graph × Nest) × Bounds) × Costs) Fault → Type 0
  SystemNeed = Both (Both (Both (GraphFeature inputs name) (NestFeature inputs name)) (BoundsFeature inputs name)) (CostFeature inputs name)

  abbrev pub SystemThen : (((Graph × Nest) × Bounds) × Costs) → Result System Fault → Type 0
  SystemThen = λ given. SystemOf inputs given.0.0.0 given.0.0.1 given.0.1 given.1

  abbrev pub SolutionNeed : Result ((Graph × Nest) × System) Fault → Type 0
  SolutionNeed = Both (Both (GraphFeature inputs name) (NestFeature inputs name)) (SystemFeature inputs name)

  abbrev pub SolutionThen : ((Graph × Nest) × System) → Result Solution Fault → Type 0
  SolutionThen = λ given. SolutionOf given.1

  abbrev pub BoundNeed : Result (System × Solution) Fault → Type 0
  BoundNeed = Both (SystemFeature inputs name) (SolutionFeature inputs name)

  abbrev pub BoundThen : (System × Solution) → Result ℕ Fault → Type 0
  BoundThen = λ given. BoundOf given.0

module _ (job : Job) (had : List (Option (Arc Value Global))) where
  abbrev inputs_of : Setting
  inputs_of = setting_of job.inputs.value

  abbrev name_of : List ℕ
  name_of = job.name.value

  pub nest_need : IsGiven job had 2 → (a : Result (Bor Graph) Fault) → value_at 1 had ≡ Some (value.Graph (seen a)) → NestNeed inputs_of name_of (seen_by see1 a)
  nest_need given a is_a = the_graph job had 2 given (seen a) (first_there 1 []) is_a

  pub bounds_need : IsGiven job had 3 → (a : Result (Bor Graph) Fault) (b : Result (Bor Nest) Fault) (r : Result (Bor Graph × Bor Nest) Fault) → value_at 1 had ≡ Some (value.Graph (seen a)) → value_at 2 had ≡ Some (value.Nest (seen b)) → r ≡ joined a b → BoundsNeed inputs_of name_of (seen_by see2 r)
  bounds_need given a b r is_a is_b made_r = both_seen (GraphFeature inputs_of name_of) (NestFeature inputs_of name_of) see1 see1 a b r made_r (the_graph job had 3 given (seen a) (first_there 1 (2 ∷ [])) is_a) (the_nest job had 3 given (seen b) (later_there 1 2 (2 ∷ []) (first_there 2 [])) is_b)

  pub lines_need : IsGiven job had 4 → (a : Result (Bor Graph) Fault) → value_at 1 had ≡ Some (value.Graph (seen a)) → LinesNeed inputs_of name_of (seen_by see1 a)
  lines_need given a is_a = the_graph job had 4 given (seen a) (first_there 1 []) is_a

  pub must_need : IsGiven job had 5 → (a : Result (Bor Graph) Fault) (b : Result (Bor LineMap) Fault) (r : Result (Bor Graph × Bor LineMap) Fault) → value_at 1 had ≡ Some (value.Graph (seen a)) → value_at 4 had ≡ Some (value.Lines (seen b)) → r ≡ joined a b → MustNeed inputs_of name_of (seen_by see2 r)
  must_need given a b r is_a is_b made_r = both_seen (GraphFeature inputs_of name_of) (LinesFeature inputs_of name_of) see1 see1 a b r made_r (the_graph job had 5 given (seen a) (first_there 1 (4 ∷ [])) is_a) (the_lines job had 5 given (seen b) (later_there 1 4 (4 ∷ []) (first_there 4 [])) is_b)

  pub may_need : IsGiven job had 6 → (a : Result (Bor Graph) Fault) (b : Result (Bor LineMap) Fault) (r : Result (Bor Graph × Bor LineMap) Fault) → value_at 1 had ≡ Some (value.Graph (seen a)) → value_at 4 had ≡ Some (value.Lines (seen b)) → r ≡ joined a b → MayNeed inputs_of name_of (seen_by see2 r)
  may_need given a b r is_a is_b made_r = both_seen (GraphFeature inputs_of name_of) (LinesFeature inputs_of name_of) see1 see1 a b r made_r (the_graph job had 6 given (seen a) (first_there 1 (4 ∷ [])) is_a) (the_lines job had 6 given (seen b) (later_there 1 4 (4 ∷ []) (first_there 4 [])) is_b)

  pub category_need : IsGiven job had 7 → (a : Result (Bor Graph) Fault) (b : Result (Bor LineMap) Fault) (c : Result (Bor Flags) Fault) (d : Result (Bor Flags) Fault) (s : Result (Bor Graph × Bor LineMap) Fault) (t : Result ((Bor Graph × Bor LineMap) × Bor Flags) Fault) (r : Result (((Bor Graph × Bor LineMap) × Bor Flags) × Bor Flags) Fault) → value_at 1 had ≡ Some (value.Graph (seen a)) → value_at 4 had ≡ Some (value.Lines (seen b)) → value_at 5 had ≡ Some (value.Must (seen c)) → value_at 6 had ≡ Some (value.May (seen d)) → s ≡ joined a b → t ≡ joined s c → r ≡ joined t d → CategoryNeed inputs_of name_of (seen_by see4 r)
  category_need given a b c d s t r is_a is_b is_c is_d made_s made_t made_r = both_seen (Both (Both (GraphFeature inputs_of name_of) (LinesFeature inputs_of name_of)) (MustFeature inputs_of name_of)) (MayFeature inputs_of name_of) see3 see1 t d r made_r (both_seen (Both (GraphFeature inputs_of name_of) (LinesFeature inputs_of name_of)) (MustFeature inputs_of name_of) see2 see1 s c t made_t (both_seen (GraphFeature inputs_of name_of) (LinesFeature inputs_of name_of) see1 see1 a b s made_s (the_graph job had 7 given (seen a) (first_there 1 (4 ∷ 5 ∷ 6 ∷ [])) is_a) (the_lines job had 7 given (seen b) (later_there 1 4 (4 ∷ 5 ∷ 6 ∷ []) (first_there 4 (5 ∷ 6 ∷ []))) is_b)) (the_must job had 7 given (seen c) (later_there 1 5 (4 ∷ 5 ∷ 6 ∷ []) (later_there 4 5 (5 ∷ 6 ∷ []) (first_there 5 (6 ∷ [])))) is_c)) (the_may job had 7 given (seen d) (later_there 1 6 (4 ∷ 5 ∷ 6 ∷ []) (later_there 4 6 (5 ∷ 6 ∷ []) (later_there 5 6 (6 ∷ []) (first_there 6 [])))) is_d)

  pub cost_need : IsGiven job had 8 → (a : Result (Bor Graph) Fault) (b : Result (Bor (List Category)) Fault) (r : Result (Bor Graph × Bor (List Category)) Fault) → value_at 1 had ≡ Some (value.Graph (seen a)) → value_at 7 had ≡ Some (value.Category (seen b)) → r ≡ joined a b → CostNeed inputs_of name_of (seen_by see2 r)
  cost_need given a b r is_a is_b made_r = both_seen (GraphFeature inputs_of name_of) (CategoryFeature inputs_of name_of) see1 see1 a b r made_r (the_graph job had 8 given (seen a) (first_there 1 (7 ∷ [])) is_a) (the_category job had 8 given (seen b) (later_there 1 7 (7 ∷ []) (first_there 7 [])) is_b)

  pub system_need : IsGiven job had 9 → (a : Result (Bor Graph) Fault) (b : Result (Bor Nest) Fault) (c : Result (Bor Bounds) Fault) (d : Result (Bor Costs) Fault) (s : Result (Bor Graph × Bor Nest) Fault) (t : Result ((Bor Graph × Bor Nest) × Bor Bounds) Fault) (r : Result (((Bor Graph × Bor Nest) × Bor Bounds) × Bor Costs) Fault) → value_at 1 had ≡ Some (value.Graph (seen a)) → value_at 2 had ≡ Some (value.Nest (seen b)) → value_at 3 had ≡ Some (value.Bounds (seen c)) → value_at 8 had ≡ Some (value.Cost (seen d)) → s ≡ joined a b → t ≡ joined s c → r ≡ joined t d → SystemNeed inputs_of name_of (seen_by see4 r)
  system_need given a b c d s t r is_a is_b is_c is_d made_s made_t made_r = both_seen (Both (Both (GraphFeature inputs_of name_of) (NestFeature inputs_of name_of)) (BoundsFeature inputs_of name_of)) (CostFeature inputs_of name_of) see3 see1 t d r made_r (both_seen (Both (GraphFeature inputs_of name_of) (NestFeature inputs_of name_of)) (BoundsFeature inputs_of name_of) see2 see1 s c t made_t (both_seen (GraphFeature inputs_of name_of) (NestFeature inputs_of name_of) see1 see1 a b s made_s (the_graph job had 9 given (seen a) (first_there 1 (2 ∷ 3 ∷ 8 ∷ [])) is_a) (the_nest job had 9 given (seen b) (later_there 1 2 (2 ∷ 3 ∷ 8 ∷ []) (first_there 2 (3 ∷ 8 ∷ []))) is_b)) (the_bounds job had 9 given (seen c) (later_there 1 3 (2 ∷ 3 ∷ 8 ∷ []) (later_there 2 3 (3 ∷ 8 ∷ []) (first_there 3 (8 ∷ [])))) is_c)) (the_cost job had 9 given (seen d) (later_there 1 8 (2 ∷ 3 ∷ 8 ∷ []) (later_there 2 8 (3 ∷ 8 ∷ []) (later_there 3 8 (8 ∷ []) (first_there 8 [])))) is_d)

  pub solution_need : IsGiven job had 10 → (a : Result (Bor Graph) Fault) (b : Result (Bor Nest) Fault) (c : Result (Bor System) Fault) (s : Result (Bor Graph × Bor Nest) Fault) (r : Result ((Bor Graph × Bor Nest) × Bor System) Fault) → value_at 1 had ≡ Some (value.Graph (seen a)) → value_at 2 had ≡ Some (value.Nest (seen b)) → value_at 9 had ≡ Some (value.System (seen c)) → s ≡ joined a b → r ≡ joined s c → SolutionNeed inputs_of name_of (seen_by see3 r)
  solution_need given a b c s r is_a is_b is_c made_s made_r = both_seen (Both (GraphFeature inputs_of name_of) (NestFeature inputs_of name_of)) (SystemFeature inputs_of name_of) see2 see1 s c r made_r (both_seen (GraphFeature inputs_of name_of) (NestFeature inputs_of name_of) see1 see1 a b s made_s (the_graph job had 10 given (seen a) (first_there 1 (2 ∷ 9 ∷ [])) is_a) (the_nest job had 10 given (seen b) (later_there 1 2 (2 ∷ 9 ∷ []) (first_there 2 (9 ∷ []))) is_b)) (the_system job had 10 given (seen c) (later_there 1 9 (2 ∷ 9 ∷ []) (later_there 2 9 (9 ∷ []) (first_there 9 []))) is_c)

  pub bound_need : IsGiven job had 11 → (a : Result (Bor System) Fault) (b : Result (Bor Solution) Fault) (r : Result (Bor System × Bor Solution) Fault) → value_at 9 had ≡ Some (value.System (seen a)) → value_at 10 had ≡ Some (value.Solution (seen b)) → r ≡ joined a b → BoundNeed inputs_of name_of (seen_by see2 r)
  bound_need given a b r is_a is_b made_r = both_seen (SystemFeature inputs_of name_of) (SolutionFeature inputs_of name_of) see1 see1 a b r made_r (the_system job had 11 given (seen a) (first_there 9 (10 ∷ [])) is_a) (the_solution job had 11 given (seen b) (later_there 9 10 (10 ∷ []) (first_there 10 [])) is_b)
