-- The graph out of what was found, with new numbers.
use Rattle.std.specs.Prelude.{ℕ, ◌≡◌, ◌+◌, ◌<◌, ◌^◌, Bool, List, [], ◌∷◌, ◌++◌, map, Option, None, Some, option_and_then, length, slice_get}
use Rattle.std.specs.List.{flat_map}
use Rattle.wc_model.specs.declared.elf_image.Image.{Image}
use Rattle.wc_model.specs.declared.graphs.Context.{Context}
use Rattle.wc_model.specs.declared.graphs.Graph.{Graph}
use Rattle.wc_model.specs.declared.graphs.Node.{Node}
use Rattle.wc_model.specs.declared.graphs.Step.{Step as NumberedStep}
use Rattle.wc_model.specs.declared.instructions.Insn.{Insn}
use Rattle.wc_model.specs.Program.Steps.{insn_at}
use Rattle.wc_graph.specs.declared.frames.Frame.{Frame}
use Rattle.wc_graph.specs.declared.frames.Leap.{Leap}
use Rattle.wc_graph.specs.declared.frames.Place.{Place}
use Rattle.wc_graph.specs.Inner.Frames.{frame_at}
use Rattle.wc_graph.specs.declared.numbering.Numbering.{Numbering}
use Rattle.wc_graph.specs.declared.survey.Survey.{Survey}
use Rattle.wc_graph.specs.Inner.Ordered.{place_at, rank_at}

abbrev pub context_of : List Frame → List (Option ℕ) → ℕ → Context
context_of frames ranks k = record { parent = option_and_then (rank_at ranks) (frame_at frames k).parent; returns = (frame_at frames k).returns; callee = (frame_at frames k).callee }

-- the node of a position, where its frame is ranked and its instruction is known
abbrev pub node_if : Option ℕ → ℕ → Option Insn → List Node
node_if None pc insn = []
node_if (Some rank) pc None = []
node_if (Some rank) pc (Some insn) = (record { context = rank; pc = pc; insn = insn }) ∷ []

abbrev pub node_of : Image → List Place → List (Option ℕ) → ℕ → List Node
node_of image places ranks k = node_if (rank_at ranks (place_at places k).frame) (place_at places k).pc (insn_at image (place_at places k).pc)

-- the step with its new numbers, if it is kept
abbrev pub step_to : ℕ → Bool → Option (Option ℕ) → List NumberedStep
step_to source taken None = (record { source = source; target = None; taken = taken }) ∷ []
step_to source taken (Some None) = []
step_to source taken (Some (Some target)) = (record { source = source; target = Some target; taken = taken }) ∷ []

abbrev pub new_target : List (Option ℕ) → Option ℕ → Option (Option ℕ)
new_target numbers None = None
new_target numbers (Some t) = Some (rank_at numbers t)

abbrev pub step_of : List (Option ℕ) → ℕ → Leap → List NumberedStep
step_of numbers source leap = step_to source leap.taken (new_target numbers leap.target)

abbrev pub leaps_at : Option (List Leap) → List Leap
leaps_at None = []
leaps_at (Some own) = own

abbrev pub steps_from : List (List Leap) → List (Option ℕ) → ℕ → List ℕ → List NumberedStep
steps_from leaps numbers n [] = []
steps_from leaps numbers n (k ∷ ks) = flat_map (step_of numbers n) (leaps_at (slice_get leaps k)) ++ steps_from leaps numbers (n + 1) ks

-- the graph of a survey, by the numbers of its frames and positions
pub record IsAssembled (image : Image) (survey : Survey) (frames places : Numbering) (graph : Graph) : Type 0 where
  pub contexts : graph.contexts ≡ map (context_of survey.code.frames.keys frames.numbers.items) frames.order.items
  pub nodes : graph.nodes ≡ flat_map (node_of image survey.code.places.keys frames.numbers.items) places.order.items
  pub steps : graph.steps ≡ steps_from survey.code.leaps places.numbers.items 0 places.order.items
  pub few_steps : length graph.steps < 2 ^ 32
  pub start : slice_get places.numbers.items 0 ≡ Some (Some graph.start)

-- added behind: a node, a step, the steps of a node
abbrev pub AddsNode : Image → Option ℕ → ℕ → List Node → List Node → Type 0
AddsNode image rank pc old new = new ≡ old ++ node_if rank pc (insn_at image pc)

abbrev pub AddsStep : List (Option ℕ) → ℕ → Leap → List NumberedStep → List NumberedStep → Type 0
AddsStep numbers source leap old new = new ≡ old ++ step_of numbers source leap

abbrev pub AddsSteps : List (Option ℕ) → ℕ → List Leap → List NumberedStep → List NumberedStep → Type 0
AddsSteps numbers source leaps old new = new ≡ old ++ flat_map (step_of numbers source) leaps
