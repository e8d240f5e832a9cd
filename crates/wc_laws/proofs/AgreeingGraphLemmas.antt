-- The graph of a function depends on the facts by those of control flow alone.
use Rattle.std.proofs.Common.{◌≡◌, ℕ, List, IfSome, sym, subst, ◌∙◌}
use Rattle.std.proofs.Math.Path.{fun_ext}
use Rattle.std.specs.Prelude.{Contains, ◌↔◌}
use Rattle.std.specs.List.{flat_map}
use Rattle.wc_base.specs.declared.faults.Fault.{Fault}
use Rattle.wc_model.specs.declared.elf_image.Image.{Image}
use Rattle.wc_model.specs.declared.flow_facts.Fact.{Fact as FlowFact}
use Rattle.wc_model.specs.declared.graphs.Graph.{Graph}
use Rattle.wc_model.specs.Program.Graphs.{AreKept, IsFirstFault, IsGraphFault, IsGraphOf, IsReached, IsSound, IsTooLarge, endless, faulty, large}
use Rattle.wc_model.specs.Program.Positions.{Call, Position, start_of}
use Rattle.wc_model.specs.Program.Reaching.{Ends, IsLive, Reaches}
use Rattle.wc_model.specs.Program.Steps.{LeadsBy, Step, steps_of}
use Rattle.wc_model.proofs.SteeringLemmas.{SameCode, turned}

module _ (image : Image) (fs gs : List FlowFact) (entry : ℕ) (same : SameCode image fs gs entry) where
  same_steps : steps_of image fs entry ≡ steps_of image gs entry
  same_steps = fun_ext same.steps

  reached_alike : (p : Position) → IsReached image fs entry p → IsReached image gs entry p
  reached_alike p is = subst (λ (f : Position → List Step). Reaches (LeadsBy f) (start_of entry) p) same_steps is

  ends_alike : Ends (LeadsBy (steps_of image fs entry)) (start_of entry) → Ends (LeadsBy (steps_of image gs entry)) (start_of entry)
  ends_alike is = subst (λ (f : Position → List Step). Ends (LeadsBy f) (start_of entry)) same_steps is

  large_alike : IsTooLarge image fs entry → IsTooLarge image gs entry
  large_alike is = record { many = is.many; apart = is.apart; count = is.count; reached = λ p among. reached_alike p (is.reached p among) }

module _ (image : Image) (fs gs : List FlowFact) (entry : ℕ) (same : SameCode image fs gs entry) where
  back : SameCode image gs fs entry
  back = turned same

  sound_alike : IsSound image fs entry → IsSound image gs entry
  sound_alike is = λ p reached. sym (same.faults p) ∙ is p (reached_alike image gs fs entry back p reached)

  first_alike : (fault : Fault) → IsFirstFault image fs entry fault → IsFirstFault image gs entry fault
  first_alike fault is =
      record {
        place = is.place;
        reached = reached_alike image fs gs entry same is.place is.reached;
        faulty = sym (same.faults is.place) ∙ is.faulty;
        first = λ p other reached fails. is.first p other (reached_alike image gs fs entry back p reached) (same.faults p ∙ fails);
      }

  pub graph_fault_alike : (fault : Fault) → IsGraphFault image fs entry fault → IsGraphFault image gs entry fault
  graph_fault_alike fault (large is) = large (large_alike image fs gs entry same is)
  graph_fault_alike fault (faulty _ small first) = faulty fault (λ is. small (large_alike image gs fs entry back is)) (first_alike fault first)
  graph_fault_alike fault (endless small sound none) =
      endless (λ is. small (large_alike image gs fs entry back is)) (sound_alike sound) (λ is. none (ends_alike image gs fs entry back is))

  pub graph_alike : (graph : Graph) → IsGraphOf image fs entry graph → IsGraphOf image gs entry graph
  graph_alike graph is =
      record {
        positions = is.positions;
        stacks = is.stacks;
        steps = is.steps;
        small = λ many. is.small (large_alike image gs fs entry back many);
        sound = sound_alike is.sound;
        live = subst (λ (f : Position → List Step). (p : Position) → Contains is.positions p ↔ IsLive (LeadsBy f) (start_of entry) p) (same_steps image fs gs entry same) is.live;
        sorted = is.sorted;
        nodes = is.nodes;
        stacked = subst (λ (f : Position → List Step). (calls : List Call) → Contains is.stacks calls ↔ ((p : Position) × IsLive (LeadsBy f) (start_of entry) p × (p.calls ≡ calls))) (same_steps image fs gs entry same) is.stacked;
        stacks_sorted = is.stacks_sorted;
        contexts = is.contexts;
        contexts_counted = is.contexts_counted;
        kept = subst (λ (f : Position → List Step). AreKept (λ (s : Step). IfSome s.target (IsLive (LeadsBy f) (start_of entry))) (flat_map f is.positions) is.steps) (same_steps image fs gs entry same) is.kept;
        numbered = is.numbered;
        started = is.started;
      }
