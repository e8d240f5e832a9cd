use Rattle.std.proofs.Common.{ℕ, ◌≡◌, ◌≤◌, List, [], ◌∷◌, length, map, vec_capacity, refl, sym, ap, ap₂, subst, ◌∙◌, arith}
use Rattle.wc_model.specs.declared.entries.Entry.{Entry}
use Rattle.wc_model.specs.declared.flow_facts.Fact.{Fact}
use Rattle.wc_model.specs.declared.inputs.Edit.TheVariants.{Add, Hardware as Timing}
use Rattle.wc_model.specs.declared.kinds.Describe.{Describe}
use Rattle.wc_model.specs.Workspace.Closures.{order_of}
use Rattle.wc_model.specs.Workspace.Edits.{setting_of}
use Rattle.wc_model.specs.Workspace.Registry.{IsOrderOf}
use Rattle.wc_model.specs.Workspace.States.{Opening}
use Rattle.wc_core.specs.Inner.Begins.{AreBegun}
use Rattle.wc_core.specs.Inner.Stocks.{Stock}
use Rattle.wc_core.specs.Inner.Works.{KnownWorks}
use Rattle.wc_core.specs.Openings.{works_in}
use Rattle.wc_core.proofs.IdleLemmas.{HaveNotRun, idle_given, kinds_given}
use Rattle.wc_core.proofs.OpenLemmas.{IsBare, core_opens, opens}
use Rattle.wc_core.proofs.shared.Core.new.Goals as goal

pub invariant_of-result-2 : goal.invariant_of-result-2
invariant_of-result-2 g c =
    let d : Stock g.row.W-Value.Denot = record {
      inputs = setting_of c.add_facts.new.self.inputs.value;
      count = c.len.result;
      keys = c.add_facts.new.self.keys.items;
      lines = c.new-2.result.lines;
      home = c.in_ok-new.field-0.home;
      out = c.in_ok-new.field-0.out;
      seats = c.in_ok-new-2.field-0;
      owed = 0;
      spare = c.new-2.result.spare;
      room = vec_capacity c.add_facts.new.self.history;
    } in
    let h : List Entry = c.add_facts.new.self.history.items in
    let works : List ℕ = map g.W.Work.kind_of c.args.works.items in
    let O : List Describe → Opening = λ ks. record { image = c.args.image.value; kinds = ks; works = c.in_ok-counts.counts.items; hardware = c.args.hardware; facts = c.args.facts.items; sessions = c.args.sessions } in
    let I : List Describe → Type 0 = λ ks. IsBare (O ks) works h d in
    let B : List Fact → Type 0 = λ fs. AreBegun c.args.registry c.args.image.value (Timing c.args.hardware ∷ map Add fs) d.inputs d.keys h in
    let counts : c.in_ok-counts.counts.items ≡ works_in works (order_of c.args.registry) = c.in_ok-counts.ensures ∙ ap₂ (λ ws ks. works_in (map g.W.Work.kind_of ws) ks) c.as_slice-2.ensures.value c.order.ensures.listed in
    let bare : IsBare (O c.args.registry) works h d = record {
      begun = subst B c.as_slice.ensures.value (c.in_ok-add_facts.ensures c.args.image.value (Timing c.args.hardware ∷ []) (c.in_ok-add.ensures c.args.image.value [] c.in_ok-opened.ensures.begun));
      below = c.in_ok-opened.ensures.below;
      order = subst (λ ks. IsOrderOf c.args.registry ks) c.order.ensures.listed c.order.ensures.order;
      staffed = c.requires.staffed;
      works_are = counts;
      home_kinds = ap (λ (w : KnownWorks). map (λ x. x.0) w.home) c.in_ok-new.ensures ∙ kinds_given g.W.Work.kind_of g.W.Work.runs_of c.args.works.items;
      idle = subst (λ (w : KnownWorks). HaveNotRun w.home) (sym c.in_ok-new.ensures) (idle_given g.W.Work.kind_of g.W.Work.runs_of c.args.works.items c.requires.runs);
      count = omega (arith, c.len.ensures, c.add_facts.new.self.history.ok);
      lines = c.new-2.ensures;
      out = ap (λ (w : KnownWorks). w.out) c.in_ok-new.ensures;
      empty = c.in_ok-new-2.ensures.empty;
      seats = c.in_ok-new-2.ensures.counted;
      owed = refl;
      room = omega (arith, c.add_facts.new.self.history.ok);
    } in
    let is : I c.registry.inside.kinds.items = subst I (sym c.registry.view_is) bare in
    (core_opens g.W.Work.chain g.W.Work.is_feature (O c.registry.inside.kinds.items) works h d is, c.registry.view_is ∙ c.requires.described, c.requires.sessions.1)

pub returns : goal.returns
returns g c =
    let d : Stock g.row.W-Value.Denot = record {
      inputs = setting_of c.add_facts.new.self.inputs.value;
      count = c.len.result;
      keys = c.add_facts.new.self.keys.items;
      lines = c.new-2.result.lines;
      home = c.in_ok-new.field-0.home;
      out = c.in_ok-new.field-0.out;
      seats = c.in_ok-new-2.field-0;
      owed = 0;
      spare = c.new-2.result.spare;
      room = vec_capacity c.add_facts.new.self.history;
    } in
    let h : List Entry = c.add_facts.new.self.history.items in
    let works : List ℕ = map g.W.Work.kind_of c.args.works.items in
    let O : List Describe → Opening = λ ks. record { image = c.args.image.value; kinds = ks; works = c.in_ok-counts.counts.items; hardware = c.args.hardware; facts = c.args.facts.items; sessions = c.args.sessions } in
    let I : List Describe → Type 0 = λ ks. IsBare (O ks) works h d in
    let B : List Fact → Type 0 = λ fs. AreBegun c.args.registry c.args.image.value (Timing c.args.hardware ∷ map Add fs) d.inputs d.keys h in
    let counts : c.in_ok-counts.counts.items ≡ works_in works (order_of c.args.registry) = c.in_ok-counts.ensures ∙ ap₂ (λ ws ks. works_in (map g.W.Work.kind_of ws) ks) c.as_slice-2.ensures.value c.order.ensures.listed in
    let bare : IsBare (O c.args.registry) works h d = record {
      begun = subst B c.as_slice.ensures.value (c.in_ok-add_facts.ensures c.args.image.value (Timing c.args.hardware ∷ []) (c.in_ok-add.ensures c.args.image.value [] c.in_ok-opened.ensures.begun));
      below = c.in_ok-opened.ensures.below;
      order = subst (λ ks. IsOrderOf c.args.registry ks) c.order.ensures.listed c.order.ensures.order;
      staffed = c.requires.staffed;
      works_are = counts;
      home_kinds = ap (λ (w : KnownWorks). map (λ x. x.0) w.home) c.in_ok-new.ensures ∙ kinds_given g.W.Work.kind_of g.W.Work.runs_of c.args.works.items;
      idle = subst (λ (w : KnownWorks). HaveNotRun w.home) (sym c.in_ok-new.ensures) (idle_given g.W.Work.kind_of g.W.Work.runs_of c.args.works.items c.requires.runs);
      count = omega (arith, c.len.ensures, c.add_facts.new.self.history.ok);
      lines = c.new-2.ensures;
      out = ap (λ (w : KnownWorks). w.out) c.in_ok-new.ensures;
      empty = c.in_ok-new-2.ensures.empty;
      seats = c.in_ok-new-2.ensures.counted;
      owed = refl;
      room = omega (arith, c.add_facts.new.self.history.ok);
    } in
    let is : I c.registry.inside.kinds.items = subst I (sym c.registry.view_is) bare in
    let F : List Describe → List (ℕ × ℕ) → Opening = λ ks ws. record { image = c.args.image.value; kinds = ks; works = ws; hardware = c.args.hardware; facts = c.args.facts.items; sessions = c.args.sessions } in
    opens g.W.Work.chain g.W.Work.is_feature (O c.registry.inside.kinds.items) works h d is (F c.args.registry (works_in works (order_of c.args.registry))) (ap₂ F c.registry.view_is counts)
