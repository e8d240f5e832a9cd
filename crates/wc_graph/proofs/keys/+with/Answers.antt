use Rattle.std.proofs.Common.{ℕ, ◌≡◌, ◌≤◌, ◌<◌, ◌/◌, ◌++◌, ◌∷◌, [], List, Option, None, Some, length, refl, sym, ap, subst, ◌∙◌, arith}
use Rattle.std.specs.List.{slice_get}
use Rattle.std.proofs.lemmas.Option.{slice_get_read}
use Rattle.wc_graph.specs.declared.keys.Branch.{Branch}
use Rattle.wc_graph.specs.Inner.Keys.{HasKey, after, child, with_child}
use Rattle.wc_graph.proofs.KeysLemmas.{alone, found, deeper, child_below}
use Rattle.wc_graph.proofs.keys.+with.Goals as goal

pub returns-in_default : goal.returns-in_default
returns-in_default t c =
    let old = c.args.branches.now in
    let bs = old.items in
    let b : Branch = record { key = c.args.key; low = None; high = None } in
    let none : c.args.root ≡ None = c.in_default.is in
    let items : c.push.new.self.items ≡ bs ++ b ∷ [] = c.in_ok-push.ensures.items in
    let count : length bs ≡ c.len-number.result = omega (arith, c.len-number.ensures, old.ok.0) in
    subst (λ (xs : List Branch). HasKey bs xs c.args.root c.args.key c.args.digits c.len-number.result) (sym items) (subst (HasKey bs (bs ++ b ∷ []) c.args.root c.args.key c.args.digits) count (alone bs c.args.root c.args.key c.args.digits c.requires.are none))

pub returns-then-branch-key : goal.returns-then-branch-key
returns-then-branch-key t c =
    let bs = c.args.branches.now.items in
    let b = c.index.result.now in
    let less : c.in-Some.number < length bs = omega (arith, c.requires.inside, ap after c.in-Some.is) in
    let at : slice_get bs c.in-Some.number ≡ Some b = slice_get_read bs (length bs) c.in-Some.number b refl less c.index.ensures in
    found bs c.args.root c.args.key c.args.digits c.in-Some.number b c.requires.are c.in-Some.is at c.if-branch-key.true

pub with-requires : goal.with-requires
with-requires t c =
    let bs = c.args.branches.now.items in
    let b = c.index.result.now in
    let less : c.in-Some.number < length bs = omega (arith, c.requires.inside, ap after c.in-Some.is) in
    let at : slice_get bs c.in-Some.number ≡ Some b = slice_get_read bs (length bs) c.in-Some.number b refl less c.index.ensures in
    let lower : after (child b c.args.digits) ≤ c.in-Some.number = child_below bs c.in-Some.number b c.args.digits c.requires.are at in
    (omega (arith, lower, ap after c.child.ensures, ap after c.in-Some.is), (c.requires.are, omega (arith, lower, less, ap after c.child.ensures)))

pub returns : goal.returns
returns t c =
    let bs = c.args.branches.now.items in
    let b = c.index.result.now in
    let less : c.in-Some.number < length bs = omega (arith, c.requires.inside, ap after c.in-Some.is) in
    let at : slice_get bs c.in-Some.number ≡ Some b = slice_get_read bs (length bs) c.in-Some.number b refl less c.index.ensures in
    let mid = c.with.new.branches in
    let part = c.in_ok-part.part in
    let new : Branch = with_child b c.args.digits part in
    let has : HasKey bs mid.items (child b c.args.digits) c.args.key (c.args.digits / 2) part = subst (λ (r : Option ℕ). HasKey bs mid.items r c.args.key (c.args.digits / 2) part) c.child.ensures c.in_ok-part.ensures in
    let items : c.push-2.new.self.items ≡ mid.items ++ new ∷ [] = c.in_ok-push-2.ensures.items ∙ ap (λ (x : Branch). mid.items ++ x ∷ []) c.with_child.ensures in
    let count : length mid.items ≡ c.len-number-2.result = omega (arith, c.len-number-2.ensures, mid.ok.0) in
    subst (λ (xs : List Branch). HasKey bs xs c.args.root c.args.key c.args.digits c.len-number-2.result) (sym items) (subst (HasKey bs (mid.items ++ new ∷ []) c.args.root c.args.key c.args.digits) count (deeper bs mid.items c.args.root c.args.key c.args.digits c.in-Some.number part b c.requires.are c.in-Some.is at has))
