use Rattle.std.proofs.Common.{ℕ, ◌≡◌, ◌+◌, ◌%◌, ◌^◌, ◌==◌, List, [], ◌∷◌, ◌++◌, None, Some, get_or, reverse, sym, ap, ◌∙◌, arith, rules}
use Rattle.std.specs.List.{slice_get}
use Rattle.std.proofs.lemmas.List.{reverse-append}
use Rattle.std.proofs.lemmas.Option.{slice_get-get_or}
use Rattle.wc_model.specs.declared.graphs.Context.{Context}
use Rattle.wc_model.specs.Flow.Bounds.{calls_fit}
use Rattle.wc_bounds.proofs.FitLemmas.{fits_on, fits_not, parent_is}
use Rattle.wc_bounds.proofs.fitting.calls_are.Goals as goal

pub returns-in-None : goal.returns-in-None
returns-in-None c = λ calls are.
    let contexts = c.args.contexts.now in
    let k = c.loop-at.inner in
    let at = c.in-Some.at.now in
    let outer = c.in-Some.outer.now in
    let call : Context = get_or contexts k (record { parent = None; returns = 0; callee = 0 }) in
    let there : slice_get contexts k ≡ Some call = slice_get-get_or contexts k (record { parent = None; returns = 0; callee = 0 }) c.loop-at.invariant.known in
    let is : c.loop-at.rest.now ≡ outer ++ at ∷ [] = first_of (cc c.in-Some.ensures.cases.0, cc, search rules) in
    let rest : reverse c.loop-at.rest.now ≡ at ∷ reverse outer = ap reverse is ∙ reverse-append outer (at ∷ []) in
    let fits = c.loop-at.invariant.fits calls are in
    sym (fits.2 ∙ ap (λ (ats : List ℕ). calls_fit ats fits.0) rest ∙ fits_not contexts k at (reverse outer) call there fits.0 (sym c.caller.ensures ∙ c.in-None.is) fits.1)

pub loop-at-preserved : goal.loop-at-preserved
loop-at-preserved c =
    let contexts = c.args.contexts.now in
    let k = c.loop-at.inner in
    let at = c.in-Some.at.now in
    let outer = c.in-Some.outer.now in
    let parent = c.in-Some-caller.parent in
    let call : Context = get_or contexts k (record { parent = None; returns = 0; callee = 0 }) in
    let there : slice_get contexts k ≡ Some call = slice_get-get_or contexts k (record { parent = None; returns = 0; callee = 0 }) c.loop-at.invariant.known in
    let is : c.loop-at.rest.now ≡ outer ++ at ∷ [] = first_of (cc c.in-Some.ensures.cases.0, cc, search rules) in
    let rest : reverse c.loop-at.rest.now ≡ at ∷ reverse outer = ap reverse is ∙ reverse-append outer (at ∷ []) in
    let called = sym c.caller.ensures ∙ c.in-Some-caller.is in
    let low = rw (parent_is (call.returns == (at + 4) % 2 ^ 32) call.parent parent called) at (c.requires.parents k call there) in
    record {
      known = omega (arith, low, c.loop-at.invariant.known);
      fits = λ calls are.
          let fits = c.loop-at.invariant.fits calls are in
          let on = fits_on contexts k at (reverse outer) call there parent fits.0 called fits.1 in
          (on.0, on.1, fits.2 ∙ ap (λ (ats : List ℕ). calls_fit ats fits.0) rest ∙ on.2);
    }
