use Rattle.std.proofs.Common.{◌≡◌, ◌==◌, IfSome, Some, sym, ap, subst, ◌∙◌}
use Rattle.std.specs.Prelude.{remove}
use Rattle.std.specs.List.{slice_index_or}
use Rattle.std.specs.Option.{unwrap_or}
use Rattle.wc_core.proofs.PlaceLemmas.{IsPlace, place_is}
use Rattle.wc_core.proofs.works.Works.bring.Goals as goal

pub returns-clause-name : goal.returns-clause-name
returns-clause-name g c =
    let out = c.args.self.now.out in
    let n = c.unwrap_or-place.result in
    let at = c.unwrap_or-place.ensures ∙ ap (λ o. unwrap_or o 0) c.place.ensures in
    let place = subst (λ m. IsPlace (λ r. r.session == c.args.session) out m) (sym at) (place_is (λ r. r.session == c.args.session) out c.requires.0 c.requires.1) in
    let own = place.found c.remove-going.result ∙ ap (λ r. Some r) (sym (c.remove-going.ensures.value ∙ ap (λ v. slice_index_or v.out n c.remove-going.result) c.self.view_is)) in
    subst (λ o. IfSome o (λ r. c.going.inside.name ≡ r.key.name)) (sym own) (ap (λ r. r.key.name) c.going.view_is)

pub returns-clause-out : goal.returns-clause-out
returns-clause-out g c =
    let out = c.args.self.now.out in
    let n = c.unwrap_or-place.result in
    let at = c.unwrap_or-place.ensures ∙ ap (λ o. unwrap_or o 0) c.place.ensures in
    let place = subst (λ m. IsPlace (λ r. r.session == c.args.session) out m) (sym at) (place_is (λ r. r.session == c.args.session) out c.requires.0 c.requires.1) in
    c.remove-going.ensures.items ∙ ap (λ v. remove v.out n) c.self.view_is ∙ place.removed
