use Rattle.std.proofs.Common.{ℕ, ◌≡◌, ◌+◌, List, [], ◌∷◌, ◌++◌, Vec, Global, take, length, length-append, ap, sym, ◌∙◌, arith}
use Rattle.std.proofs.Math.Seq.{take-length}
use Rattle.wc_graph.specs.declared.frames.Leap.{Leap}
use Rattle.wc_graph.specs.declared.rows.Piece.{Piece}
use Rattle.wc_graph.specs.Inner.Rows.{rows_of}
use Rattle.wc_graph.proofs.RowLemmas.{rows_more}
use Rattle.wc_graph.proofs.rows.Rows.push.Goals as goal

pub returns : goal.returns
returns c =
    let leaps : List Leap = c.self.inside.leaps.items in
    let pieces : List Piece = c.self.inside.pieces.items in
    let more : List Leap = c.args.leaps.now in
    let i : ℕ = c.loop-leap.leap-index in
    let to : ℕ = c.len-to.result in
    let end : length more ≡ i = omega (arith, c.loop-leap-test.false, c.loop-leap.auto.leap-index-end) in
    let grown : c.loop-leap.self-inside.leaps.items ≡ leaps ++ more = c.loop-leap.invariant.grown ∙ ap (λ (xs : List Leap). leaps ++ xs) (ap (λ (n : ℕ). take n more) (sym end) ∙ take-length more) in
    let same : c.loop-leap.self-inside.pieces.items ≡ pieces = ap (λ (v : Vec Piece Global). v.items) c.loop-leap.invariant.same in
    let from_is : c.len-from.result ≡ length leaps = omega (arith, c.len-from.ensures, c.self.inside.leaps.ok.0) in
    let to_is : to ≡ length leaps + length more = omega (arith, c.len-to.ensures, c.loop-leap.self-inside.leaps.ok.0, ap length grown, length-append leaps more) in
    ap (λ (ls : List Leap). rows_of ls c.push-2.new.self.items) grown
    ∙ ap (rows_of (leaps ++ more)) (c.in_ok-push-2.ensures.items ∙ ap (λ (ps : List Piece). ps ++ (record { from = c.len-from.result; to = to }) ∷ []) same)
    ∙ ap (λ (n : ℕ). rows_of (leaps ++ more) (pieces ++ (record { from = n; to = to }) ∷ [])) from_is
    ∙ rows_more leaps more pieces c.self.invariant to to_is
    ∙ ap (λ (rows : List (List Leap)). rows ++ more ∷ []) c.self.view_is
