use Rattle.std.proofs.Common.{◌∙◌, sym}
use Rattle.wc_io.proofs.WritingLemmas.{rest_whole}
use Rattle.wc_f4.proofs.TokenLemmas.{found_token, passed_piece, tokens_end}
use Rattle.wc_f4.proofs.readers.token_from.Goals as goal

pub returns-in-Some : goal.returns-in-Some
returns-in-Some c =
    sym c.loop-place.invariant
    ∙ found_token c.args.text.now _ c.loop-place.place c.in-Some.token c.piece_at-piece.result (rest_whole c.args.text.now c.loop-place.place) c.in-Some.is c.piece_at-piece.ensures.value c.piece_at-piece.ensures.inside

pub loop-place-preserved : goal.loop-place-preserved
loop-place-preserved c =
    passed_piece c.args.text.now _ c.loop-place.place c.piece_at-piece.result (rest_whole c.args.text.now c.loop-place.place) c.in_default.is c.piece_at-piece.ensures.value c.piece_at-piece.ensures.inside
    ∙ c.loop-place.invariant

pub returns : goal.returns
returns c = sym c.loop-place.invariant ∙ tokens_end c.args.text.now c.loop-place.place c.loop-place-test.false
