use Rattle.std.proofs.Common.{◌∙◌}
use Rattle.std.proofs.lemmas.Result.{err_from_is_err_and}
use Rattle.names.proofs.Comparisons.{goes_on, differed, malformed}
use Rattle.names.proofs.Pieces.{piece_text, piece_less, no_piece}
use Rattle.names.proofs.reads_as.Goals as goal

pub loop-rest-preserved-in-Some : goal.loop-rest-preserved-in-Some
loop-rest-preserved-in-Some c =
    goes_on c.loop-rest.left _ c.in-Some.begun _ _ _ (piece_text c.loop-rest.rest.now _ _ c.in_ok-piece.ensures) c.in-Some.is c.strip_from-left.ensures ∙ c.loop-rest.invariant

pub loop-rest-preserved : goal.loop-rest-preserved
loop-rest-preserved c = differed c.loop-rest.left _ _ _ (piece_text c.loop-rest.rest.now _ _ c.in_ok-piece.ensures) c.in_default.is ∙ c.loop-rest.invariant

pub loop-rest-smaller-in-Some : goal.loop-rest-smaller-in-Some
loop-rest-smaller-in-Some c = piece_less c.loop-rest.rest.now _ _ c.in_ok-piece.ensures c.loop-rest-test.ensures

pub loop-rest-smaller : goal.loop-rest-smaller
loop-rest-smaller c = piece_less c.loop-rest.rest.now _ _ c.in_ok-piece.ensures c.loop-rest-test.ensures

pub returns-in_err-piece : goal.returns-in_err-piece
returns-in_err-piece c =
    let p = err_from_is_err_and c.from_residual.result c.from_residual.ensures.1 in
    p.1 ∙ malformed c.loop-rest.left _ p.0 (no_piece c.loop-rest.rest.now c.in_err-piece.ensures) ∙ c.loop-rest.invariant
