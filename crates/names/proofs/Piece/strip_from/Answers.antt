use Rattle.std.proofs.lemmas.Slice.Eq.{strip_prefix_is}
use Rattle.names.proofs.Piece.strip_from.Goals as goal
use Rattle.std.proofs.lemmas.Bool.Decides.{Decides-eqb}

pub returns-in-Plain : goal.returns-in-Plain
returns-in-Plain c =
    let k = strip_prefix_is Decides-eqb c.args.name.now c.in-Plain.bytes.now c.strip_prefix.result c.strip_prefix.ensures.cases in
    rw c.in-Plain.is k
