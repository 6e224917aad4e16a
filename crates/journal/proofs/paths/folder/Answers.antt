use Rattle.std.proofs.Common.{◌-◌, take, length, reverse, sym, ap, rules}
use Rattle.std.proofs.lemmas.List.{length-reverse}
use Rattle.std.proofs.lemmas.Iterator.Search.{position_from_yields_List}
use Rattle.std.proofs.lemmas.Iterator.Adapters.{YieldsList-from_rev_slice}
use Rattle.journal.specs.Paths.{is_slash}
use Rattle.journal.proofs.Places.{first_or_length}
use Rattle.journal.proofs.paths.folder.Goals as goal

pub returns : goal.returns
returns c =
    let path = c.args.path.now in
    let found = position_from_yields_List is_slash _ _ c.position-from_end.result c.position-from_end.ensures.ran (YieldsList-from_rev_slice path cc) (λ x b q k. search rules) in
    let len = first_or_length is_slash (reverse path) c.position-from_end.result (length path) c.unwrap_or.result c.unwrap_or.ensures found (sym (length-reverse path)) in
    ap (λ n. take (length path - n) path) len
