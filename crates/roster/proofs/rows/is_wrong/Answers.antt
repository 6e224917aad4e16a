use Rattle.std.proofs.Common.{◌≡◌, true, rules, tests}
use Rattle.names.specs.Names.{well_formed}
use Rattle.std.specs.Str.{bytes_eq}
use Rattle.std.proofs.lemmas.Iterator.Search.{any_from_yields_List}
use Rattle.roster.proofs.Names.{seen_through}
use Rattle.roster.proofs.rows.is_wrong.Goals as goal

pub returns-else-not-is_well_formed : goal.returns-else-not-is_well_formed
returns-else-not-is_well_formed g c =
    let well : well_formed c.args.name.now ≡ true = cc in
    rw well (any_from_yields_List (bytes_eq c.args.name.now) _ _ _ c.any.ensures.ran (seen_through g.E.Named.named c.args.earlier.now cc) (λ x b q k. search (rules, tests)))
