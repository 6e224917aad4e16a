use Rattle.std.proofs.Common.{rules, tests, map, ap, ◌∙◌}
use Rattle.names.specs.Names.{text}
use Rattle.std.proofs.lemmas.Iterator.Search.{position_from_yields_List}
use Rattle.roster.specs.Rosters.{found}
use Rattle.roster.proofs.Names.{seen_through, agrees, found_first}
use Rattle.roster.proofs.rows.find.Goals as goal

pub returns-clause-value : goal.returns-clause-value
returns-clause-value g c =
    let trimmed = text c.trim_end-field.result.now in
    position_from_yields_List (agrees trimmed) _ _ _ c.position.ensures.ran (seen_through g.E.Named.named c.args.row.now cc) (λ x b q k. search (rules, tests))
    ∙ found_first trimmed _
    ∙ ap (λ t. found t (map g.E.Named.named c.args.row.now)) c.trim_end-field.ensures.same
