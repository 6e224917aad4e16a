use Rattle.std.proofs.Common.{map, rules, tests, ◌∙◌}
use Rattle.std.proofs.lemmas.Iterator.Consumers.{YieldsList-from_enumerate}
use Rattle.std.proofs.lemmas.Iterator.Search.{position_from_yields_List}
use Rattle.std.proofs.lemmas.List.{take-map}
use Rattle.roster.proofs.Names.{seen_through, wrong_at, wrong_first}
use Rattle.roster.proofs.rows.wrong_name.Goals as goal

pub returns-clause-value : goal.returns-clause-value
returns-clause-value g c =
    let names = map g.E.Named.named c.args.row.now in
    position_from_yields_List (wrong_at names) _ _ _ c.position.ensures.ran (YieldsList-from_enumerate (seen_through g.E.Named.named c.args.row.now cc) cc)
    (λ x b q k. rw (take-map g.E.Named.named x.0 c.args.row.now) (search (rules, tests)))
    ∙ wrong_first names
