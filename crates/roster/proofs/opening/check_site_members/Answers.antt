use Rattle.std.proofs.Common.{leb, ap, rules, tests}
use Rattle.std.proofs.lemmas.Iterator.Search.{position_from_yields_List}
use Rattle.refusal.specs.declared.Refusal.TheVariants.{SiteWithoutMember}
use Rattle.roster.specs.Rosters.{SiteLine, line_of, refused}
use Rattle.roster.proofs.Names.{seen_through}
use Rattle.roster.proofs.opening.check_site_members.Goals as goal

pub returns-in-Some : goal.returns-in-Some
returns-in-Some c =
    ap (refused SiteWithoutMember)
    (position_from_yields_List (λ (s : SiteLine). leb c.args.members s.member) _ _ _ c.in-Some.ensures.ran (seen_through line_of c.args.sites.now cc) (λ x b q k. search (rules, tests)))

pub returns-in-None : goal.returns-in-None
returns-in-None c =
    ap (refused SiteWithoutMember)
    (position_from_yields_List (λ (s : SiteLine). leb c.args.members s.member) _ _ _ c.in-None.ensures.ran (seen_through line_of c.args.sites.now cc) (λ x b q k. search (rules, tests)))
