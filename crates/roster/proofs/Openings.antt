-- The opening question, check by check. Assumes nothing.
use Rattle.std.proofs.Common.{◌≡◌, ℕ, ◌+◌, ◌≤◌, Bool, true, false, cond, ◌||◌, ltb, List, map, length, Ok, Err, Result, refl, zero-add}
use mathlib.Core.List.{map-map}
use Rattle.std.proofs.lemmas.List.{length-map}
use Rattle.std.proofs.lemmas.Bool.{ltb-false}
use Rattle.refusal.specs.declared.Refusal.{Refusal}
use Rattle.refusal.specs.declared.Refusal.TheVariants.{MemberCount, SiteCount, SiteWithoutMember, BadName}
use Rattle.roster.specs.declared.entries.Member.{Member}
use Rattle.roster.specs.declared.entries.Site.{Site}
use Rattle.roster.specs.Rosters.{SiteLine, Lines, lines_of, line_of, counts, without_member, wrong_name, refused, ◌and_then◌, opening}

-- the names of the sites, read from the lines or from the sites
pub site_names_of : (sites : List Site) → map (λ (l : SiteLine). l.name) (map line_of sites) ≡ map (λ (s : Site). s.name.now) sites
site_names_of sites = map-map (λ (l : SiteLine). l.name) line_of sites

-- the last check answers where the three before it stand
pub last_answers : (members : List Member) (sites : List Site) (r : Result (Unit {0}) Refusal) →
    Ok tt ≡ counts (length members) (length sites) →
    Ok tt ≡ refused SiteWithoutMember (without_member (length members) (map line_of sites)) →
    Ok tt ≡ refused (λ i. BadName (0 + i)) (wrong_name (map (λ m. m.name.now) members)) →
    r ≡ refused (λ i. BadName (length members + i)) (wrong_name (map (λ s. s.name.now) sites)) →
    r ≡ opening (lines_of members sites)
last_answers members sites r counted site_members member_names e =
    let lines = lines_of members sites in
    let members_count : length lines.members ≡ length members = length-map members (λ m. m.name.now) in
    let counted_lines : Ok tt ≡ counts (length lines.members) (length lines.sites) = rw (members_count, length-map sites line_of) counted in
    let line_members : Ok tt ≡ refused SiteWithoutMember (without_member (length lines.members) lines.sites) = rw members_count site_members in
    let line_names : Ok tt ≡ refused BadName (wrong_name lines.members) = simp zero-add at member_names in
    rw (← counted_lines, ← line_members, ← line_names) (rw (members_count, site_names_of sites) e)

counts_within : (n s : ℕ) → counts n s ≡ Ok tt → (n ≤ 16) × (s ≤ 32)
counts_within n s e = cases (ltb n 1) (ltb 16 n) (ltb 32 s) refl refl refl e
  where
    cases : (a b c : Bool) → ltb n 1 ≡ a → ltb 16 n ≡ b → ltb 32 s ≡ c →
        ◌≡◌ {A = Result (Unit {0}) Refusal} (cond (a || b) (Err MemberCount) (cond c (Err SiteCount) (Ok tt))) (Ok tt) → (n ≤ 16) × (s ≤ 32)
    cases true b c f g h r = cc
    cases false true c f g h r = cc
    cases false false true f g h r = cc
    cases false false false f g h r = (ltb-false 16 n g, ltb-false 32 s h)

first_stands : (c next : Result (Unit {0}) Refusal) → (c and_then next) ≡ Ok tt → c ≡ Ok tt
first_stands (Err refusal) next e = e
first_stands (Ok _) next e = refl

-- lines that a day may be opened with have at most 16 members and 32 sites
pub opened_within : (l : Lines) → opening l ≡ Ok tt → (length l.members ≤ 16) × (length l.sites ≤ 32)
opened_within l h = counts_within (length l.members) (length l.sites) (first_stands (counts (length l.members) (length l.sites)) _ h)

pub few_members : (l : Lines) → opening l ≡ Ok tt → length l.members ≤ 16
few_members l h = (opened_within l h).0
