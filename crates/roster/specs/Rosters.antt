-- The members of a roster and their sites, the opening question, and the look-up of a name. Assumes nothing.
use Rattle.std.specs.Prelude.{ℕ, suc, ◌+◌, Bool, cond, not, ◌||◌, List, [], ◌∷◌, ◌++◌, map, length, position, Some, None, Ok, Err, Option, Result, nat_le, nat_lt}
use Rattle.std.specs.List.{list_any}
use Rattle.std.specs.Option.{option_map}
use Rattle.std.specs.Str.{bytes_eq}
use Rattle.refusal.specs.declared.Refusal.{Refusal}
use Rattle.refusal.specs.declared.Refusal.TheVariants.{MemberCount, SiteCount, SiteWithoutMember, BadName}
use Rattle.roster.specs.declared.entries.Member.{Member}
use Rattle.roster.specs.declared.entries.Site.{Site}
use Rattle.roster.specs.declared.table.Roster.{Roster}
use Rattle.names.specs.Names.{well_formed}

-- a site: the index of its member, and its name
pub record SiteLine : Type 0 where
  pub member : ℕ
  pub name : List ℕ

-- a roster: the names of the members, and the sites
pub record Lines : Type 0 where
  pub members : List (List ℕ)
  pub sites : List SiteLine

abbrev pub line_of : Site → SiteLine
line_of s = record { member = s.member; name = s.name.now }

abbrev pub lines_of : List Member → List Site → Lines
lines_of members sites = record { members = map (λ m. m.name.now) members; sites = map line_of sites }

abbrev pub roster_of : Roster → Lines
roster_of r = lines_of r.members.now r.sites.now

abbrev pub site_names : Lines → List (List ℕ)
site_names l = map (λ s. s.name) l.sites

-- the index of a name in a row of names
abbrev pub index_of : List ℕ → List (List ℕ) → Option ℕ
index_of name names = position (bytes_eq name) names

-- the index of the name that a text is; a malformed text names nobody
abbrev pub found : Option (List ℕ) → List (List ℕ) → Option ℕ
found None names = None
found (Some name) names = index_of name names

-- a name that is not well-formed, or equals one of these
abbrev pub wrong : List (List ℕ) → List ℕ → Bool
wrong earlier name = not (well_formed name) || list_any (bytes_eq name) earlier

-- the index of the first wrong name in a row that comes after these
abbrev pub wrong_after : List (List ℕ) → List (List ℕ) → Option ℕ
wrong_after earlier [] = None
wrong_after earlier (name ∷ names) = cond (wrong earlier name) (Some 0) (option_map suc (wrong_after (earlier ++ name ∷ []) names))

abbrev pub wrong_name : List (List ℕ) → Option ℕ
wrong_name names = wrong_after [] names

-- the index of the first site whose member is not below the count
abbrev pub without_member : ℕ → List SiteLine → Option ℕ
without_member count sites = position (λ s. nat_le count s.member) sites

-- 1 to 16 members and at most 32 sites
abbrev pub counts : ℕ → ℕ → Result (Unit {0}) Refusal
counts members sites = cond (nat_lt members 1 || nat_lt 16 members) (Err MemberCount) (cond (nat_lt 32 sites) (Err SiteCount) (Ok tt))

-- refused for this index, if there is one
abbrev pub refused : (ℕ → Refusal) → Option ℕ → Result (Unit {0}) Refusal
refused refusal None = Ok tt
refused refusal (Some i) = Err (refusal i)

-- the first of two checks that refuses
infixr 5 ◌and_then◌
abbrev pub ◌and_then◌ : Result (Unit {0}) Refusal → Result (Unit {0}) Refusal → Result (Unit {0}) Refusal
Err refusal and_then next = Err refusal
Ok _ and_then next = next

-- whether a day may be opened with this roster
abbrev pub opening : Lines → Result (Unit {0}) Refusal
opening l =
    counts (length l.members) (length l.sites)
    and_then refused SiteWithoutMember (without_member (length l.members) l.sites)
    and_then refused BadName (wrong_name l.members)
    and_then refused (λ i. BadName (length l.members + i)) (wrong_name (site_names l))
