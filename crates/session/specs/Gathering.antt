-- The lines before a day is open. Assumes nothing.
use Rattle.std.specs.Prelude.{◌≡◌, ℕ, min, ◌⊎◌, List, [], ◌∷◌, ◌++◌, replicate, Some, None, Ok, Err, vec_items, Option, Result}
use Rattle.refusal.specs.declared.Refusal.{Refusal}
use Rattle.roster.specs.Rosters.{Lines, lines_of, opening as roster_opening}
use Rattle.std.specs.declared.vec.Vec.{Vec}
use Rattle.std.specs.declared.alloc.Global.{Global}
use Rattle.postings.specs.declared.posting.Posting.{Posting}
use Rattle.outcomes.specs.declared.outcome.Failure.{Failure}
use Rattle.outcomes.specs.declared.outcome.Failure.TheVariants.{Refused, NotTaken}
use Rattle.outcomes.specs.declared.outcome.Reason.{Reason}
use Rattle.outcomes.specs.declared.outcome.Reason.TheVariants.{NoDay, NoMemory}
use Rattle.journal.specs.Reading.{Request, passed, member, site, opening, posting, postings_in, balance, account}
use Rattle.session.specs.Calls.{argument_of}
use Rattle.session.specs.declared.gathering.RosterLines.{RosterLines}

-- the lines gathered
abbrev pub gathered : RosterLines → Lines
gathered l = lines_of (vec_items l.members) (vec_items l.sites)

-- how many places the register of records has: at most one for each key that a record can have
abbrev pub place_count : ℕ → ℕ
place_count count = min count 769632

-- a roster without lines
abbrev pub no_lines : Lines
no_lines = record { members = []; sites = [] }

abbrev pub Places : Type 0
Places = Vec (Option Posting) Global

-- what an opening comes to by what the roster's check answers, and the roster lines after it: a refused roster is used up
abbrev pub OpeningStep : Result (Unit {0}) Refusal → ℕ → Lines → Result Places Failure → Lines → Type 0
OpeningStep (Ok x) count l (Ok places) l' = (vec_items places ≡ replicate (place_count count) None) × (l' ≡ l)
OpeningStep (Ok x) count l (Err failure) l' = (failure ≡ NotTaken NoMemory) × (l' ≡ l)
OpeningStep (Err e) count l r l' = (r ≡ Err (Refused e)) × (l' ≡ no_lines)

-- an opening by the line: its places are those of the day
abbrev pub Opening : Result (Unit {0}) Refusal → ℕ → Lines → Result (Option Places) Failure → Lines → Type 0
Opening answer count l (Ok (Some places)) l' = OpeningStep answer count l (Ok places) l'
Opening answer count l (Ok None) l' = ⊥
Opening answer count l (Err failure) l' = OpeningStep answer count l (Err failure) l'

-- one line more, or memory for it was wanting
abbrev pub Gathered : Lines → Lines → Result (Option Places) Failure → Lines → Type 0
Gathered l more r l' = ((r ≡ Ok None) × (l' ≡ more)) ⊎ ((r ≡ Err (NotTaken NoMemory)) × (l' ≡ l))

abbrev pub with_member : Lines → List ℕ → Lines
with_member l name = record { members = l.members ++ name ∷ []; sites = l.sites }

abbrev pub with_site : Lines → ℕ → List ℕ → Lines
with_site l index name = record { members = l.members; sites = l.sites ++ record { member = index; name = name } ∷ [] }

-- what a line asks for before the day: what comes of it, and the roster lines after it
abbrev pub RequestStep : Request → Lines → Result (Option Places) Failure → Lines → Type 0
RequestStep passed l r l' = (r ≡ Ok None) × (l' ≡ l)
RequestStep (member name) l r l' = Gathered l (with_member l name) r l'
RequestStep (site number name) l r l' = Gathered l (with_site l (argument_of number) name) r l'
RequestStep (opening places) l r l' = Opening (roster_opening l) places.records l r l'
RequestStep (posting text) l r l' = (r ≡ Err (NotTaken NoDay)) × (l' ≡ l)
RequestStep (postings_in file) l r l' = (r ≡ Err (NotTaken NoDay)) × (l' ≡ l)
RequestStep (balance number) l r l' = (r ≡ Err (NotTaken NoDay)) × (l' ≡ l)
RequestStep (account number) l r l' = (r ≡ Err (NotTaken NoDay)) × (l' ≡ l)

-- a line before the day: what comes of it, and the roster lines after it
abbrev pub LineStep : Result Request Reason → Lines → Result (Option Places) Failure → Lines → Type 0
LineStep (Ok asked) l r l' = RequestStep asked l r l'
LineStep (Err reason) l r l' = (r ≡ Err (NotTaken reason)) × (l' ≡ l)

-- a fact where a line opened a day
abbrev pub WhenOpened : {A E : Type 0} → Result (Option A) E → Type 0 → Type 0
WhenOpened (Ok (Some places)) P = P
WhenOpened (Ok None) P = Unit {0}
WhenOpened (Err error) P = Unit {0}
