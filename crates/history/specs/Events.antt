-- What the history of a day says. Assumes nothing.
use Rattle.std.specs.Prelude.{ℕ, List, [], ◌∷◌, ℤ, Ok, Err, Option, Result}
use Rattle.std.specs.Option.{option_map}
use Rattle.refusal.specs.declared.Refusal.{Refusal}
use Rattle.register.specs.Taken.{latest, sum_taken}
use Rattle.roster.specs.Rosters.{Lines}
use Rattle.postings.specs.declared.posting.Key.{Key}
use Rattle.postings.specs.Postings.{Terms, Said, shape}
use Rattle.record.specs.Reading.{reading}
use Rattle.day.specs.declared.calls.Reply.{Reply}
use Rattle.day.specs.declared.calls.Reply.TheVariants.{Taken, Figure}
use Rattle.day.specs.Bills.{bill_cents, all_cents}
use Rattle.day.specs.Requests.{Request, post, balance, account}
use Rattle.history.specs.Runs.{Event}

-- with what was read in front
abbrev pub with_read : Result Said Refusal → List Said → List Said
with_read (Ok said) before = said ∷ before
with_read (Err refusal) before = before

-- with the record that a call posted in front, if it was taken
abbrev pub with_taken : Lines → Request → Result Reply Refusal → List Said → List Said
with_taken roster (post bytes) (Ok Taken) before = with_read (reading roster bytes) before
with_taken roster (post bytes) (Ok (Figure c)) before = before
with_taken roster (post bytes) (Err refusal) before = before
with_taken roster (balance m) a before = before
with_taken roster (account n) a before = before

-- the records that were taken, the newest first
abbrev pub records_taken : Lines → List Event → List Said
records_taken roster [] = []
records_taken roster (e ∷ es) = with_taken roster e.request e.answer (records_taken roster es)

-- what is held under a key: the terms of the record last taken under it; its version is not part of it
abbrev pub record_held : Lines → List Event → Key → Option Terms
record_held roster es k = option_map (λ said. said.terms) (latest shape k (records_taken roster es))

-- the bills of a member that were taken, a credit counting below zero
abbrev pub bills_of : Lines → List Event → ℕ → ℤ
bills_of roster es m = sum_taken (λ said. bill_cents m said.terms) (records_taken roster es)

-- all bills that were taken
abbrev pub all_bills : Lines → List Event → ℤ
all_bills roster es = sum_taken (λ said. all_cents said.terms) (records_taken roster es)
