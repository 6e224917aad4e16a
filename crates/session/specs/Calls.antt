-- The calls that a line makes, and what became of them. Assumes nothing.
use Rattle.std.specs.Prelude.{◌≡◌, ℕ, ◌-◌, ◌^◌, ◌⊎◌, List, [], ◌∷◌, ◌++◌, map, Some, None, Ok, Err, Option, Result}
use Rattle.std.specs.Option.{unwrap_or}
use Rattle.refusal.specs.declared.Refusal.{Refusal}
use Rattle.day.specs.declared.calls.Reply.{Reply}
use Rattle.day.specs.Days.{State}
use Rattle.day.specs.Requests.{Request, post, balance, account}
use Rattle.day.specs.Answers.{answer, after}
use Rattle.journal.specs.Lines.{records_of}
use Rattle.journal.specs.Reading.{Request as LineRequest, passed, member, site, opening, posting, postings_in, balance as balance_line, account as account_line}
use Rattle.outcomes.specs.declared.outcome.Failure.{Failure}
use Rattle.outcomes.specs.declared.outcome.Failure.TheVariants.{Refused, NotTaken}
use Rattle.outcomes.specs.declared.outcome.Reason.{Reason}
use Rattle.outcomes.specs.declared.outcome.Reason.TheVariants.{DayIsOpen, NoMemory}

-- what becomes of a line by what the day answers
abbrev pub outcome : Result Reply Refusal → Result Reply Failure
outcome (Ok reply) = Ok reply
outcome (Err refusal) = Err (Refused refusal)

-- a word that is no number, or too large for one, is out of the range of every argument
abbrev pub argument_of : Option ℕ → ℕ
argument_of number = unwrap_or number (2 ^ 64 - 1)

-- the request of a question
abbrev pub asked : LineRequest → Option Request
asked passed = None
asked (member name) = None
asked (site index name) = None
asked (opening places) = None
asked (posting text) = None
asked (postings_in file) = None
asked (balance_line number) = Some (balance (argument_of number))
asked (account_line number) = Some (account (argument_of number))

-- a record without its newline, posted with it
abbrev pub posting_of : List ℕ → Request
posting_of text = post (text ++ 10 ∷ [])

-- each record of a file
abbrev pub postings_of : List ℕ → List Request
postings_of text = map post (records_of text)

-- a request was made, or memory was wanting and nothing was done
abbrev pub Made : Request → State → Result Reply Failure → State → Type 0
Made q s r s' = ((r ≡ outcome (answer s q)) × (s' ≡ after s q)) ⊎ ((r ≡ Err (NotTaken NoMemory)) × (s' ≡ s))

-- what becomes of a line that makes this call, if it makes one
abbrev pub MadeBy : Option Request → State → Result Reply Failure → State → Type 0
MadeBy None s r s' = (r ≡ Err (NotTaken DayIsOpen)) × (s' ≡ s)
MadeBy (Some q) s r s' = Made q s r s'

-- what becomes of a line while a day is open: a record is posted, a question is asked, and no other line is taken
abbrev pub Answered : Result LineRequest Reason → State → Result Reply Failure → State → Type 0
Answered (Err reason) s r s' = (r ≡ Err (NotTaken reason)) × (s' ≡ s)
Answered (Ok (posting text)) s r s' = Made (posting_of text) s r s'
Answered (Ok passed) s r s' = MadeBy (asked passed) s r s'
Answered (Ok (member name)) s r s' = MadeBy (asked (member name)) s r s'
Answered (Ok (site index name)) s r s' = MadeBy (asked (site index name)) s r s'
Answered (Ok (opening places)) s r s' = MadeBy (asked (opening places)) s r s'
Answered (Ok (postings_in file)) s r s' = MadeBy (asked (postings_in file)) s r s'
Answered (Ok (balance_line number)) s r s' = MadeBy (asked (balance_line number)) s r s'
Answered (Ok (account_line number)) s r s' = MadeBy (asked (account_line number)) s r s'
