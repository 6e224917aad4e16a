-- What a line of a journal asks for. Assumes nothing.
use Rattle.std.specs.Prelude.{ℕ, Bool, false, cond, List, [], ◌∷◌, length, drop, Some, None, Ok, Err, codes, Option, Result, ◌==◌, nat_lt}
use Rattle.std.specs.Str.{bytes_eq}
use Rattle.refusal.specs.Checks.{viewed}
use Rattle.journal.specs.Words.{word_of, after_word, number_of}
use Rattle.outcomes.specs.declared.outcome.Reason.{Reason}
use Rattle.outcomes.specs.declared.outcome.Reason.TheVariants.{UnknownWord, MissingWords, TooManyWords, NotANumber}
use Rattle.journal.specs.declared.read.Places.{Places}
use Rattle.journal.specs.declared.read.Line.{Line}
use Rattle.journal.specs.declared.read.Line.TheVariants.{Passed, Member, Site, Open, Record, Records, Balance, Account}

-- a line as plain data: a name, a text or a file by its bytes
pub data Request : Type 0 where
  passed : Request
  member : List ℕ → Request
  site : Option ℕ → List ℕ → Request
  opening : Places → Request
  posting : List ℕ → Request
  postings_in : List ℕ → Request
  balance : Option ℕ → Request
  account : Option ℕ → Request

abbrev pub request_of : Line → Request
request_of Passed = passed
request_of (Member name) = member name.now
request_of (Site index name) = site index name.now
request_of (Open places) = opening places
request_of (Record text) = posting text.now
request_of (Records file) = postings_in file.now
request_of (Balance index) = balance index
request_of (Account index) = account index

-- a comment begins with a number sign
abbrev pub is_comment : List ℕ → Bool
is_comment [] = false
is_comment (b ∷ bs) = b == 35

-- all that stands after one separator, if anything does
abbrev pub text_after : List ℕ → Result (List ℕ) Reason
text_after rest = cond (nat_lt 1 (length rest)) (Ok (drop 1 rest)) (Err MissingWords)

-- the one word that stands there
abbrev pub only_word : List ℕ → Result (List ℕ) Reason
only_word rest =
    cond (length (word_of rest) == 0) (Err MissingWords)
    (cond (length (word_of (after_word rest)) == 0) (Ok (word_of rest)) (Err TooManyWords))

abbrev pub three_numbers : Option ℕ → Option ℕ → Option ℕ → Result Places Reason
three_numbers (Some a) (Some b) (Some c) = Ok (record { records = a; signals = b; watches = c })
three_numbers (Some a) (Some b) None = Err NotANumber
three_numbers (Some a) None c = Err NotANumber
three_numbers None b c = Err NotANumber

-- the numbers of places, with the last word on its own
abbrev pub places_by : Option ℕ → Option ℕ → Result (List ℕ) Reason → Result Places Reason
places_by a b (Ok last) = three_numbers a b (number_of last)
places_by a b (Err reason) = Err reason

abbrev pub places_of : List ℕ → Result Places Reason
places_of rest = places_by (number_of (word_of rest)) (number_of (word_of (after_word rest))) (only_word (after_word (after_word rest)))

-- what a first word asks for, by what follows it
abbrev pub by_word : List ℕ → List ℕ → Result Request Reason
by_word word rest =
    cond (bytes_eq word []) (Ok passed)
    (cond (bytes_eq word (codes "member")) (viewed member (text_after rest))
    (cond (bytes_eq word (codes "site")) (viewed (site (number_of (word_of rest))) (text_after (after_word rest)))
    (cond (bytes_eq word (codes "open")) (viewed opening (places_of rest))
    (cond (bytes_eq word (codes "record")) (viewed posting (text_after rest))
    (cond (bytes_eq word (codes "records")) (viewed postings_in (only_word rest))
    (cond (bytes_eq word (codes "balance")) (viewed (λ w. balance (number_of w)) (only_word rest))
    (cond (bytes_eq word (codes "account")) (viewed (λ w. account (number_of w)) (only_word rest)) (Err UnknownWord))))))))

-- what a line asks for, or the reason why it is not taken
abbrev pub request : List ℕ → Result Request Reason
request line = cond (is_comment line) (Ok passed) (by_word (word_of line) (after_word line))
