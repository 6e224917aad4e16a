-- What is asked of a day. Assumes nothing.
use Rattle.std.specs.Prelude.{ℕ, List}
use Rattle.day.specs.declared.calls.Call.{Call}
use Rattle.day.specs.declared.calls.Call.TheVariants.{Post, Balance, Account}

pub data Request : Type 0 where
  post : (bytes : List ℕ) → Request
  balance : (member : ℕ) → Request
  account : (number : ℕ) → Request

abbrev pub request_of : Call → Request
request_of (Post bytes) = post bytes.now
request_of (Balance member) = balance member
request_of (Account number) = account number
