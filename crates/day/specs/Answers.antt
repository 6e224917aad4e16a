-- What a day answers, and what it is after each call. Assumes nothing.
use Rattle.std.specs.Prelude.{ℕ, cond, List, length, ℤ, pos, neg_ℤ, Ok, Err, Result, nat_lt}
use Rattle.units.specs.declared.quantity.Cents.{Cents}
use Rattle.std.specs.Option.{ok_or}
use Rattle.refusal.specs.declared.Refusal.{Refusal}
use Rattle.refusal.specs.declared.Refusal.TheVariants.{WrongArgument}
use Rattle.refusal.specs.Checks.{then, viewed}
use Rattle.register.specs.Registers.{put_answer, put, sum_held}
use Rattle.postings.specs.Postings.{Said, shape}
use Rattle.record.specs.Reading.{reading}
use Rattle.day.specs.declared.account.Account.{Account}
use Rattle.day.specs.declared.account.Account.TheVariants.{Rounding, Neutrality, PassThrough}
use Rattle.day.specs.declared.calls.Reply.{Reply}
use Rattle.day.specs.declared.calls.Reply.TheVariants.{Taken, Figure}
use Rattle.day.specs.Accounts.{account_at}
use Rattle.day.specs.Days.{State}
use Rattle.day.specs.Bills.{bill_cents, all_cents}
use Rattle.day.specs.Requests.{Request, post, balance, account}

-- ---- posting a record
-- what is read is taken, whatever it replaced, or turned back
abbrev pub put_in : State → Said → Result (Unit {0}) Refusal
put_in s said = viewed (λ _. tt) (put_answer shape s.records said)

abbrev pub post_answer : State → List ℕ → Result (Unit {0}) Refusal
post_answer s bytes = then (reading s.roster bytes) (put_in s)

abbrev pub posted_by : State → Result Said Refusal → State
posted_by s (Ok said) = record { roster = s.roster; records = put shape s.records said }
posted_by s (Err refusal) = s

abbrev pub posted : State → List ℕ → State
posted s bytes = posted_by s (reading s.roster bytes)

-- ---- questions
abbrev pub cents : ℤ → Cents
cents z = record { 0 = z }

-- what a member owes
abbrev pub balance_of : State → ℕ → ℤ
balance_of s m = sum_held (λ said. bill_cents m said.terms) s.records

abbrev pub balance_answer : State → ℕ → Result Cents Refusal
balance_answer s m = cond (nat_lt m (length s.roster.members)) (Ok (cents (balance_of s m))) (Err (WrongArgument 0))

-- what an account holds; nothing is settled yet
abbrev pub account_of : State → Account → ℤ
account_of s Rounding = pos 0
account_of s Neutrality = pos 0
account_of s PassThrough = neg_ℤ (sum_held (λ said. all_cents said.terms) s.records)

abbrev pub account_answer : State → ℕ → Result Cents Refusal
account_answer s n = viewed (λ a. cents (account_of s a)) (ok_or (account_at n) (WrongArgument 0))

-- ---- any call
abbrev pub answer : State → Request → Result Reply Refusal
answer s (post bytes) = viewed (λ _. Taken) (post_answer s bytes)
answer s (balance m) = viewed Figure (balance_answer s m)
answer s (account n) = viewed Figure (account_answer s n)

abbrev pub after : State → Request → State
after s (post bytes) = posted s bytes
after s (balance m) = s
after s (account n) = s
