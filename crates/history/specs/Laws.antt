-- The laws that hold after every event of every run. Assumes nothing.
use Rattle.std.specs.Prelude.{◌≡◌, ℕ, zero, suc, ◌<◌, List, length, ℤ, pos, ◌+ℤ◌, neg_ℤ, None, Ok, Err, Result}
use Rattle.refusal.specs.declared.Refusal.{Refusal}
use Rattle.register.specs.Taken.{latest, keys, Admitted}
use Rattle.postings.specs.declared.posting.Side.{Side}
use Rattle.postings.specs.declared.posting.Key.{Key}
use Rattle.postings.specs.Postings.{Said, bill, key_of, shape}
use Rattle.record.specs.Reading.{reading}
use Rattle.day.specs.declared.account.Account.TheVariants.{Rounding, Neutrality, PassThrough}
use Rattle.day.specs.declared.calls.Reply.{Reply}
use Rattle.day.specs.declared.calls.Reply.TheVariants.{Taken, Figure}
use Rattle.day.specs.Accounts.{account_number}
use Rattle.day.specs.Days.{State}
use Rattle.day.specs.Requests.{post, balance, account}
use Rattle.day.specs.Answers.{answer, cents}
use Rattle.history.specs.Runs.{Opening, Event, Run}
use Rattle.history.specs.Events.{records_taken, record_held, bills_of, all_bills}
pub use Rattle.units.specs.Exactly.{ExactlyWhen}

-- A record that reads well is taken exactly when every earlier one taken under its key has a lower version and, if there is none, fewer keys than
-- places were taken.
abbrev pub TakenExactlyWhen : Type 0
TakenExactlyWhen =
    (o : Opening) (es : List Event) (s : State) → Run o es s →
    (bytes : List ℕ) (said : Said) → reading o.roster bytes ≡ Ok said →
    ExactlyWhen (answer s (post bytes) ≡ Ok Taken) (Admitted shape o.places said (records_taken o.roster es))

-- A bill is taken exactly when none was taken under its key and fewer keys than places were taken: it is never replaced.
abbrev pub BillTakenExactlyWhen : Type 0
BillTakenExactlyWhen =
    (o : Opening) (es : List Event) (s : State) → Run o es s →
    (bytes : List ℕ) (said : Said) → reading o.roster bytes ≡ Ok said →
    (member number : ℕ) (side : Side) (amount : ℤ) → said.terms ≡ bill member number side amount →
    ExactlyWhen (answer s (post bytes) ≡ Ok Taken)
    ((latest shape (key_of said) (records_taken o.roster es) ≡ None) × (keys shape (records_taken o.roster es) < o.places))

-- what the questions answer, by the history alone
pub record FiguresOf (o : Opening) (es : List Event) (s : State) : Type 0 where
  pub balances : (m : ℕ) → m < length o.roster.members → answer s (balance m) ≡ Ok (Figure (cents (bills_of o.roster es m)))
  pub rounding : answer s (account (account_number Rounding)) ≡ Ok (Figure (cents (pos 0)))
  pub neutrality : answer s (account (account_number Neutrality)) ≡ Ok (Figure (cents (pos 0)))
  pub pass_through : answer s (account (account_number PassThrough)) ≡ Ok (Figure (cents (neg_ℤ (all_bills o.roster es))))

-- Each balance is the member's bills, rounding and neutrality are 0, and pass-through is all bills reversed.
abbrev pub BalancesAreBills : Type 0
BalancesAreBills = (o : Opening) (es : List Event) (s : State) → Run o es s → FiguresOf o es s

-- the sum of what f gives below n
abbrev pub sum_below : (ℕ → ℤ) → ℕ → ℤ
sum_below f zero = pos 0
sum_below f (suc n) = sum_below f n +ℤ f n

-- the figure in an answer
abbrev pub figure_in : Result Reply Refusal → ℤ
figure_in (Ok Taken) = pos 0
figure_in (Ok (Figure c)) = c.0
figure_in (Err refusal) = pos 0

-- Balances and accounts add up to zero.
abbrev pub AddsUpToZero : Type 0
AddsUpToZero =
    (o : Opening) (es : List Event) (s : State) → Run o es s →
    sum_below (λ m. figure_in (answer s (balance m))) (length o.roster.members) +ℤ sum_below (λ n. figure_in (answer s (account n))) 3 ≡ pos 0

-- Two runs with one roster that hold equal records, versions and order of arrival aside, have equal balances and accounts.
abbrev pub FiguresDependOnHoldingsAlone : Type 0
FiguresDependOnHoldingsAlone =
    (o p : Opening) (es fs : List Event) (s t : State) → Run o es s → Run p fs t →
    o.roster ≡ p.roster → ((k : Key) → record_held o.roster es k ≡ record_held p.roster fs k) →
    ((m : ℕ) → answer s (balance m) ≡ answer t (balance m)) × ((n : ℕ) → answer s (account n) ≡ answer t (account n))
