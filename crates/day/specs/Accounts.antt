-- The accounts and their numbers. Assumes nothing.
use Rattle.std.specs.Prelude.{ℕ, cond, Some, None, Option, ◌==◌}
use Rattle.day.specs.declared.account.Account.{Account}
use Rattle.day.specs.declared.account.Account.TheVariants.{Rounding, Neutrality, PassThrough}

-- the number of an account
abbrev pub account_number : Account → ℕ
account_number Rounding = 0
account_number Neutrality = 1
account_number PassThrough = 2

-- the account of a number
abbrev pub account_at : ℕ → Option Account
account_at n =
    cond (n == account_number Rounding) (Some Rounding)
    (cond (n == account_number Neutrality) (Some Neutrality)
    (cond (n == account_number PassThrough) (Some PassThrough) None))
