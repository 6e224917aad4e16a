-- What bills come to. Assumes nothing.
use Rattle.std.specs.Prelude.{ℕ, Bool, true, cond, ℤ, pos, ◌==◌}
use Rattle.postings.specs.Postings.{Terms, award, mileage, capacity, obligation, bill, signed}
use Rattle.day.specs.declared.sums.Billed.{Billed}
use Rattle.day.specs.declared.sums.Billed.TheVariants.{Member, Everyone}

-- whether the bills of a member count, where one member's or everyone's are summed
abbrev pub counts : Billed → ℕ → Bool
counts (Member m) member = member == m
counts Everyone member = true

-- what a posting adds to the bills of one member, or of everyone: a credit counts below zero
abbrev pub cents_for : Billed → Terms → ℤ
cents_for billed (award site a1 a2 a3 a4 a5) = pos 0
cents_for billed (mileage p q0 q1 q2 q3) = pos 0
cents_for billed (capacity p q) = pos 0
cents_for billed (obligation member quantity) = pos 0
cents_for billed (bill member number side amount) = cond (counts billed member) (signed side amount) (pos 0)

-- what it adds to the balance of a member
abbrev pub bill_cents : ℕ → Terms → ℤ
bill_cents m = cents_for (Member m)

-- what it adds to all balances together
abbrev pub all_cents : Terms → ℤ
all_cents = cents_for Everyone
