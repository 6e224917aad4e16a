use Rattle.std.proofs.Common.{◌≡◌, drop, ◌+ℤ◌}
use Rattle.register.specs.Registers.{sum_held}
use Rattle.postings.specs.Postings.{said}
use Rattle.day.specs.Bills.{cents_for}
use Rattle.day.proofs.sums.sum_bills.Given as goal

abbrev pub invariant-loop-place : goal.invariant-loop-place
invariant-loop-place l =
    let f = λ (p : _). cents_for l.billed (said p).terms in
    l.total.0 +ℤ sum_held f (drop l.place-index l.place-items) ≡ sum_held f l.place-items
