use Rattle.std.proofs.Common.{ℤ, ap, ◌∙◌, arith}
use Rattle.std.proofs.lemmas.Int.{ints}
use Rattle.std.proofs.lemmas.List.{at_drop_more, at_drop_all}
use Rattle.register.specs.Registers.{value_of, sum_held}
use Rattle.register.specs.Held.{places_in}
use Rattle.register.proofs.Views.{sum_view}
use Rattle.postings.specs.declared.posting.Posting.{Posting}
use Rattle.postings.specs.Postings.{said, shape}
use Rattle.day.specs.Bills.{cents_for}
use Rattle.day.proofs.Totals.{sum_limit, total_fits}
use Rattle.day.proofs.sums.sum_bills.Goals as goal

pub add-total-requires : goal.add-total-requires
add-total-requires c =
    let xs = c.entries-place-items.result.now in
    let limit = sum_limit c.args.billed xs c.entries-place-items.ensures.keys in
    total_fits c.loop-place.total.0 c.cents_of.result.value.0 _ _ c.loop-place.invariant (limit c.loop-place.place-index) (limit 0) c.cents_of.result.within

pub loop-place-preserved : goal.loop-place-preserved
loop-place-preserved c =
    let f : Posting → ℤ = λ p. cents_for c.args.billed (said p).terms in
    let more = at_drop_more (sum_held f) c.entries-place-items.result.now c.loop-place.place-index c.place-item.result c.loop-place-test.true in
    let item = ap (value_of f) c.place-item.is in
    omega (arith, ints, c.add-total.ensures, c.cents_of.ensures, c.loop-place.invariant)

pub returns-clause-value : goal.returns-clause-value
returns-clause-value c =
    let f : Posting → ℤ = λ p. cents_for c.args.billed (said p).terms in
    let none = at_drop_all (sum_held f) c.entries-place-items.result.now c.loop-place.place-index c.loop-place-test.false in
    let held = ap (sum_held f) c.entries-place-items.ensures.value ∙ sum_view said shape (λ s. cents_for c.args.billed s.terms) (places_in c.args.records.now) in
    omega (arith, ints, c.loop-place.invariant)

pub returns-clause-bound : goal.returns-clause-bound
returns-clause-bound c =
    let f : Posting → ℤ = λ p. cents_for c.args.billed (said p).terms in
    let none = at_drop_all (sum_held f) c.entries-place-items.result.now c.loop-place.place-index c.loop-place-test.false in
    let limit = sum_limit c.args.billed c.entries-place-items.result.now c.entries-place-items.ensures.keys 0 in
    omega (arith, ints, c.loop-place.invariant)
