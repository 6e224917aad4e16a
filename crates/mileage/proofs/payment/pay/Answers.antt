use Rattle.std.proofs.Common.{◌≡◌, sym, subst, rules, arith}
use Rattle.std.proofs.lemmas.Grind.{common_steps}
use Rattle.units.specs.Bounds.{Within}
use Rattle.postings.specs.Limits.{price_at}
use Rattle.mileage.specs.Mileage.{price_limit, day_ahead_schedule, greater_schedule}
use Rattle.mileage.specs.Awards.{schedules}
use Rattle.mileage.proofs.Payments.{Payments, payments}
use Rattle.mileage.proofs.Shares.{parts_high}
use Rattle.mileage.proofs.payment.pay.Goals as goal
use Rattle.mileage.proofs.payment.pay.Goals.{After-paid-2}

both_paid : (c : After-paid-2) → Payments c.args.mileage.value.0 c.args.prices.now.day_ahead.value.0 (price_at c.args.prices.now.real_time c.args.quarter.value) c.args.accuracy.value c.paid.result.value.0 c.paid-2.result.value.0
both_paid c =
    let mileage = c.args.mileage in
    let parts = c.split-parts.result in
    let told = c.split-parts.ensures in
    let s = schedules c.args.award.now in
    let sum = parts_high _ (day_ahead_schedule s) (greater_schedule s) _ _ mileage.within.0 told.day_ahead told.real_time in
    let is : price_at c.args.prices.now.real_time c.args.quarter.value ≡ c.index-prices-from.result.value.0 = grind (arith, common_steps) in
    let within = subst (Within price_limit) (sym is) c.index-prices-from.result.within in
    payments _ _ _ _ _ _ _ _ parts.day_ahead.within.0 parts.real_time.within.0 sum mileage.within c.args.prices.now.day_ahead.within within c.args.accuracy.within c.paid.ensures (grind (arith, common_steps))

pub invariant_of-result : goal.invariant_of-result
invariant_of-result c = let known = both_paid c in search rules

pub returns-clause-together : goal.returns-clause-together
returns-clause-together c = (both_paid (goal.at.returns-clause-together c).After-paid-2).together
