use Rattle.std.proofs.Common.{◌≡◌, ℤ, ◌*ℤ◌, Some, refl, arith, lit<, w64, SFits, rules}
use Rattle.std.proofs.lemmas.Int.{ints, clamps}
use Rattle.units.specs.Bounds.{Within, mileage_limit}
use Rattle.units.specs.Division.{quotient}
use Rattle.postings.specs.declared.posting.Award.{Award}
use Rattle.mileage.specs.Mileage.{day_ahead_schedule, greater_schedule}
use Rattle.mileage.specs.Awards.{schedules}
use Rattle.mileage.proofs.Products.{within_product, within_fits}
use Rattle.mileage.proofs.Shares.{Shared, shared}
use Rattle.mileage.proofs.payment.split.Goals as goal
use Rattle.mileage.proofs.payment.split.Goals.{In-Some}

abbrev day_ahead : Award → ℤ
day_ahead a = day_ahead_schedule (schedules a)

abbrev greater : Award → ℤ
greater a = greater_schedule (schedules a)

scheduled : (a : Award) (s : ℤ) → s ≡ day_ahead a → Within 40000 s
scheduled a s is = (omega (arith, ints), omega (arith, ints))

fitting : (a : Award) (j s : ℤ) → Within mileage_limit j → s ≡ day_ahead a → SFits w64 (j *ℤ s)
fitting a j s within is = within_fits _ (j *ℤ s) (lit< tt) (within_product mileage_limit 40000 j s within (scheduled a s is))

pub overflow_mul-whole : goal.overflow_mul-whole
overflow_mul-whole c =
    let fits = fitting c.args.award.now _ _ c.args.mileage.within c.day_ahead_schedule.ensures in
    search rules

split_shared : (c : In-Some) → Shared c.args.mileage.value.0 (day_ahead c.args.award.now) (greater c.args.award.now) c.in-Some.share
split_shared c =
    let j = c.args.mileage.value.0 in
    let a = c.args.award.now in
    let fits = fitting a j _ c.args.mileage.within c.day_ahead_schedule.ensures in
    let found : quotient (j *ℤ day_ahead a) (greater a) ≡ Some c.in-Some.share = search rules in
    let least = (scheduled a (day_ahead a) refl).0 in
    shared j (day_ahead a) (greater a) c.in-Some.share c.args.mileage.within.0 least (omega (arith, ints, clamps)) found

pub sub-requires : goal.sub-requires
sub-requires c = let known = split_shared c in search rules

pub invariant_of-result-2 : goal.invariant_of-result-2
invariant_of-result-2 c = let known = split_shared (goal.at.invariant_of-result-2 c).In-Some in search rules

pub invariant_of-result-3 : goal.invariant_of-result-3
invariant_of-result-3 c = let known = split_shared (goal.at.invariant_of-result-3 c).In-Some in search rules

pub returns : goal.returns
returns c = let known = split_shared (goal.at.returns c).In-Some in search rules
