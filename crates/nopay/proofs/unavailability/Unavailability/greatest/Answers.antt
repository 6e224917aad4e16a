use Rattle.std.proofs.Common.{◌≡◌, arith, rules}
use Rattle.std.specs.Int.{int_max}
use Rattle.std.proofs.lemmas.Int.{ints, clamps}
use Rattle.watch.specs.Assessed.{available}
use Rattle.nopay.specs.NoPay.{quantity}
use Rattle.nopay.specs.declared.cause.Cause.TheVariants.{Outage}
use Rattle.nopay.proofs.Greatest.{starts, next, ends}
use Rattle.nopay.proofs.unavailability.Unavailability.greatest.Goals as goal

pub loop-cause-init : goal.loop-cause-init
loop-cause-init c =
    record { whole = starts (quantity c.args.self.schedule.value.0 (available c.args.self.availability) c.args.self.direction) c.args.causes.now; within = search rules }

pub loop-cause-preserved : goal.loop-cause-preserved
loop-cause-preserved c =
    let f = quantity c.args.self.schedule.value.0 (available c.args.self.availability) c.args.self.direction in
    let greater : c.max.result.0 ≡ int_max c.loop-cause.greatest.0.0 c.quantity.result.value.0 = search rules in
    record {
      whole = next f c.args.causes.now c.loop-cause.cause-index Outage c.loop-cause.greatest.0.0 c.quantity.result.value.0 c.max.result.0 c.loop-cause-test.true c.loop-cause.invariant.whole c.quantity.ensures greater;
      within = let low = c.loop-cause.invariant.within.0 in let high = c.loop-cause.invariant.within.1 in let within = c.quantity.result.within in (omega (arith, ints, clamps), omega (arith, ints, clamps));
    }

pub returns : goal.returns
returns c =
    ends (quantity c.args.self.schedule.value.0 (available c.args.self.availability) c.args.self.direction) c.args.causes.now c.loop-cause.cause-index c.loop-cause.greatest.0.0 c.loop-cause-test.false c.loop-cause.invariant.within.0 c.loop-cause.invariant.whole
