use Rattle.std.proofs.Common.{◌≡◌, drop}
use Rattle.std.specs.Int.{int_max}
use Rattle.units.specs.Bounds.{Within}
use Rattle.watch.specs.Assessed.{available}
use Rattle.nopay.specs.NoPay.{quantity, greatest}
use Rattle.nopay.proofs.unavailability.Unavailability.greatest.Given as goal

abbrev pub invariant-loop-cause : goal.invariant-loop-cause
invariant-loop-cause l =
    let f = quantity l.self.schedule.value.0 (available l.self.availability) l.self.direction in
    record { whole : int_max l.greatest.0.0 (greatest f (drop l.cause-index l.causes)) ≡ greatest f l.causes; within : Within 20000 l.greatest.0.0 }
