use Rattle.watch.specs.Assessed.{available}
use Rattle.nopay.specs.NoPay.{quantity, causes}
use Rattle.nopay.proofs.Greatest.{governs}
use Rattle.nopay.proofs.quarter.no_pay.Goals as goal

pub returns-clause-governs : goal.returns-clause-governs
returns-clause-governs c =
    rw c.first_greatest.ensures (governs (quantity c.args.award.now.schedule.value.0 (available c.args.availability.now) c.args.direction) causes)
