use Rattle.std.proofs.Common.{◌∙◌, rules, tests}
use Rattle.std.proofs.lemmas.Iterator.{YieldsList-from_slice}
use Rattle.std.proofs.lemmas.Iterator.Search.{find_from_yields_List}
use Rattle.std.specs.Int.Signed.{le_z}
use Rattle.watch.specs.Assessed.{available}
use Rattle.nopay.specs.NoPay.{quantity}
use Rattle.nopay.proofs.unavailability.Unavailability.first_reaching.Goals as goal

pub returns : goal.returns
returns c =
    let f = quantity c.args.self.schedule.value.0 (available c.args.self.availability) c.args.self.direction in
    c.copied.ensures ∙ find_from_yields_List (λ x. le_z c.args.amount.0 (f x)) _ _ _ c.find.ensures.ran (YieldsList-from_slice c.args.causes.now cc) (λ x b q k. search (rules, tests))
