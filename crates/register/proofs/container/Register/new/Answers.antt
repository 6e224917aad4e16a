use Rattle.std.proofs.Common.{length, ap, ◌∙◌}
use Rattle.register.specs.Registers.{distinct}
use Rattle.register.proofs.Laws.{distinct_fresh}
use Rattle.register.proofs.container.Register.new.Goals as goal

pub invariant_of-result : goal.invariant_of-result
invariant_of-result g c =
    let w = g.E.Entry.shape in
    record { keys = ap (distinct w) c.clear.ensures ∙ distinct_fresh w (length c.args.places.now) }
