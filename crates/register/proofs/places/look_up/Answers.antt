use Rattle.std.proofs.Common.{◌∙◌}
use Rattle.register.proofs.Positions.{look_none, look_place}
use Rattle.register.proofs.places.look_up.Goals as goal

pub returns-in_err-i : goal.returns-in_err-i
returns-in_err-i g c = c.from_residual.ensures ∙ look_none g.E.Entry.shape c.args.key.now c.args.places.now c.in_err-i.ensures

pub returns : goal.returns
returns g c = c.index-places-i.is ∙ look_place g.E.Entry.shape c.index-places-i.result c.args.key.now c.args.places.now c.in_ok-i.i c.in_ok-i.ensures
