use Rattle.std.proofs.Common.{refl}
use Rattle.register.proofs.Sums.{sums_by_key, sums_bounded}
use Rattle.register.proofs.container.Register.entries.Goals as goal

pub returns : goal.returns
returns g c =
    let w = g.E.Entry.shape in
    let d = g.met.E.Entry.decides in
    record { value = refl; keys = c.args.self.now.keys; by_key = sums_by_key w d c.args.self.now.places.now; bounded = sums_bounded w d c.args.self.now.places.now }
