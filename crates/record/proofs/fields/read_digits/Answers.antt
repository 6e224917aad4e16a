use Rattle.std.proofs.Common.{arith}
use Rattle.std.proofs.lemmas.Nat.{pow-add}
use Rattle.std.proofs.lemmas.List.{drop_more}
use Rattle.record.proofs.fields.read_digits.Goals as goal

pub loop-d-preserved : goal.loop-d-preserved
loop-d-preserved c = (grind (arith, drop_more), omega (arith, pow-add 10 c.loop-d.d-index 1, c.in-48-to-57))
