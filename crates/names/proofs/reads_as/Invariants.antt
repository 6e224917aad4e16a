use Rattle.std.proofs.Common.{◌≡◌, length}
use Rattle.names.specs.Names.{text, decoded, compared}
use Rattle.names.proofs.Comparisons.{agreed}
use Rattle.names.proofs.reads_as.Given as goal

abbrev pub invariant-loop-rest : goal.invariant-loop-rest
invariant-loop-rest l = agreed l.left (decoded l.rest) ≡ compared l.name (text l.field)

abbrev pub decreases-loop-rest : goal.decreases-loop-rest
decreases-loop-rest l = length l.rest
