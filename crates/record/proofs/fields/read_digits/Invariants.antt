use Rattle.std.proofs.Common.{◌≡◌, ◌^◌, ◌<◌, drop}
use Rattle.record.specs.Reading.{number_after}
use Rattle.record.proofs.fields.read_digits.Given as goal

abbrev pub invariant-loop-d : goal.invariant-loop-d
invariant-loop-d l = (number_after l.n (drop l.d-index l.digits) ≡ number_after 0 l.digits) × (l.n < 10 ^ l.d-index)
