use Rattle.std.proofs.Common.{rules}
use Rattle.std.proofs.lemmas.Iterator.Consumers.{map_from_collect}
use Rattle.journal.proofs.Ends.{in_parts}
use Rattle.journal.proofs.lines.records.Goals as goal

pub returns : goal.returns
returns c = map_from_collect _ c.collect.ensures.ran (in_parts _ _ c.args.text.now c.split_inclusive.ensures.rest c.split_inclusive.ensures.closure (λ b r q k. search rules))
