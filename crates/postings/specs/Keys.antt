-- The comparison of two keys tells whether they are equal. Assumes nothing.
use Rattle.std.proofs.Common.{rules}
use Rattle.register.specs.Shapes.{Decides}
use Rattle.postings.specs.Postings.{same_key}

pub decides : Decides same_key
decides = search rules
