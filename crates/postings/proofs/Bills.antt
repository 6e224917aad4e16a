-- How far a bill moves a balance. Assumes nothing.
use Rattle.std.proofs.Common.{ℕ, ◌≤◌, ℤ, nat_abs, arith}
use Rattle.std.proofs.lemmas.Int.{ints}
use Rattle.postings.specs.declared.posting.Side.{Side}
use Rattle.postings.specs.declared.posting.Side.TheVariants.{Charge, Credit}
use Rattle.postings.specs.Limits.{Within}
use Rattle.postings.specs.Postings.{signed}

pub signed_within : (side : Side) (limit : ℕ) (amount : ℤ) → Within limit amount → nat_abs (signed side amount) ≤ limit
signed_within Charge limit amount within = let low = within.0 in let high = within.1 in omega (arith, ints)
signed_within Credit limit amount within = let low = within.0 in let high = within.1 in omega (arith, ints)
