-- How a number stands in bytes. Assumes nothing.
use Rattle.std.specs.Prelude.{ℕ, ◌+◌, ◌*◌, List, ℤ, slice_index}
use Rattle.std.specs.Int.{w32}
use Rattle.std.proofs.Common.{to_z}

-- the signed 32-bit number that stands in four bytes from i on, the lowest byte first
abbrev pub number_at : ℕ → List ℕ → ℤ
number_at i bytes = to_z w32 (slice_index bytes i + slice_index bytes (i + 1) * 256 + slice_index bytes (i + 2) * 65536 + slice_index bytes (i + 3) * 16777216)
