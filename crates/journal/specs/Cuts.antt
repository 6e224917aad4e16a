-- A text from its first byte of a kind on. Assumes nothing.
use Rattle.std.specs.Prelude.{ℕ, Bool, List, drop}
use Rattle.std.specs.List.{position_or_len}

abbrev pub from_first : (ℕ → Bool) → List ℕ → List ℕ
from_first kind bs = drop (position_or_len kind bs) bs
