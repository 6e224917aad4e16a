-- Directions, their numbers and their letters. Assumes nothing.
use Rattle.std.specs.Prelude.{ℕ, cond, Some, None, Option, ◌==◌}
use Rattle.units.specs.declared.bounds.Direction.{Direction}
use Rattle.units.specs.declared.bounds.Direction.TheVariants.{Up, Down}

abbrev pub direction_number : Direction → ℕ
direction_number Up = 0
direction_number Down = 1

-- U or D
abbrev pub direction_of : ℕ → Option Direction
direction_of letter = cond (letter == 85) (Some Up) (cond (letter == 68) (Some Down) None)
