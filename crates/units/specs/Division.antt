-- Division that rounds towards minus infinity. Assumes nothing.
use Rattle.std.specs.Prelude.{ℕ, zero, suc, ◌/◌, ℤ, pos, negsuc, Some, None, Option}

-- the greatest number that, taken d times, is not above z
abbrev pub floor_div : ℤ → ℕ → ℤ
floor_div (pos a) d = pos (a / d)
floor_div (negsuc a) d = negsuc (a / d)

-- the quotient by a divisor above 0
abbrev pub quotient : ℤ → ℤ → Option ℤ
quotient z (pos zero) = None
quotient z (pos (suc d)) = Some (floor_div z (suc d))
quotient z (negsuc d) = None
