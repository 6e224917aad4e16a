-- The two parts of a quarter's mileage, and what each is paid. Assumes nothing.
use Rattle.std.specs.Prelude.{ℕ, zero, suc, ◌*◌, ◌/◌, ℤ, pos, negsuc, ◌+ℤ◌, ◌-ℤ◌, ◌*ℤ◌}
use Rattle.std.specs.Int.{int_max}
use Rattle.units.specs.Bounds.{full_accuracy, mileage_limit}
use Rattle.units.specs.Division.{floor_div}

-- what a site was scheduled for: the day-ahead award, the self-provision, and the final real-time schedule
pub record Schedules : Type 0 where
  pub award : ℤ
  pub self_provision : ℤ
  pub final : ℤ

-- what was scheduled day-ahead: the award and the self-provision
abbrev pub day_ahead_schedule : Schedules → ℤ
day_ahead_schedule s = s.award +ℤ s.self_provision

-- the greater of what was scheduled day-ahead and of the final real-time schedule
abbrev pub greater_schedule : Schedules → ℤ
greater_schedule s = int_max (day_ahead_schedule s) s.final

-- a mileage's share in proportion to the part of the greatest schedule, rounded down; none where nothing is scheduled
abbrev pub share : (mileage part greatest : ℤ) → ℤ
share mileage part (pos zero) = pos 0
share mileage part (pos (suc h)) = floor_div (mileage *ℤ part) (suc h)
share mileage part (negsuc h) = pos 0

-- what a share leaves of a mileage; nothing where nothing is scheduled
abbrev pub remainder : (mileage share greatest : ℤ) → ℤ
remainder mileage share (pos zero) = pos 0
remainder mileage share (pos (suc h)) = mileage -ℤ share
remainder mileage share (negsuc h) = pos 0

-- the part of a mileage that is paid day-ahead
abbrev pub day_ahead_part : ℤ → Schedules → ℤ
day_ahead_part mileage s = share mileage (day_ahead_schedule s) (greater_schedule s)

-- the part that is paid in real time: all the rest
abbrev pub real_time_part : ℤ → Schedules → ℤ
real_time_part mileage s = remainder mileage (day_ahead_part mileage s) (greater_schedule s)

-- the kilowatts of a megawatt, which a price is for
abbrev pub kw_per_mw : ℕ
kw_per_mw = 1000

-- what a part is paid in cents, in proportion to the accuracy, rounded down by itself
abbrev pub paid : (part price accuracy : ℤ) → ℤ
paid part price accuracy = floor_div (part *ℤ price *ℤ accuracy) (kw_per_mw * full_accuracy)

-- a mileage price is at most so many cents per megawatt
abbrev pub price_limit : ℕ
price_limit = 10000

-- a quarter's two payments are together at most so many cents: the greatest mileage at the highest price and full accuracy
abbrev pub payment_limit : ℕ
payment_limit = mileage_limit * price_limit / kw_per_mw
