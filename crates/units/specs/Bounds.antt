-- The limits of quantities. Assumes nothing.
use Rattle.std.specs.Prelude.{ℕ, ℤ, pos, neg_ℤ, ◌≤ℤ◌}

-- at most so much below 0, and at most so much above
abbrev pub Between : ℕ → ℕ → ℤ → Type 0
Between below above z = (neg_ℤ (pos below) ≤ℤ z) × (z ≤ℤ pos above)

-- at least 0 and at most the limit
abbrev pub Within : ℕ → ℤ → Type 0
Within limit z = Between 0 limit z

-- at most the limit, above or below 0
abbrev pub Around : ℕ → ℤ → Type 0
Around limit z = Between limit limit z

-- the accuracy of a site that followed its signal exactly: all hundredths of a percent
abbrev pub full_accuracy : ℕ
full_accuracy = 10000

-- the samples of a signal quarter
abbrev pub sample_count : ℕ
sample_count = 225

-- a set point is at most so many kW
abbrev pub set_point_limit : ℕ
set_point_limit = 50000

-- the adjusted mileage of a quarter is at most so many kW: a step for each sample, each at most from one limit to the other
abbrev pub mileage_limit : ℕ
mileage_limit = 11250000
