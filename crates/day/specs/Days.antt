-- A day as plain data. Assumes nothing.
use Rattle.std.specs.Prelude.{ℕ, List, replicate, None, Option}
use Rattle.roster.specs.Rosters.{Lines}
use Rattle.postings.specs.Postings.{Said}

-- the roster, and the places for records with what they hold
pub record State : Type 0 where
  pub roster : Lines
  pub records : List (Option Said)

-- a day with so many places and nothing posted
abbrev pub fresh : Lines → ℕ → State
fresh roster places = record { roster = roster; records = replicate places None }
