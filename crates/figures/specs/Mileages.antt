-- Worked figures of mileage and accuracy, as the definitions compute them. Assumes nothing.
use Rattle.std.specs.Prelude.{List, [], ◌∷◌, ◌++◌, map, ℕ, ◌*◌, ℤ, pos}
use Rattle.units.specs.declared.bounds.Direction.{Direction}
use Rattle.units.specs.declared.bounds.Direction.TheVariants.{Up, Down}
use Rattle.signal.specs.Samples.{Sample, counted}
use Rattle.signal.specs.Sums.{Sums, sums, accuracy_of}
use Rattle.signal.specs.Laws.{negated}
use Rattle.mileage.specs.Mileage.{Schedules, day_ahead_part, real_time_part, paid}

-- a sample in MW
abbrev pub mw : ℕ → ℕ → Sample
mw set_point telemetry = record { set_point = pos (set_point * 1000); telemetry = pos (telemetry * 1000) }

-- fifteen samples of an up quarter
abbrev pub table : List Sample
table =
    mw 10 9 ∷ mw 15 14 ∷ mw 12 11 ∷ mw 18 19 ∷ mw 10 10 ∷ mw 15 14 ∷ mw 12 11 ∷ mw 21 19 ∷ mw 10 7 ∷ mw 15 14 ∷ mw 12 11 ∷ mw 18 22 ∷ mw 10 10 ∷ mw 7 10 ∷ mw 15 14 ∷ []

-- J, S, Y and the accuracy
abbrev pub listed : Sums → List ℤ
listed s = s.mileage ∷ s.set_points ∷ s.deviation ∷ s.accuracy ∷ []

abbrev pub quarter_figures : Direction → List Sample → List ℤ
quarter_figures d xs = listed (sums (pos 0) (map (counted d) xs))

-- an award, a self-provision and a final schedule, in kW
abbrev pub scheduled : ℕ → ℕ → ℕ → Schedules
scheduled award self_provision final = record { award = pos award; self_provision = pos self_provision; final = pos final }

-- the two parts of a mileage
abbrev pub parts : ℤ → Schedules → List ℤ
parts j s = day_ahead_part j s ∷ real_time_part j s ∷ []

-- what they are paid
abbrev pub payments : ℤ → Schedules → ℤ → ℤ → ℤ → List ℤ
payments j s day_ahead real_time accuracy = paid (day_ahead_part j s) day_ahead accuracy ∷ paid (real_time_part j s) real_time accuracy ∷ []

abbrev pub computed : List ℤ
computed =
    quarter_figures Up table
    ++ quarter_figures Down (map negated table)
    ++ (accuracy_of (pos 3) (pos 1) ∷ accuracy_of (pos 3) (pos 3) ∷ [])
    ++ parts (pos 88000) (scheduled 4000 2000 10000)
    ++ payments (pos 88000) (scheduled 4000 2000 10000) (pos 50) (pos 40) (pos 8950)
    ++ parts (pos 88000) (scheduled 4000 2000 5000)
