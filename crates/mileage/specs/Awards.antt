-- The code's award as plain data. Assumes nothing.
use Rattle.postings.specs.declared.posting.Award.{Award}
use Rattle.mileage.specs.Mileage.{Schedules}

abbrev pub schedules : Award → Schedules
schedules a = record { award = a.day_ahead.value.0; self_provision = a.self_provision.value.0; final = a.schedule.value.0 }
