-- What an open day is, as plain data. Assumes nothing.
use Rattle.register.specs.Held.{places_in}
use Rattle.register.specs.Views.{views}
use Rattle.roster.specs.Rosters.{roster_of}
use Rattle.postings.specs.Postings.{said}
use Rattle.day.specs.declared.open_day.OpenDay.{OpenDay}
use Rattle.day.specs.Days.{State}

abbrev pub state_of : OpenDay → State
state_of d = record { roster = roster_of d.roster; records = views said (places_in d.records) }
