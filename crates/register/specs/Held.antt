-- What the places of a register hold. Assumes nothing.
use Rattle.std.specs.Prelude.{List, Option}
use Rattle.register.specs.declared.entry.Entry as Entry
use Rattle.register.specs.declared.container.Register.{Register}

abbrev pub places_in : {E K : Type 0} {entry : Entry.Ghosts E K} → Register E K entry → List (Option E)
places_in r = r.places.now
