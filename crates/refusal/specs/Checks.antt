-- Checks one after the other: the first that fails turns back. Assumes nothing.
use Rattle.std.specs.Prelude.{Bool, true, false, Ok, Err, Result}
use Rattle.refusal.specs.declared.Refusal.{Refusal}

-- what follows, unless this was turned back
abbrev pub then : {A B : Type 0} → Result A Refusal → (A → Result B Refusal) → Result B Refusal
then (Ok x) next = next x
then (Err e) next = Err e

-- turned back unless the test holds
abbrev pub provided : Bool → Refusal → Result (Unit {0}) Refusal
provided true refusal = Ok tt
provided false refusal = Err refusal

-- a result by its view
abbrev pub viewed : {A B E : Type 0} → (A → B) → Result A E → Result B E
viewed view (Ok x) = Ok (view x)
viewed view (Err error) = Err error
