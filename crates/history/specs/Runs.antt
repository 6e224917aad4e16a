-- Runs: an opened day and the calls made of it, with what it answered. Assumes nothing.
use Rattle.std.specs.Prelude.{◌≡◌, ℕ, List, [], ◌∷◌, Ok, Result}
use Rattle.refusal.specs.declared.Refusal.{Refusal}
use Rattle.roster.specs.Rosters.{Lines, opening}
use Rattle.day.specs.declared.calls.Reply.{Reply}
use Rattle.day.specs.Days.{State, fresh}
use Rattle.day.specs.Requests.{Request}
use Rattle.day.specs.Answers.{answer, after}

-- what a day was opened with
pub record Opening : Type 0 where
  pub roster : Lines
  pub places : ℕ

-- a call with its answer
pub record Event : Type 0 where
  pub request : Request
  pub answer : Result Reply Refusal

-- the history of a day, the newest event first, and the state that it led to
pub data Run (o : Opening) : List Event → State → Type 0 where
  opened : opening o.roster ≡ Ok tt → Run o [] (fresh o.roster o.places)
  called : {es : List Event} {s : State} → Run o es s → (q : Request) → Run o (record { request = q; answer = answer s q } ∷ es) (after s q)

-- ---- what a list of calls does, the first call first
-- the state after them
abbrev pub play : State → List Request → State
play s [] = s
play s (q ∷ qs) = play (after s q) qs

-- their events, the oldest first
abbrev pub events : State → List Request → List Event
events s [] = []
events s (q ∷ qs) = record { request = q; answer = answer s q } ∷ events (after s q) qs

-- a history with these events after it, the oldest of them first
abbrev pub with_events : List Event → List Event → List Event
with_events es [] = es
with_events es (e ∷ new) = with_events (e ∷ es) new
