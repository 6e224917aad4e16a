-- A list of calls, one after the other, extends a history. Assumes nothing.
use Rattle.std.proofs.Common.{◌≡◌, ℕ, ◌+◌, ◌<◌, ◌≤◌, List, [], ◌∷◌, ◌++◌, Result, map, length, get_or, drop, sym, refl, ap, ◌∙◌, append_assoc}
use Rattle.std.proofs.lemmas.List.{at_drop_more, at_drop_all, append-nil}
use Rattle.refusal.specs.declared.Refusal.{Refusal}
use Rattle.day.specs.declared.calls.Reply.{Reply}
use Rattle.day.specs.Days.{State}
use Rattle.day.specs.Requests.{Request}
use Rattle.day.specs.Answers.{answer, after}
use Rattle.history.specs.Runs.{Opening, Event, Run, called, play, events, with_events}

pub plays_run : (o : Opening) (qs : List Request) (s : State) (es : List Event) → Run o es s → Run o (with_events es (events s qs)) (play s qs)
plays_run o [] s es run = run
plays_run o (q ∷ qs) s es run = plays_run o qs (after s q) (record { request = q; answer = answer s q } ∷ es) (called run q)

-- the events are those of the calls
pub requests_are : (s : State) (qs : List Request) → map (λ e. e.request) (events s qs) ≡ qs
requests_are s [] = refl
requests_are s (q ∷ qs) = ap (λ rs. q ∷ rs) (requests_are (after s q) qs)

-- what they are answered
abbrev pub answers : State → List Request → List (Result Reply Refusal)
answers s qs = map (λ e. e.answer) (events s qs)

module _ {C : Type 0} (f : C → Request) (calls : List C) (i : ℕ) where
  -- one call more
  pub play_more : (d : C) (s t : State) → i < length calls → t ≡ after s (f (get_or calls i d)) → play t (map f (drop (i + 1) calls)) ≡ play s (map f (drop i calls))
  play_more d s t lt e = rw (e, at_drop_more (λ cs. play s (map f cs)) calls i d lt)

  pub answers_more : (d : C) (s t : State) (given : List (Result Reply Refusal)) (a : Result Reply Refusal) → i < length calls → t ≡ after s (f (get_or calls i d)) → a ≡ answer s (f (get_or calls i d)) →
      (given ++ a ∷ []) ++ answers t (map f (drop (i + 1) calls)) ≡ given ++ answers s (map f (drop i calls))
  answers_more d s t given a lt e is = rw (append_assoc, is, e, at_drop_more (λ cs. answers s (map f cs)) calls i d lt)

  -- no call left
  pub play_end : (s : State) → length calls ≤ i → s ≡ play s (map f (drop i calls))
  play_end s le = sym (at_drop_all (λ cs. play s (map f cs)) calls i le)

  pub answers_end : (s : State) (given : List (Result Reply Refusal)) → length calls ≤ i → given ≡ given ++ answers s (map f (drop i calls))
  answers_end s given le = sym (ap (λ more. given ++ more) (at_drop_all (λ cs. answers s (map f cs)) calls i le) ∙ append-nil given)
