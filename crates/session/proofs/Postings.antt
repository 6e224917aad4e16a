-- The calls that post the records of a file. Assumes nothing.
use Rattle.std.proofs.Common.{◌≡◌, ℕ, List, [], ◌∷◌, map, refl, ap, ◌∙◌, Bor}
use Rattle.day.specs.declared.calls.Call.{Call}
use Rattle.day.specs.declared.calls.Call.TheVariants.{Post}
use Rattle.day.specs.Requests.{post, request_of}
use Rattle.journal.specs.Lines.{records_of}
use Rattle.session.specs.Calls.{postings_of}

each : (texts : List (Bor (List ℕ))) → map request_of (map Post texts) ≡ map post (map (λ x. x.now) texts)
each [] = refl
each (x ∷ texts) = ap (λ qs. post x.now ∷ qs) (each texts)

pub posted : (texts slice : List (Bor (List ℕ))) (text : List ℕ) (calls : List Call) → map (λ x. x.now) texts ≡ records_of text → slice ≡ texts → calls ≡ map Post slice → map request_of calls ≡ postings_of text
posted texts slice text calls split same posts = ap (map request_of) (posts ∙ ap (map Post) same) ∙ each texts ∙ ap (map post) split
