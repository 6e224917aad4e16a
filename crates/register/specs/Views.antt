-- A register seen through a view of its elements. Assumes nothing.
use Rattle.std.specs.Prelude.{List, map, Ok, Err, Option, Result}
use Rattle.std.specs.Option.{option_map}
use Rattle.refusal.specs.declared.Refusal.{Refusal}
use Rattle.register.specs.Shapes.{Shape}

-- the shape of elements that are read through their views
abbrev pub through : {E S K : Type 0} → (E → S) → Shape S K → Shape E K
through view w = record { key = λ e. w.key (view e); version = λ e. w.version (view e); document = λ e. w.document (view e); same = w.same }

-- the places with the views of their elements
abbrev pub views : {E S : Type 0} → (E → S) → List (Option E) → List (Option S)
views view xs = map (option_map view) xs

-- an answer with the view of what was replaced
abbrev pub view_answer : {E S : Type 0} → (E → S) → Result (Option E) Refusal → Result (Option S) Refusal
view_answer view (Ok old) = Ok (option_map view old)
view_answer view (Err refusal) = Err refusal
