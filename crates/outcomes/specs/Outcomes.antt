-- What is printed of a call. Assumes nothing.
use Rattle.std.specs.Prelude.{ℕ, ◌+◌, ◌-◌, ◌^◌, min, List, [], ◌∷◌, ◌++◌, codes, decimal, Ok, Err, Result}
use Rattle.refusal.specs.Refusals.{number_of, layer_of, place_of}
use Rattle.refusal.specs.Texts.{layer_text, explanation}
use Rattle.outcomes.specs.declared.outcome.Reason.{Reason}
use Rattle.outcomes.specs.declared.outcome.Reason.TheVariants.{NoDay, DayIsOpen, UnknownWord, MissingWords, TooManyWords, NotANumber, UnreadableFile, NoMemory}
use Rattle.outcomes.specs.declared.outcome.Failure.{Failure}
use Rattle.outcomes.specs.declared.outcome.Failure.TheVariants.{Refused, NotTaken}
use Rattle.day.specs.declared.calls.Reply.{Reply}
use Rattle.day.specs.declared.calls.Reply.TheVariants.{Taken, Figure}
use Rattle.day.specs.Replies.{reply_text}
use Rattle.outcomes.specs.declared.outcome.Label.{Label}
use Rattle.outcomes.specs.declared.outcome.Label.TheVariants.{Line, Record}
use Rattle.outcomes.specs.declared.outcome.Tally.{Tally}

abbrev pub reason_text : Reason → List ℕ
reason_text NoDay = codes "no day is open"
reason_text DayIsOpen = codes "a day is open"
reason_text UnknownWord = codes "the word is unknown"
reason_text MissingWords = codes "words are missing"
reason_text TooManyWords = codes "too many words"
reason_text NotANumber = codes "not a number"
reason_text UnreadableFile = codes "the file cannot be read"
reason_text NoMemory = codes "memory is wanting"

abbrev pub failure_text : Failure → List ℕ
failure_text (Refused refusal) =
    codes "refused " ++ (decimal (number_of refusal) ++ (codes " " ++ (layer_text (layer_of refusal) ++ (codes " " ++ (decimal (place_of refusal) ++ (codes " (" ++ (explanation refusal ++ codes ")")))))))
failure_text (NotTaken reason) = codes "not taken (" ++ (reason_text reason ++ codes ")")

-- what became of a line
abbrev pub outcome_text : Result Reply Failure → List ℕ
outcome_text (Ok reply) = reply_text reply
outcome_text (Err failure) = failure_text failure

abbrev pub label_text : Label → List ℕ
label_text (Line line) = decimal line
label_text (Record line nth) = decimal line ++ (codes "." ++ decimal nth)

-- the line that is printed of a call
abbrev pub report_line : Label → List ℕ → Result Reply Failure → List ℕ
report_line label word outcome = label_text label ++ codes " " ++ word ++ (codes " " ++ (outcome_text outcome ++ 10 ∷ []))

abbrev pub one_more : ℕ → ℕ
one_more n = min (n + 1) (2 ^ 64 - 1)

abbrev pub counted : Tally → Result Reply Failure → Tally
counted t (Ok Taken) = record { taken = one_more t.taken; refused = t.refused; answered = t.answered; not_taken = t.not_taken }
counted t (Ok (Figure cents)) = record { taken = t.taken; refused = t.refused; answered = one_more t.answered; not_taken = t.not_taken }
counted t (Err (Refused refusal)) = record { taken = t.taken; refused = one_more t.refused; answered = t.answered; not_taken = t.not_taken }
counted t (Err (NotTaken reason)) = record { taken = t.taken; refused = t.refused; answered = t.answered; not_taken = one_more t.not_taken }

abbrev pub tally_text : Tally → List ℕ
tally_text t =
    codes "taken " ++ (decimal t.taken ++ (codes ", refused " ++ (decimal t.refused ++ (codes ", answered " ++ (decimal t.answered ++ (codes ", not taken " ++ decimal t.not_taken))))))
