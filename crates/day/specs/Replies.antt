-- What a day says to a call, as it is printed. Assumes nothing.
use Rattle.std.specs.Prelude.{ℕ, List, codes}
use Rattle.std.specs.Fmt.{signed_decimal}
use Rattle.day.specs.declared.calls.Reply.{Reply}
use Rattle.day.specs.declared.calls.Reply.TheVariants.{Taken, Figure}

abbrev pub reply_text : Reply → List ℕ
reply_text Taken = codes "taken"
reply_text (Figure cents) = signed_decimal cents.0
