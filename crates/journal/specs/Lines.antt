-- Lines of a journal and records of a file. Assumes nothing.
use Rattle.std.specs.Prelude.{ℕ, Bool, cond, List, [], ◌∷◌, length, ◌==◌, nat_lt, if◌then◌else◌}
use Rattle.std.specs.List.{before_first, after_first, onto_first, position_or_len}
use Rattle.std.specs.Str.Lines.{strip_carriage_return}

abbrev pub is_newline : ℕ → Bool
is_newline b = b == 10

-- the first line: it ends at a newline, or at a carriage return right before one
abbrev pub line_of : List ℕ → List ℕ
line_of bs = if nat_lt (position_or_len is_newline bs) (length bs) then strip_carriage_return (before_first is_newline bs) else bs

-- what follows the first newline
abbrev pub after_line : List ℕ → List ℕ
after_line bs = after_first is_newline bs

-- the records of a file: a newline ends each, and the last may lack it
abbrev pub records_of : List ℕ → List (List ℕ)
records_of [] = []
records_of (b ∷ bs) = cond (b == 10) ((b ∷ []) ∷ records_of bs) (onto_first b (records_of bs))
