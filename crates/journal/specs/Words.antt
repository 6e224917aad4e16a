-- Words of a line, and numbers in digits. Assumes nothing.
use Rattle.std.specs.Prelude.{ℕ, ◌^◌, Bool, cond, ◌&&◌, ◌||◌, not, List, length, Some, None, Option, ◌==◌, nat_lt}
use Rattle.std.specs.List.{before_first}
use Rattle.std.specs.Str.{all_ascii_digits}
use Rattle.std.specs.Str.Parse.{digits_value}
use Rattle.journal.specs.Cuts.{from_first}

-- a space or a tab
abbrev pub is_separator : ℕ → Bool
is_separator b = b == 32 || b == 9

-- the text from its first byte that is no separator
abbrev pub past_separators : List ℕ → List ℕ
past_separators bs = from_first (λ b. not (is_separator b)) bs

-- the first word, and what follows it
abbrev pub word_of : List ℕ → List ℕ
word_of bs = before_first is_separator (past_separators bs)

abbrev pub after_word : List ℕ → List ℕ
after_word bs = from_first is_separator (past_separators bs)

-- digits, at least one, of a number below 2^64
abbrev pub is_number : List ℕ → Bool
is_number word = nat_lt 0 (length word) && all_ascii_digits word && nat_lt (digits_value 10 word) (2 ^ 64)

-- the number that a word writes
abbrev pub number_of : List ℕ → Option ℕ
number_of word = cond (is_number word) (Some (digits_value 10 word)) None
