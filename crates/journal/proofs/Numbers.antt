-- Numbers in digits. Assumes nothing.
use Rattle.std.proofs.Common.{◌≡◌, ℕ, ◌≢◌, true, false, eqb, List, [], ◌∷◌, get_or, Ok, Err, None, Result, arith}
use Rattle.std.specs.List.{starts_with}
use Rattle.std.specs.Result.{result_ok}
use Rattle.std.specs.Str.{all_ascii_digits, IsUtf8}
use Rattle.std.specs.Str.Parse.{digits_value, ParsesUnsigned}
use Rattle.std.proofs.lemmas.Str.{IsUtf8-from_ascii}
use Rattle.std.proofs.lemmas.Fmt.{IsAscii-from_digits}
use Rattle.std.proofs.lemmas.Str.Parse.{IsNumeralModel, numerals_by_value, tells_all_ascii_digits, parse_plain}
use Rattle.std.proofs.lemmas.Bool.{false_from_ne_true}
use Rattle.std.proofs.lemmas.Bool.Decides.{nat_tests}
use Rattle.journal.specs.Words.{number_of}

own : IsNumeralModel (λ ds. all_ascii_digits ds ≡ true) (digits_value 10)
own = numerals_by_value _ tells_all_ascii_digits

pub parsed : {E : Type 0} (bs : List ℕ) (r : Result ℕ E) → ParsesUnsigned 64 10 bs r → get_or bs 0 0 ≢ 43 → result_ok r ≡ number_of bs
parsed {E} bs (Ok x) h plain = let k = parse_plain own {E = E} 64 bs (Ok x) h plain in grind (arith, nat_tests)
parsed {E} bs (Err e) h plain = let k = parse_plain own {E = E} 64 bs (Err e) h plain in grind (arith, nat_tests)

-- a text that is not UTF-8 is no number
pub no_text : (bs : List ℕ) → ¬ (IsUtf8 bs) → None ≡ number_of bs
no_text bs wrong =
    let other : all_ascii_digits bs ≡ false = false_from_ne_true _ (λ all. wrong (IsUtf8-from_ascii bs (IsAscii-from_digits bs (own.to bs all)))) in
    grind (arith, nat_tests)

-- no plus stands first
pub plain : (bs : List ℕ) → false ≡ starts_with eqb bs (43 ∷ []) → get_or bs 0 0 ≢ 43
plain [] h e = absurd (omega arith)
plain (b ∷ bs) h e = cc
