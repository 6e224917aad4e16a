-- The first byte of a kind. Assumes nothing.
use Rattle.std.proofs.Common.{◌≡◌, ℕ, ◌≤◌, Bool, cond, ltb, List, length, Some, None, Option, ap, ◌∙◌, arith}
use Rattle.std.specs.List.{position, position_or_len}
use Rattle.std.specs.Option.{unwrap_or}
use Rattle.std.proofs.lemmas.List.Sums.{prefix_len-le-length}
use Rattle.std.proofs.lemmas.Bool.Decides.{nat_tests}

-- the first place, or the length where there is none
pub first_or_length : (p : ℕ → Bool) (bs : List ℕ) (o : Option ℕ) (n r : ℕ) → r ≡ unwrap_or o n → o ≡ position p bs → n ≡ length bs → r ≡ position_or_len p bs
first_or_length p bs o n r is found all = is ∙ ap (λ k. unwrap_or k n) found ∙ by (position_or_len p bs) (prefix_len-le-length _ bs)
  where
    by : (k : ℕ) → k ≤ length bs → unwrap_or (cond (ltb k (length bs)) (Some k) None) n ≡ k
    by k within = grind (arith, nat_tests)
