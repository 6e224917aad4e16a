-- Spaces at the end of a field. Assumes nothing.
use Rattle.std.proofs.Common.{◌≡◌, ℕ, zero, suc, ◌+◌, ◌-◌, ◌==◌, ◌<◌, ◌≤◌, Bool, true, false, cond, not, ltb, List, [], ◌∷◌, length, get_or, take, reverse, Some, None, Option, refl, sym, ap, ◌∙◌, arith}
use Rattle.std.specs.List.{position, position_or_len, prefix_len, suffix_len}
use Rattle.std.specs.Option.{unwrap_or}
use Rattle.std.proofs.lemmas.List.{length-reverse, get_or-reverse, take_all}
use Rattle.std.proofs.lemmas.List.Sums.{prefix_len-le-length, prefix_len_stops, suffix_len-take_no}
use Rattle.std.proofs.lemmas.Bool.Decides.{nat_tests}
use Rattle.names.specs.Names.{space, trimmed_end, decoded, text}

-- the first place, or the length where there is none
first_or_length : (p : ℕ → Bool) (bs : List ℕ) (o : Option ℕ) (n : ℕ) → o ≡ position p bs → n ≡ length bs → unwrap_or o n ≡ position_or_len p bs
first_or_length p bs o n found all = ap (λ k. unwrap_or k n) found ∙ by (position_or_len p bs) (prefix_len-le-length _ bs)
  where
    by : (k : ℕ) → k ≤ length bs → unwrap_or (cond (ltb k (length bs)) (Some k) None) n ≡ k
    by k within = grind (arith, nat_tests)

-- before the first byte that is no space stand the spaces
before_others : (bs : List ℕ) → position_or_len (λ b. not (b == space)) bs ≡ prefix_len (λ b. b == space) bs
before_others [] = refl
before_others (b ∷ bs) = by (b == space) (before_others bs)
  where
    by : {m n : ℕ} (c : Bool) → m ≡ n → cond (not (not c)) (1 + m) 0 ≡ cond c (1 + n) 0
    by true same = ap (λ k. 1 + k) same
    by false same = refl

pub spaces : (field : List ℕ) (o : Option ℕ) (r : ℕ) → r ≡ unwrap_or o (length field) → o ≡ position (λ b. not (b == space)) (reverse field) → r ≡ suffix_len (λ b. b == space) field
spaces field o r is found = is ∙ first_or_length (λ b. not (b == space)) (reverse field) o (length field) found (sym (length-reverse field)) ∙ before_others (reverse field)

-- a field that is trimmed has no space at its end
once : (xs : List ℕ) → suffix_len (λ b. b == space) (trimmed_end xs) ≡ 0
once xs = cases (length xs - suffix_len (λ b. b == space) xs) refl
  where
    cases : (m : ℕ) → m ≡ length xs - suffix_len (λ b. b == space) xs → suffix_len (λ b. b == space) (take m xs) ≡ 0
    cases zero is = refl
    cases (suc m) is =
        let few : suffix_len (λ b. b == space) xs < length (reverse xs) = omega (arith, length-reverse xs) in
        let other = prefix_len_stops (λ b. b == space) (reverse xs) 0 few in
        let place : length xs - 1 - suffix_len (λ b. b == space) xs ≡ suc m - 1 = omega arith in
        let there = get_or-reverse xs (suffix_len (λ b. b == space) xs) 0 (omega arith) ∙ ap (λ i. get_or xs i 0) place in
        suffix_len-take_no (λ b. b == space) xs (suc m) 0 (omega arith) (omega arith) (ap (λ b. b == space) (sym there) ∙ other)

pub same_text : (xs : List ℕ) → text (trimmed_end xs) ≡ text xs
same_text xs =
    let ys = trimmed_end xs in
    ap decoded (ap (λ n. take (length ys - n) ys) (once xs) ∙ take_all (length ys - 0) ys (omega arith))
