-- Searches in a row, through what they read of its entries. Assumes nothing.
use Rattle.std.proofs.Common.{◌≡◌, ℕ, suc, ◌+◌, Bool, true, false, cond, not, ltb, List, [], ◌∷◌, ◌++◌, map, length, take, Some, None, Option, Iter, position, sym, refl, ap, subst, ◌∙◌, append_assoc, length-append, rules, arith}
use Rattle.std.specs.List.{position_or_len, enumerate_from}
use Rattle.std.specs.Option.{option_map}
use Rattle.std.specs.Slice.Iter.{iter_rest}
use Rattle.std.specs.Str.{bytes_eq}
use Rattle.std.proofs.Math.Seq.{take-append_seam}
use Rattle.std.proofs.iter.Yields.{fronts}
use Rattle.std.proofs.lemmas.Bool.Decides.{nat_tests}
use Rattle.std.proofs.lemmas.Iterator.{YieldsList}
use Rattle.std.proofs.lemmas.Iterator.Consumers.{YieldsList-from_shown}
use Rattle.std.proofs.lemmas.List.{length-map}
use Rattle.roster.specs.Rosters.{found, wrong, wrong_after, wrong_name}

-- the entries of a row, each seen through f
pub seen_through : {A B : Type 0} (f : A → B) {s : Iter A} (xs : List A) → iter_rest s ≡ xs → YieldsList fronts (λ y. f y.now) s (map f xs)
seen_through f {s} xs e =
    subst (λ ys. YieldsList fronts (λ y. f y.now) s (map f ys)) e
    (YieldsList-from_shown fronts (λ y. f y.now) (λ t. map f (iter_rest t)) (λ t u h. length-map (iter_rest t) f ∙ h.0) (λ t x u h. ap (map f) h) s)

-- whether a text is this name
abbrev pub agrees : Option (List ℕ) → List ℕ → Bool
agrees None name = false
agrees (Some read) name = bytes_eq read name

nowhere : {A : Type 0} (xs : List A) → position_or_len (λ _. false) xs ≡ length xs
nowhere [] = refl
nowhere (x ∷ xs) = omega (arith, nowhere xs)

pub found_first : (text : Option (List ℕ)) (names : List (List ℕ)) → position (agrees text) names ≡ found text names
found_first None names = rw (nowhere names) (search rules)
found_first (Some name) names = refl

-- a position, entry by entry
position_cons : {A : Type 0} (test : A → Bool) (x : A) (xs : List A) → position test (x ∷ xs) ≡ cond (test x) (Some 0) (option_map suc (position test xs))
position_cons test x xs = cases (test x) (ltb (position_or_len test xs) (length xs)) refl
  where
    cases : (b c : Bool) → ltb (position_or_len test xs) (length xs) ≡ c →
        cond (ltb (cond (not b) (1 + position_or_len test xs) 0) (suc (length xs))) (Some (cond (not b) (1 + position_or_len test xs) 0)) None
        ≡ cond b (Some 0) (option_map suc (cond c (Some (position_or_len test xs)) None))
    cases true c e = search rules
    cases false true e = grind (arith, nat_tests)
    cases false false e = grind (arith, nat_tests)

-- whether the name at an index is wrong after those before it
abbrev pub wrong_at : List (List ℕ) → ℕ × List ℕ → Bool
wrong_at names p = wrong (take p.0 names) p.1

module _ (names : List (List ℕ)) where
  wrong_from : (earlier later : List (List ℕ)) → names ≡ earlier ++ later → position (wrong_at names) (enumerate_from (length earlier) later) ≡ wrong_after earlier later
  wrong_from earlier [] e = refl
  wrong_from earlier (name ∷ later) e =
      let before : take (length earlier) names ≡ earlier = rw e (take-append_seam earlier (name ∷ later)) in
      let count : length (earlier ++ name ∷ []) ≡ length earlier + 1 = length-append earlier (name ∷ []) in
      let next = rw count at (wrong_from (earlier ++ name ∷ []) later (e ∙ sym (append_assoc earlier (name ∷ []) later))) in
      position_cons (wrong_at names) (length earlier, name) (enumerate_from (length earlier + 1) later) ∙ rw (before, next)

  pub wrong_first : position (wrong_at names) (enumerate_from 0 names) ≡ wrong_name names
  wrong_first = wrong_from [] names refl
