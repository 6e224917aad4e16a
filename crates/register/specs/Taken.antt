-- What was taken into a register, the newest first. Assumes nothing.
use Rattle.std.specs.Prelude.{◌≡◌, ℕ, suc, ◌<◌, true, cond, List, [], ◌∷◌, ℤ, pos, ◌+ℤ◌, is_some, Some, None, Option}
use Rattle.register.specs.Shapes.{Shape}

-- the last element taken under a key
abbrev pub latest : {E K : Type 0} → Shape E K → K → List E → Option E
latest w k [] = None
latest w k (x ∷ xs) = cond (w.same k (w.key x)) (Some x) (latest w k xs)

-- how many keys were taken
abbrev pub keys : {E K : Type 0} → Shape E K → List E → ℕ
keys w [] = 0
keys w (x ∷ xs) = cond (is_some (latest w (w.key x) xs)) (keys w xs) (suc (keys w xs))

-- every element taken under the key of e has a lower version
abbrev pub AllLower : {E K : Type 0} → Shape E K → E → List E → Type 0
AllLower w e [] = Unit {0}
AllLower w e (x ∷ xs) = (w.same (w.key e) (w.key x) ≡ true → w.version x < w.version e) × AllLower w e xs

-- what e needs to be taken into a register of n places: a higher version than all under its key, or, where there is none, fewer keys than places
pub record Admitted {E K : Type 0} (w : Shape E K) (n : ℕ) (e : E) (xs : List E) : Type 0 where
  pub newest : AllLower w e xs
  pub room : latest w (w.key e) xs ≡ None → keys w xs < n

-- the sum over what was taken
abbrev pub sum_taken : {E : Type 0} → (E → ℤ) → List E → ℤ
sum_taken f [] = pos 0
sum_taken f (x ∷ xs) = f x +ℤ sum_taken f xs
