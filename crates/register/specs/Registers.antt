-- What a register holds: places, each free or with an element, no two elements under one key. Assumes nothing.
use Rattle.std.specs.Prelude.{◌≡◌, ℕ, zero, suc, ◌*◌, ◌<◌, ◌≤◌, Bool, true, false, cond, ◌⊎◌, List, [], ◌∷◌, length, ℤ, pos, ◌+ℤ◌, is_some, Some, None, Ok, Err, Option, Result, nat_lt, unsigned_abs}
use Rattle.refusal.specs.declared.Refusal.{Refusal}
use Rattle.refusal.specs.declared.Refusal.TheVariants.{VersionNotHigher, RegisterFull}
use Rattle.register.specs.Shapes.{Shape}

-- the element that is held under a key
abbrev pub look : {E K : Type 0} → Shape E K → K → List (Option E) → Option E
look w k [] = None
look w k (None ∷ xs) = look w k xs
look w k (Some x ∷ xs) = cond (w.same k (w.key x)) (Some x) (look w k xs)

-- whether the element under a key stands in a place
abbrev pub holds : {E K : Type 0} → Shape E K → K → Option E → Bool
holds w k None = false
holds w k (Some x) = w.same k (w.key x)

-- how many elements are held
abbrev pub count : {E : Type 0} → List (Option E) → ℕ
count [] = 0
count (None ∷ xs) = count xs
count (Some x ∷ xs) = suc (count xs)

-- whether a place is free
abbrev pub room : {E : Type 0} → List (Option E) → Bool
room [] = false
room (None ∷ xs) = true
room (Some x ∷ xs) = room xs

-- with e in the first free place
abbrev pub add : {E : Type 0} → List (Option E) → E → List (Option E)
add [] e = []
add (None ∷ xs) e = Some e ∷ xs
add (Some x ∷ xs) e = Some x ∷ add xs e

-- with e in the place of the element under its key
abbrev pub replace : {E K : Type 0} → Shape E K → List (Option E) → E → List (Option E)
replace w [] e = []
replace w (None ∷ xs) e = None ∷ replace w xs e
replace w (Some x ∷ xs) e = cond (w.same (w.key e) (w.key x)) (Some e ∷ xs) (Some x ∷ replace w xs e)

-- whether e takes the place of what stands there: a higher version does
abbrev pub supersedes : {E K : Type 0} → Shape E K → E → Option E → Bool
supersedes w e None = true
supersedes w e (Some held) = nat_lt (w.version held) (w.version e)

-- what a put of e answers, where `held` is under its key: what e replaces, if anything, or why it is turned back
abbrev pub answer_by : {E K : Type 0} → Shape E K → Option E → List (Option E) → E → Result (Option E) Refusal
answer_by w None xs e = cond (room xs) (Ok None) (Err RegisterFull)
answer_by w (Some old) xs e = cond (nat_lt (w.version old) (w.version e)) (Ok (Some old)) (Err (VersionNotHigher (w.document e)))

abbrev pub put_answer : {E K : Type 0} → Shape E K → List (Option E) → E → Result (Option E) Refusal
put_answer w xs e = answer_by w (look w (w.key e) xs) xs e

-- the places after a put that answered so
abbrev pub leaves_by : {E K : Type 0} → Shape E K → Result (Option E) Refusal → List (Option E) → E → List (Option E)
leaves_by w (Ok None) xs e = add xs e
leaves_by w (Ok (Some old)) xs e = replace w xs e
leaves_by w (Err refusal) xs e = xs

abbrev pub put : {E K : Type 0} → Shape E K → List (Option E) → E → List (Option E)
put w xs e = leaves_by w (put_answer w xs e) xs e

-- whether no two elements are under one key
abbrev pub distinct : {E K : Type 0} → Shape E K → List (Option E) → Bool
distinct w [] = true
distinct w (None ∷ xs) = distinct w xs
distinct w (Some x ∷ xs) = cond (is_some (look w (w.key x) xs)) false (distinct w xs)

-- what a put of e that answered r does: ys are the places after it
pub record HeldAfter {E K : Type 0} (w : Shape E K) (e : E) (r : Result (Option E) Refusal) (xs ys : List (Option E)) : Type 0 where
  pub refused : (refusal : Refusal) → r ≡ Err refusal → ys ≡ xs
  pub same_key : (old : Option E) → r ≡ Ok old → (k : K) → w.same k (w.key e) ≡ true → look w k ys ≡ Some e
  pub other_key : (old : Option E) → r ≡ Ok old → (k : K) → w.same k (w.key e) ≡ false → look w k ys ≡ look w k xs
  pub replaced : (old : Option E) → r ≡ Ok old → look w (w.key e) xs ≡ old
  pub keys : distinct w xs ≡ true → distinct w ys ≡ true
  pub places : length ys ≡ length xs
  pub added : r ≡ Ok None → count ys ≡ suc (count xs)
  pub kept : (old : E) → r ≡ Ok (Some old) → count ys ≡ count xs

-- what f gives for an element, if there is one
abbrev pub value_of : {E : Type 0} → (E → ℤ) → Option E → ℤ
value_of f None = pos 0
value_of f (Some x) = f x

-- the sum over what is held
abbrev pub sum_held : {E : Type 0} → (E → ℤ) → List (Option E) → ℤ
sum_held f [] = pos 0
sum_held f (x ∷ xs) = value_of f x +ℤ sum_held f xs

-- the sum of the look-ups over the first n keys of a key space
abbrev pub sum_over : {E K : Type 0} → Shape E K → (E → ℤ) → (ℕ → K) → ℕ → List (Option E) → ℤ
sum_over w f space zero xs = pos 0
sum_over w f space (suc n) xs = sum_over w f space n xs +ℤ value_of f (look w (space n) xs)

-- each element that is held is so
abbrev pub Each : {E : Type 0} → (E → Type 0) → List (Option E) → Type 0
Each P [] = Unit {0}
Each P (None ∷ xs) = Each P xs
Each P (Some x ∷ xs) = P x × Each P xs

-- a key space of n keys, none of them twice, that has the key of each element held for which f is not 0
pub record Space {E K : Type 0} (w : Shape E K) (f : E → ℤ) (space : ℕ → K) (n : ℕ) (xs : List (Option E)) : Type 0 where
  pub index : K → ℕ
  pub back : (i : ℕ) → i < n → index (space i) ≡ i
  pub covers : Each (λ x. (f x ≡ pos 0) ⊎ ((index (w.key x) < n) × (space (index (w.key x)) ≡ w.key x))) xs

-- a sum over what is held is the sum of the look-ups over the key space, whatever the order of arrival
abbrev pub SumsByKey : {E K : Type 0} → Shape E K → List (Option E) → Type 0
SumsByKey {E} {K} w xs =
    (f : E → ℤ) (space : ℕ → K) (n : ℕ) → Space w f space n xs → distinct w xs ≡ true → sum_held f xs ≡ sum_over w f space n xs

-- and is bounded, however many places there are
abbrev pub SumsBounded : {E K : Type 0} → Shape E K → List (Option E) → Type 0
SumsBounded {E} {K} w xs =
    (f : E → ℤ) (space : ℕ → K) (n limit : ℕ) → Space w f space n xs → distinct w xs ≡ true → ((x : E) → unsigned_abs (f x) ≤ limit) → unsigned_abs (sum_held f xs) ≤ n * limit
