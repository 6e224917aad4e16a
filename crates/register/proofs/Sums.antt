-- A sum over what is held is the sum of the look-ups over the key space. Assumes nothing.
use Rattle.std.proofs.Common.{◌≡◌, ℕ, zero, suc, ◌+◌, ◌*◌, ◌<◌, ◌≤◌, Bool, true, false, cond, ◌⊎◌, List, [], ◌∷◌, ℤ, pos, ◌+ℤ◌, nat_abs, Some, None, Option, sym, refl, ap, ◌∙◌, subst, ap₂, inl, inr, suc-mul, arith}
use native.Mathlib.Decide.{ℕ_discrete}
use lib.IntN.{+ℤ_idl, +ℤ_idr}
use Rattle.std.proofs.lemmas.Int.{ints}
use Rattle.register.specs.Shapes.{Shape, Decides}
use Rattle.register.specs.Registers.{look, distinct, value_of, sum_held, sum_over, Each, Space, SumsByKey, SumsBounded}
use Rattle.register.proofs.Basics.{not_same}
use Rattle.register.proofs.Laws.{first_apart}

pub interchange : (a b c d : ℤ) → (a +ℤ b) +ℤ (c +ℤ d) ≡ (a +ℤ c) +ℤ (b +ℤ d)
interchange a b c d = omega (arith, ints)

module _ {E K : Type 0} (w : Shape E K) (d : Decides w.same) (f : E → ℤ) (space : ℕ → K) where
  -- the sum of the look-ups where nothing is held
  over_none : (n : ℕ) → sum_over w f space n [] ≡ pos 0
  over_none zero = refl
  over_none (suc n) = +ℤ_idr (sum_over w f space n []) ∙ over_none n

  -- what the element x adds at a key
  abbrev at_key : E → K → ℤ
  at_key x k = cond (w.same k (w.key x)) (f x) (pos 0)

  abbrev sum_at : E → ℕ → ℤ
  sum_at x zero = pos 0
  sum_at x (suc n) = sum_at x n +ℤ at_key x (space n)

  one_more : (x : E) (xs : List (Option E)) (k : K) → look w (w.key x) xs ≡ None → value_of f (look w k (Some x ∷ xs)) ≡ at_key x k +ℤ value_of f (look w k xs)
  one_more x xs k none = go (w.same k (w.key x)) refl
    where
      go : (b : Bool) → w.same k (w.key x) ≡ b → value_of f (cond b (Some x) (look w k xs)) ≡ cond b (f x) (pos 0) +ℤ value_of f (look w k xs)
      go true e = sym (ap (λ o. f x +ℤ value_of f o) (ap (λ j. look w j xs) (d.equal k (w.key x) e) ∙ none) ∙ +ℤ_idr (f x))
      go false e = sym (+ℤ_idl (value_of f (look w k xs)))

  over_more : (x : E) (xs : List (Option E)) (n : ℕ) → look w (w.key x) xs ≡ None → sum_over w f space n (Some x ∷ xs) ≡ sum_at x n +ℤ sum_over w f space n xs
  over_more x xs zero none = refl
  over_more x xs (suc n) none =
      ap₂ ◌+ℤ◌ (over_more x xs n none) (one_more x xs (space n) none)
      ∙ interchange (sum_at x n) (sum_over w f space n xs) (at_key x (space n)) (value_of f (look w (space n) xs))

  -- an element for which f is 0 adds nothing
  at_nothing : (x : E) → f x ≡ pos 0 → (n : ℕ) → sum_at x n ≡ pos 0
  at_nothing x z zero = refl
  at_nothing x z (suc n) = ap₂ ◌+ℤ◌ (at_nothing x z n) (go (w.same (space n) (w.key x)))
    where
      go : (b : Bool) → cond b (f x) (pos 0) ≡ pos 0
      go true = z
      go false = refl

  module _ (index : K → ℕ) where
    -- the keys before the element's own add nothing
    at_before : (x : E) (n : ℕ) → ((i : ℕ) → i < n → index (space i) ≡ i) → n ≤ index (w.key x) → sum_at x n ≡ pos 0
    at_before x zero back le = refl
    at_before x (suc n) back le =
        ap₂ ◌+ℤ◌ (at_before x n (λ i l. back i (omega arith)) (omega arith))
        (ap (λ b. cond b (f x) (pos 0)) (not_same d (space n) (w.key x) (λ e. let i = back n (omega arith) in let j = ap index e in absurd (omega arith))))

    -- its own key adds it once
    at_own : (x : E) (n : ℕ) → ((i : ℕ) → i < n → index (space i) ≡ i) → index (w.key x) < n → space (index (w.key x)) ≡ w.key x → sum_at x n ≡ f x
    at_own x zero back lt own = absurd (omega arith)
    at_own x (suc n) back lt own = go (ℕ_discrete (index (w.key x)) n) (λ l. at_own x n (λ i m. back i (omega arith)) l own)
      where
        go : Dec (index (w.key x) ≡ n) → (index (w.key x) < n → sum_at x n ≡ f x) → sum_at x (suc n) ≡ f x
        go (yes e) ih =
            ap₂ ◌+ℤ◌ (at_before x n (λ i l. back i (omega arith)) (omega arith))
            (ap (λ b. cond b (f x) (pos 0)) (ap (λ i. w.same (space i) (w.key x)) (sym e) ∙ ap (λ k. w.same k (w.key x)) own ∙ d.self (w.key x)))
            ∙ +ℤ_idl (f x)
        go (no ne) ih =
            let below : index (w.key x) < n = omega arith in
            ap₂ ◌+ℤ◌ (ih below)
            (ap (λ b. cond b (f x) (pos 0)) (not_same d (space n) (w.key x) (λ e. let i = back n (omega arith) in let j = ap index e in absurd (ne (omega arith)))))
            ∙ +ℤ_idr (f x)

  module _ (n : ℕ) (index : K → ℕ) (back : (i : ℕ) → i < n → index (space i) ≡ i) where
    abbrev Covered : E → Type 0
    Covered x = (f x ≡ pos 0) ⊎ ((index (w.key x) < n) × (space (index (w.key x)) ≡ w.key x))

    own : (x : E) → Covered x → sum_at x n ≡ f x
    own x (inl z) = at_nothing x z n ∙ sym z
    own x (inr p) = at_own index x n back p.0 p.1

    free : (xs : List (Option E)) (m : ℕ) → sum_over w f space m xs ≡ sum_over w f space m (None ∷ xs)
    free xs zero = refl
    free xs (suc m) = ap (λ y. y +ℤ value_of f (look w (space m) xs)) (free xs m)

    by_key_at : (xs : List (Option E)) → Each Covered xs → distinct w xs ≡ true → sum_held f xs ≡ sum_over w f space n xs
    by_key_at [] all h = sym (over_none n)
    by_key_at (None ∷ xs) all h = +ℤ_idl (sum_held f xs) ∙ by_key_at xs all h ∙ free xs n
    by_key_at (Some x ∷ xs) all h =
        let rest = first_apart w x xs h in
        ap₂ ◌+ℤ◌ (sym (own x all.0)) (by_key_at xs all.1 rest.1) ∙ sym (over_more x xs n rest.0)

  pub by_key : (n : ℕ) (xs : List (Option E)) → Space w f space n xs → distinct w xs ≡ true → sum_held f xs ≡ sum_over w f space n xs
  by_key n xs keys h = by_key_at n keys.index keys.back xs keys.covers h

  abs_sum : (a b : ℤ) (n m : ℕ) → nat_abs a ≤ n → nat_abs b ≤ m → nat_abs (a +ℤ b) ≤ n + m
  abs_sum a b n m h k = grind (arith, ints)

  value_bound : (limit : ℕ) → ((x : E) → nat_abs (f x) ≤ limit) → (o : Option E) → nat_abs (value_of f o) ≤ limit
  value_bound limit h None = omega arith
  value_bound limit h (Some x) = h x

  over_bound : (limit : ℕ) → ((x : E) → nat_abs (f x) ≤ limit) → (xs : List (Option E)) (n : ℕ) → nat_abs (sum_over w f space n xs) ≤ n * limit
  over_bound limit h xs zero = omega arith
  over_bound limit h xs (suc n) =
      let more = abs_sum (sum_over w f space n xs) (value_of f (look w (space n) xs)) (n * limit) limit (over_bound limit h xs n) (value_bound limit h (look w (space n) xs)) in
      omega (arith, suc-mul n limit)

  pub bounded : (n limit : ℕ) → (xs : List (Option E)) → Space w f space n xs → distinct w xs ≡ true → ((x : E) → nat_abs (f x) ≤ limit) → nat_abs (sum_held f xs) ≤ n * limit
  bounded n limit xs keys h small = subst (λ (z : ℤ). nat_abs z ≤ n * limit) (sym (by_key n xs keys h)) (over_bound limit small xs n)

pub sums_by_key : {E K : Type 0} (w : Shape E K) → Decides w.same → (xs : List (Option E)) → SumsByKey w xs
sums_by_key w d xs f space n keys h = by_key w d f space n xs keys h

pub sums_bounded : {E K : Type 0} (w : Shape E K) → Decides w.same → (xs : List (Option E)) → SumsBounded w xs
sums_bounded w d xs f space n limit keys h small = bounded w d f space n limit xs keys h small

-- look-ups that f values alike over the key space give equal sums
pub over_alike : {E K : Type 0} (w : Shape E K) (f : E → ℤ) (space : ℕ → K) (xs ys : List (Option E)) → ((k : K) → value_of f (look w k xs) ≡ value_of f (look w k ys)) →
    (n : ℕ) → sum_over w f space n xs ≡ sum_over w f space n ys
over_alike w f space xs ys h zero = refl
over_alike w f space xs ys h (suc n) = ap₂ ◌+ℤ◌ (over_alike w f space xs ys h n) (h (space n))
