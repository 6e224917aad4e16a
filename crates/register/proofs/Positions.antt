-- A put by places is the put of the definition. Assumes nothing.
use Rattle.std.proofs.Common.{◌≡◌, ℕ, zero, suc, ◌+◌, ◌≤◌, Bool, true, false, cond, ltb, List, [], ◌∷◌, set, get_or, Some, None, Ok, Err, Option, Result, is_none, sym, refl, ap, subst, ◌∙◌, zero-add, arith}
use Rattle.std.specs.List.{position, position_from}
use Rattle.std.proofs.lemmas.Iterator.Adapters.{position_from-zero}
use Rattle.std.proofs.lemmas.List.Quantifiers.{position-Some}
use Rattle.refusal.specs.declared.Refusal.{Refusal}
use Rattle.refusal.specs.declared.Refusal.TheVariants.{VersionNotHigher, RegisterFull}
use Rattle.register.specs.Shapes.{Shape}
use Rattle.register.specs.Registers.{look, holds, supersedes, room, add, replace, answer_by, put_answer, leaves_by, put}
use Rattle.register.proofs.Basics.{none_some, some_equal, true_false}

-- a position is not before the index from which it is counted
later : {X : Type 0} (p : X → Bool) (xs : List X) (i j : ℕ) → position_from p i xs ≡ Some j → i ≤ j
later p [] i j h = none_some j h
later p (x ∷ xs) i j h = go (later p xs (i + 1) j) (p x) h
  where
    go : (position_from p (i + 1) xs ≡ Some j → i + 1 ≤ j) → (b : Bool) → cond b (Some i) (position_from p (i + 1) xs) ≡ Some j → i ≤ j
    go ih true e = let s = some_equal i j e in omega arith
    go ih false e = let s = ih e in omega arith

module _ {E : Type 0} where
  free_room : (xs : List (Option E)) (i j : ℕ) → position_from is_none i xs ≡ Some j → room xs ≡ true
  free_room [] i j h = none_some j h
  free_room (None ∷ xs) i j h = refl
  free_room (Some x ∷ xs) i j h = free_room xs (i + 1) j h

  free_full : (xs : List (Option E)) (i : ℕ) → position_from is_none i xs ≡ None → room xs ≡ false
  free_full [] i h = refl
  free_full (None ∷ xs) i h = none_some i (sym h)
  free_full (Some x ∷ xs) i h = free_full xs (i + 1) h

  free_set : (xs : List (Option E)) (e : E) (i j n : ℕ) → i + n ≡ j → position_from is_none i xs ≡ Some j → set xs n (Some e) ≡ add xs e
  free_set [] e i j n m h = none_some j h
  free_set (None ∷ xs) e i j zero m h = refl
  free_set (None ∷ xs) e i j (suc n) m h = let s = some_equal i j h in absurd (omega arith)
  free_set (Some x ∷ xs) e i j zero m h = let s = later is_none xs (i + 1) j h in absurd (omega arith)
  free_set (Some x ∷ xs) e i j (suc n) m h = ap (λ ys. Some x ∷ ys) (free_set xs e (i + 1) j n (omega arith) h)

module _ {E K : Type 0} (w : Shape E K) where
  none_look : (k : K) (xs : List (Option E)) (i : ℕ) → position_from (holds w k) i xs ≡ None → look w k xs ≡ None
  none_look k [] i h = refl
  none_look k (None ∷ xs) i h = none_look k xs (i + 1) h
  none_look k (Some x ∷ xs) i h = go (none_look k xs (i + 1)) (w.same k (w.key x)) h
    where
      go : (position_from (holds w k) (i + 1) xs ≡ None → look w k xs ≡ None) → (b : Bool) → cond b (Some i) (position_from (holds w k) (i + 1) xs) ≡ None → cond b (Some x) (look w k xs) ≡ None
      go ih true e = none_some i (sym e)
      go ih false e = ih e

  place_look : (d : Option E) (k : K) (xs : List (Option E)) (i j n : ℕ) → i + n ≡ j → position_from (holds w k) i xs ≡ Some j → look w k xs ≡ get_or xs n d
  place_look d k [] i j n m h = none_some j h
  place_look d k (None ∷ xs) i j zero m h = let s = later (holds w k) xs (i + 1) j h in absurd (omega arith)
  place_look d k (None ∷ xs) i j (suc n) m h = place_look d k xs (i + 1) j n (omega arith) h
  place_look d k (Some x ∷ xs) i j zero m h = go (w.same k (w.key x)) h
    where
      go : (b : Bool) → cond b (Some i) (position_from (holds w k) (i + 1) xs) ≡ Some j → cond b (Some x) (look w k xs) ≡ Some x
      go true f = refl
      go false f = let s = later (holds w k) xs (i + 1) j f in absurd (omega arith)
  place_look d k (Some x ∷ xs) i j (suc n) m h = go (place_look d k xs (i + 1) j n (omega arith)) (w.same k (w.key x)) h
    where
      go : (position_from (holds w k) (i + 1) xs ≡ Some j → look w k xs ≡ get_or xs n d) → (b : Bool) → cond b (Some i) (position_from (holds w k) (i + 1) xs) ≡ Some j → cond b (Some x) (look w k xs) ≡ get_or xs n d
      go ih true f = let s = some_equal i j f in absurd (omega arith)
      go ih false f = ih f

  place_set : (xs : List (Option E)) (e : E) (i j n : ℕ) → i + n ≡ j → position_from (holds w (w.key e)) i xs ≡ Some j → set xs n (Some e) ≡ replace w xs e
  place_set [] e i j n m h = none_some j h
  place_set (None ∷ xs) e i j zero m h = let s = later (holds w (w.key e)) xs (i + 1) j h in absurd (omega arith)
  place_set (None ∷ xs) e i j (suc n) m h = ap (λ ys. None ∷ ys) (place_set xs e (i + 1) j n (omega arith) h)
  place_set (Some x ∷ xs) e i j zero m h = go (w.same (w.key e) (w.key x)) h
    where
      go : (b : Bool) → cond b (Some i) (position_from (holds w (w.key e)) (i + 1) xs) ≡ Some j → Some e ∷ xs ≡ cond b (Some e ∷ xs) (Some x ∷ replace w xs e)
      go true f = refl
      go false f = let s = later (holds w (w.key e)) xs (i + 1) j f in absurd (omega arith)
  place_set (Some x ∷ xs) e i j (suc n) m h = go (place_set xs e (i + 1) j n (omega arith)) (w.same (w.key e) (w.key x)) h
    where
      go : (position_from (holds w (w.key e)) (i + 1) xs ≡ Some j → set xs n (Some e) ≡ replace w xs e) → (b : Bool) → cond b (Some i) (position_from (holds w (w.key e)) (i + 1) xs) ≡ Some j → Some x ∷ set xs n (Some e) ≡ cond b (Some e ∷ xs) (Some x ∷ replace w xs e)
      go ih true f = let s = some_equal i j f in absurd (omega arith)
      go ih false f = ap (λ ys. Some x ∷ ys) (ih f)

  -- the look-up by the place of the key
  pub look_none : (k : K) (xs : List (Option E)) → None ≡ position (holds w k) xs → None ≡ look w k xs
  look_none k xs h = sym (none_look k xs 0 (sym (h ∙ position_from-zero (holds w k) xs)))

  pub look_place : (d : Option E) (k : K) (xs : List (Option E)) (i : ℕ) → Some i ≡ position (holds w k) xs → get_or xs i d ≡ look w k xs
  look_place d k xs i h = sym (place_look d k xs 0 i i (zero-add i) (sym (h ∙ position_from-zero (holds w k) xs)))

  -- what a put answers and leaves, by the place of its key
  pub record Does (xs : List (Option E)) (e : E) (r : Result (Option E) Refusal) (ys : List (Option E)) : Type 0 where
    pub answers : r ≡ put_answer w xs e
    pub leaves : ys ≡ put w xs e

  does : (xs : List (Option E)) (e : E) (r : Result (Option E) Refusal) (ys : List (Option E)) → put_answer w xs e ≡ r → ys ≡ leaves_by w r xs e → Does xs e r ys
  does xs e r ys is leaves = record { answers = sym is; leaves = leaves ∙ ap (λ a. leaves_by w a xs e) (sym is) }

  -- what stands in the place of a key is an element
  held_some : (k : K) (xs : List (Option E)) (i : ℕ) (o : Option E) → o ≡ get_or xs i o → Some i ≡ position (holds w k) xs → (old : E) × (o ≡ Some old)
  held_some k xs i o is s = go o (ap (holds w k) is ∙ (position-Some (holds w k) xs i o (sym s)).1)
    where
      go : (o : Option E) → holds w k o ≡ true → (old : E) × (o ≡ Some old)
      go None h = true_false (sym h)
      go (Some old) h = (old, refl)

  at_held : (xs : List (Option E)) (e : E) (i : ℕ) (o : Option E) (b : Bool) → o ≡ get_or xs i o → Some i ≡ position (holds w (w.key e)) xs → supersedes w e o ≡ b →
      put_answer w xs e ≡ cond b (Ok o) (Err (VersionNotHigher (w.document e)))
  at_held xs e i o b is s t =
      let some = held_some (w.key e) xs i o is s in
      let there : o ≡ Some some.0 = some.1 in
      let test : ltb (w.version some.0) (w.version e) ≡ b = sym (ap (supersedes w e) there) ∙ t in
      ap (λ y. answer_by w y xs e) (sym (look_place o (w.key e) xs i s) ∙ sym is ∙ there)
      ∙ ap (λ y. cond y (Ok (Some some.0)) (Err (VersionNotHigher (w.document e)))) test
      ∙ ap (λ y. cond b (Ok y) (Err (VersionNotHigher (w.document e)))) (sym there)

  leaves_held : (xs : List (Option E)) (e : E) (o : Option E) → (old : E) × (o ≡ Some old) → leaves_by w (Ok o) xs e ≡ replace w xs e
  leaves_held xs e o some = ap (λ y. leaves_by w (Ok y) xs e) some.1

  at_new : (xs : List (Option E)) (e : E) (b : Bool) → None ≡ position (holds w (w.key e)) xs → room xs ≡ b → put_answer w xs e ≡ cond b (Ok None) (Err RegisterFull)
  at_new xs e b s t = ap (λ y. answer_by w y xs e) (sym (look_none (w.key e) xs s)) ∙ ap (λ y. cond y (Ok None) (Err RegisterFull)) t

  module _ (xs : List (Option E)) (e : E) (k : K) (is_key : k ≡ w.key e) where
    at_key : {o : Option ℕ} → o ≡ position (holds w k) xs → o ≡ position (holds w (w.key e)) xs
    at_key {o} h = subst (λ j. o ≡ position (holds w j) xs) is_key h

    pub put_higher : (i : ℕ) (o : Option E) → o ≡ get_or xs i o → Some i ≡ position (holds w k) xs → true ≡ supersedes w e o → Does xs e (Ok o) (set xs i (Some e))
    put_higher i o is s t =
        does xs e (Ok o) _ (at_held xs e i o true is (at_key s) (sym t))
        (place_set xs e 0 i i (zero-add i) (sym (at_key s ∙ position_from-zero (holds w (w.key e)) xs)) ∙ sym (leaves_held xs e o (held_some (w.key e) xs i o is (at_key s))))

    pub put_not_higher : (i : ℕ) (o : Option E) → o ≡ get_or xs i o → Some i ≡ position (holds w k) xs → false ≡ supersedes w e o → Does xs e (Err (VersionNotHigher (w.document e))) xs
    put_not_higher i o is s t = does xs e (Err (VersionNotHigher (w.document e))) xs (at_held xs e i o false is (at_key s) (sym t)) refl

    pub put_free : (i : ℕ) → None ≡ position (holds w k) xs → Some i ≡ position is_none xs → Does xs e (Ok None) (set xs i (Some e))
    put_free i s f =
        let at = sym (f ∙ position_from-zero is_none xs) in
        does xs e (Ok None) _ (at_new xs e true (at_key s) (free_room xs 0 i at)) (free_set xs e 0 i i (zero-add i) at)

    pub put_full : None ≡ position (holds w k) xs → None ≡ position is_none xs → Does xs e (Err RegisterFull) xs
    put_full s f = does xs e (Err RegisterFull) xs (at_new xs e false (at_key s) (free_full xs 0 (sym (f ∙ position_from-zero is_none xs)))) refl
