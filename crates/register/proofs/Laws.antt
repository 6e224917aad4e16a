-- What is held after a put: look-ups, distinct keys, and how many. Assumes nothing.
use Rattle.std.proofs.Common.{◌≡◌, ℕ, zero, suc, ◌≤◌, Bool, true, false, cond, ltb, List, [], ◌∷◌, length, replicate, is_some, Some, None, Ok, Err, Option, Result, sym, refl, ap, ◌∙◌, arith, le-ltb, lt-ltb}
use Rattle.std.proofs.lemmas.Bool.Decides.{nat_tests}
use Rattle.refusal.specs.declared.Refusal.{Refusal}
use Rattle.refusal.specs.declared.Refusal.TheVariants.{VersionNotHigher, RegisterFull}
use Rattle.register.specs.Shapes.{Shape, Decides}
use Rattle.register.specs.Registers.{look, count, room, add, replace, answer_by, put_answer, leaves_by, put, distinct, HeldAfter}
use Rattle.register.proofs.Basics.{none_some, true_false, different, not_same}

pub ok_err : {A B X : Type 0} (a : A) (b : B) → ◌≡◌ {A = Result A B} (Ok a) (Err b) → X
ok_err a b e = let z : ◌≡◌ {A = ℕ} 0 1 = cc in absurd (omega arith)

pub ok_equal : {A B : Type 0} (a b : A) → ◌≡◌ {A = Result A B} (Ok a) (Ok b) → a ≡ b
ok_equal a b e = cc

-- ---- how many
module _ {E : Type 0} where
  count_most : (xs : List (Option E)) → count xs ≤ length xs
  count_most [] = omega arith
  count_most (None ∷ xs) = let h = count_most xs in omega arith
  count_most (Some x ∷ xs) = let h = count_most xs in omega arith

  -- a place is free exactly where fewer elements than places are held
  pub room_count : (xs : List (Option E)) → room xs ≡ ltb (count xs) (length xs)
  room_count [] = sym (le-ltb 0 0 (omega arith))
  room_count (None ∷ xs) = let h = count_most xs in sym (lt-ltb (count xs) (length (None ∷ xs)) (omega arith))
  room_count (Some x ∷ xs) = room_count xs ∙ next (count xs) (length xs)
    where
      next : (m n : ℕ) → ltb m n ≡ ltb (suc m) (suc n)
      next m n = grind (arith, nat_tests)

  count_add : (xs : List (Option E)) (e : E) → room xs ≡ true → count (add xs e) ≡ suc (count xs)
  count_add [] e h = true_false (sym h)
  count_add (None ∷ xs) e h = refl
  count_add (Some x ∷ xs) e h = ap suc (count_add xs e h)

  length_add : (xs : List (Option E)) (e : E) → length (add xs e) ≡ length xs
  length_add [] e = refl
  length_add (None ∷ xs) e = refl
  length_add (Some x ∷ xs) e = ap suc (length_add xs e)

pub count_fresh : (E : Type 0) (n : ℕ) → count {E = E} (replicate n None) ≡ 0
count_fresh E zero = refl
count_fresh E (suc n) = count_fresh E n

module _ {E K : Type 0} (w : Shape E K) where
  count_replace : (xs : List (Option E)) (e : E) → count (replace w xs e) ≡ count xs
  count_replace [] e = refl
  count_replace (None ∷ xs) e = count_replace xs e
  count_replace (Some x ∷ xs) e = go (w.same (w.key e) (w.key x)) (count_replace xs e)
    where
      go : (b : Bool) → count (replace w xs e) ≡ count xs → count (cond b (Some e ∷ xs) (Some x ∷ replace w xs e)) ≡ suc (count xs)
      go true ih = refl
      go false ih = ap suc ih

  length_replace : (xs : List (Option E)) (e : E) → length (replace w xs e) ≡ length xs
  length_replace [] e = refl
  length_replace (None ∷ xs) e = ap suc (length_replace xs e)
  length_replace (Some x ∷ xs) e = go (w.same (w.key e) (w.key x)) (length_replace xs e)
    where
      go : (b : Bool) → length (replace w xs e) ≡ length xs → length (cond b (Some e ∷ xs) (Some x ∷ replace w xs e)) ≡ suc (length xs)
      go true ih = refl
      go false ih = ap suc ih

  pub look_fresh : (n : ℕ) (k : K) → look w k (replicate n None) ≡ None
  look_fresh zero k = refl
  look_fresh (suc n) k = look_fresh n k

  pub distinct_fresh : (n : ℕ) → distinct w (replicate n None) ≡ true
  distinct_fresh zero = refl
  distinct_fresh (suc n) = distinct_fresh n

  -- the first of distinct keys is not among the others
  pub first_apart : (x : E) (xs : List (Option E)) → distinct w (Some x ∷ xs) ≡ true → (look w (w.key x) xs ≡ None) × (distinct w xs ≡ true)
  first_apart x xs h = go (look w (w.key x) xs) h
    where
      go : (o : Option E) → cond (is_some o) false (distinct w xs) ≡ true → (o ≡ None) × (distinct w xs ≡ true)
      go None e = (refl, e)
      go (Some y) e = true_false (sym e)

  pub with_first : (x : E) (xs : List (Option E)) → look w (w.key x) xs ≡ None → distinct w xs ≡ true → distinct w (Some x ∷ xs) ≡ true
  with_first x xs none h = ap (λ o. cond (is_some o) false (distinct w xs)) none ∙ h

module _ {E K : Type 0} (w : Shape E K) (d : Decides w.same) where
  -- what a look-up is after e went in
  abbrev pub look_with : K → E → List (Option E) → Option E
  look_with j e xs = cond (w.same j (w.key e)) (Some e) (look w j xs)

  look_add : (j : K) (xs : List (Option E)) (e : E) → look w (w.key e) xs ≡ None → room xs ≡ true → look w j (add xs e) ≡ look_with j e xs
  look_add j [] e h r = true_false (sym r)
  look_add j (None ∷ xs) e h r = refl
  look_add j (Some x ∷ xs) e h r = go (look_add j xs e) (w.same (w.key e) (w.key x)) refl h (w.same j (w.key x)) refl (w.same j (w.key e)) refl
    where
      go : (look w (w.key e) xs ≡ None → room xs ≡ true → look w j (add xs e) ≡ look_with j e xs) → (a : Bool) → w.same (w.key e) (w.key x) ≡ a → cond a (Some x) (look w (w.key e) xs) ≡ None →
          (b : Bool) → w.same j (w.key x) ≡ b → (c : Bool) → w.same j (w.key e) ≡ c → cond b (Some x) (look w j (add xs e)) ≡ cond c (Some e) (cond b (Some x) (look w j xs))
      go ih true p f b q c s = none_some x (sym f)
      go ih false p f true q true s = absurd (different d (w.key e) (w.key x) p (sym (d.equal j (w.key e) s) ∙ d.equal j (w.key x) q))
      go ih false p f true q false s = refl
      go ih false p f false q c s = ih f r ∙ ap (λ y. cond y (Some e) (look w j xs)) s

  look_replace : (j : K) (xs : List (Option E)) (e o : E) → look w (w.key e) xs ≡ Some o → look w j (replace w xs e) ≡ look_with j e xs
  look_replace j [] e o h = none_some o h
  look_replace j (None ∷ xs) e o h = look_replace j xs e o h
  look_replace j (Some x ∷ xs) e o h = go (look_replace j xs e o) (w.same (w.key e) (w.key x)) refl h (w.same j (w.key x)) refl (w.same j (w.key e)) refl
    where
      go : (look w (w.key e) xs ≡ Some o → look w j (replace w xs e) ≡ look_with j e xs) → (a : Bool) → w.same (w.key e) (w.key x) ≡ a → cond a (Some x) (look w (w.key e) xs) ≡ Some o →
          (b : Bool) → w.same j (w.key x) ≡ b → (c : Bool) → w.same j (w.key e) ≡ c → look w j (cond a (Some e ∷ xs) (Some x ∷ replace w xs e)) ≡ cond c (Some e) (cond b (Some x) (look w j xs))
      go ih true p f b q c s =
          let same : b ≡ c = sym q ∙ ap (w.same j) (sym (d.equal (w.key e) (w.key x) p)) ∙ s in
          ap (λ y. cond y (Some e) (look w j xs)) s ∙ under b c same
        where
          under : (b c : Bool) → b ≡ c → cond c (Some e) (look w j xs) ≡ cond c (Some e) (cond b (Some x) (look w j xs))
          under true true h = refl
          under false false h = refl
          under true false h = true_false h
          under false true h = true_false (sym h)
      go ih false p f true q true s = absurd (different d (w.key e) (w.key x) p (sym (d.equal j (w.key e) s) ∙ d.equal j (w.key x) q))
      go ih false p f true q false s = ap (λ y. cond y (Some x) (look w j (replace w xs e))) q
      go ih false p f false q c s = ap (λ y. cond y (Some x) (look w j (replace w xs e))) q ∙ ih f ∙ ap (λ y. cond y (Some e) (look w j xs)) s

  other_first : (e x : E) (xs ys : List (Option E)) → w.same (w.key e) (w.key x) ≡ false → look w (w.key x) ys ≡ look_with (w.key x) e xs → look w (w.key x) xs ≡ None → look w (w.key x) ys ≡ None
  other_first e x xs ys p h none =
      h ∙ ap (λ y. cond y (Some e) (look w (w.key x) xs)) (not_same d (w.key x) (w.key e) (λ z. different d (w.key e) (w.key x) p (sym z))) ∙ none

  distinct_add : (xs : List (Option E)) (e : E) → look w (w.key e) xs ≡ None → room xs ≡ true → distinct w xs ≡ true → distinct w (add xs e) ≡ true
  distinct_add [] e h r a = a
  distinct_add (None ∷ xs) e h r a = with_first w e xs h a
  distinct_add (Some x ∷ xs) e h r a = go (distinct_add xs e) (w.same (w.key e) (w.key x)) refl h
    where
      go : (look w (w.key e) xs ≡ None → room xs ≡ true → distinct w xs ≡ true → distinct w (add xs e) ≡ true) → (b : Bool) → w.same (w.key e) (w.key x) ≡ b → cond b (Some x) (look w (w.key e) xs) ≡ None → distinct w (Some x ∷ add xs e) ≡ true
      go ih true p f = none_some x (sym f)
      go ih false p f =
          let rest = first_apart w x xs a in
          with_first w x (add xs e) (other_first e x xs (add xs e) p (look_add (w.key x) xs e f r) rest.0) (ih f r rest.1)

  distinct_replace : (xs : List (Option E)) (e o : E) → look w (w.key e) xs ≡ Some o → distinct w xs ≡ true → distinct w (replace w xs e) ≡ true
  distinct_replace [] e o h a = a
  distinct_replace (None ∷ xs) e o h a = distinct_replace xs e o h a
  distinct_replace (Some x ∷ xs) e o h a = go (distinct_replace xs e o) (w.same (w.key e) (w.key x)) refl h
    where
      go : (look w (w.key e) xs ≡ Some o → distinct w xs ≡ true → distinct w (replace w xs e) ≡ true) → (b : Bool) → w.same (w.key e) (w.key x) ≡ b → cond b (Some x) (look w (w.key e) xs) ≡ Some o → distinct w (cond b (Some e ∷ xs) (Some x ∷ replace w xs e)) ≡ true
      go ih true p f =
          let rest = first_apart w x xs a in
          with_first w e xs (ap (λ k. look w k xs) (d.equal (w.key e) (w.key x) p) ∙ rest.0) rest.1
      go ih false p f =
          let rest = first_apart w x xs a in
          with_first w x (replace w xs e) (other_first e x xs (replace w xs e) p (look_replace (w.key x) xs e o f) rest.0) (ih f rest.1)

  -- ---- a put, by its answer
  by_answer : (xs : List (Option E)) (e : E) (r : Result (Option E) Refusal) → put_answer w xs e ≡ r → HeldAfter w e r xs (leaves_by w r xs e)
  by_answer xs e (Err refusal) is = record {
    refused = λ refusal' h. refl;
    same_key = λ old h. ok_err old refusal (sym h);
    other_key = λ old h. ok_err old refusal (sym h);
    replaced = λ old h. ok_err old refusal (sym h);
    keys = λ h. h;
    places = refl;
    added = λ h. ok_err None refusal (sym h);
    kept = λ old h. ok_err (Some old) refusal (sym h);
  }
  by_answer xs e (Ok None) is =
      let new = at_none (look w (w.key e) xs) refl is in
      let then : (j : K) → look w j (add xs e) ≡ look_with j e xs = λ j. look_add j xs e new.0 new.1 in
      record {
        refused = λ refusal h. ok_err None refusal h;
        same_key = λ old h k s. then k ∙ ap (λ y. cond y (Some e) (look w k xs)) s;
        other_key = λ old h k s. then k ∙ ap (λ y. cond y (Some e) (look w k xs)) s;
        replaced = λ old h. new.0 ∙ ok_equal None old h;
        keys = distinct_add xs e new.0 new.1;
        places = length_add xs e;
        added = λ h. count_add xs e new.1;
        kept = λ old h. none_some old (ok_equal None (Some old) h);
      }
    where
      at_none : (o : Option E) → look w (w.key e) xs ≡ o → answer_by w o xs e ≡ Ok None → (look w (w.key e) xs ≡ None) × (room xs ≡ true)
      at_none None h f = (h, at_room (room xs) f)
        where
          at_room : (b : Bool) → ◌≡◌ {A = Result (Option E) Refusal} (cond b (Ok None) (Err RegisterFull)) (Ok None) → b ≡ true
          at_room true g = refl
          at_room false g = ok_err None RegisterFull (sym g)
      at_none (Some o) h f = at_version (ltb (w.version o) (w.version e)) f
        where
          at_version : {X : Type 0} (b : Bool) → ◌≡◌ {A = Result (Option E) Refusal} (cond b (Ok (Some o)) (Err (VersionNotHigher (w.document e)))) (Ok None) → X
          at_version true g = none_some o (sym (ok_equal (Some o) None g))
          at_version false g = ok_err None (VersionNotHigher (w.document e)) (sym g)
  by_answer xs e (Ok (Some old)) is =
      let held = at_some (look w (w.key e) xs) refl is in
      let then : (j : K) → look w j (replace w xs e) ≡ look_with j e xs = λ j. look_replace j xs e old held in
      record {
        refused = λ refusal h. ok_err (Some old) refusal h;
        same_key = λ old' h k s. then k ∙ ap (λ y. cond y (Some e) (look w k xs)) s;
        other_key = λ old' h k s. then k ∙ ap (λ y. cond y (Some e) (look w k xs)) s;
        replaced = λ old' h. held ∙ ok_equal (Some old) old' h;
        keys = distinct_replace xs e old held;
        places = length_replace w xs e;
        added = λ h. none_some old (sym (ok_equal (Some old) None h));
        kept = λ old' h. count_replace w xs e;
      }
    where
      at_some : (o : Option E) → look w (w.key e) xs ≡ o → answer_by w o xs e ≡ Ok (Some old) → look w (w.key e) xs ≡ Some old
      at_some None h f = at_room (room xs) f
        where
          at_room : {X : Type 0} (b : Bool) → ◌≡◌ {A = Result (Option E) Refusal} (cond b (Ok None) (Err RegisterFull)) (Ok (Some old)) → X
          at_room true g = none_some old (ok_equal None (Some old) g)
          at_room false g = ok_err (Some old) RegisterFull (sym g)
      at_some (Some o) h f = h ∙ at_version (ltb (w.version o) (w.version e)) f
        where
          at_version : (b : Bool) → ◌≡◌ {A = Result (Option E) Refusal} (cond b (Ok (Some o)) (Err (VersionNotHigher (w.document e)))) (Ok (Some old)) → Some o ≡ Some old
          at_version true g = ok_equal (Some o) (Some old) g
          at_version false g = ok_err (Some old) (VersionNotHigher (w.document e)) (sym g)

  pub held_after : (xs : List (Option E)) (e : E) → HeldAfter w e (put_answer w xs e) xs (put w xs e)
  held_after xs e = by_answer xs e (put_answer w xs e) refl
