-- A register holds what was last taken under each key, and takes exactly what it should. Assumes nothing.
use Rattle.std.proofs.Common.{◌≡◌, ℕ, zero, suc, ◌<◌, Bool, true, false, cond, ltb, List, [], ◌∷◌, length, replicate, ℤ, pos, ◌+ℤ◌, is_some, Some, None, Ok, Err, Option, Result, sym, refl, ap, ◌∙◌, subst, arith, ltb-true, lt-ltb}
use lib.IntN.{+ℤ_idl, +ℤ_idr}
use Rattle.std.proofs.lemmas.Int.{ints}
use Rattle.refusal.specs.declared.Refusal.{Refusal}
use Rattle.refusal.specs.declared.Refusal.TheVariants.{VersionNotHigher, RegisterFull}
use Rattle.register.specs.Shapes.{Shape, Decides}
use Rattle.register.specs.Registers.{look, count, room, add, replace, answer_by, put_answer, leaves_by, put, distinct, value_of, sum_held, Each}
use Rattle.register.specs.Taken.{latest, keys, AllLower, Admitted}
use Rattle.register.proofs.Basics.{none_some, some_equal, true_false}
use Rattle.register.proofs.Laws.{held_after, room_count, look_fresh, distinct_fresh, count_fresh, ok_err, ok_equal}

module _ {E K : Type 0} (w : Shape E K) where
  -- each element has a higher version than those taken before it under its key
  abbrev pub Rising : List E → Type 0
  Rising [] = Unit {0}
  Rising (x ∷ xs) = AllLower w x xs × Rising xs

  -- the places of a register of n places that took xs
  pub record Holding (n : ℕ) (places : List (Option E)) (xs : List E) : Type 0 where
    pub looks : (k : K) → look w k places ≡ latest w k xs
    pub apart : distinct w places ≡ true
    pub many : count places ≡ keys w xs
    pub long : length places ≡ n
    pub rising : Rising xs

  pub holding_fresh : (n : ℕ) → Holding n (replicate n None) []
  holding_fresh n = record { looks = look_fresh w n; apart = distinct_fresh w n; many = count_fresh E n; long = length_fresh n; rising = tt }
    where
      length_fresh : (m : ℕ) → length (replicate {A = Option E} m None) ≡ m
      length_fresh zero = refl
      length_fresh (suc m) = ap suc (length_fresh m)

  -- a version above the last one's is above all
  lower_than : (e o : E) (xs : List E) → w.key e ≡ w.key o → w.version o < w.version e → AllLower w o xs → AllLower w e xs
  lower_than e o [] k lt h = tt
  lower_than e o (x ∷ xs) k lt h = ((λ s. let l = h.0 (ap (λ j. w.same j (w.key x)) (sym k) ∙ s) in omega arith), lower_than e o xs k lt h.1)

  pub lower_last : (e o : E) (xs : List E) → AllLower w e xs → latest w (w.key e) xs ≡ Some o → w.version o < w.version e
  lower_last e o [] h is = none_some o is
  lower_last e o (x ∷ xs) h is = go (w.same (w.key e) (w.key x)) refl is (lower_last e o xs h.1)
    where
      go : (b : Bool) → w.same (w.key e) (w.key x) ≡ b → cond b (Some x) (latest w (w.key e) xs) ≡ Some o → (latest w (w.key e) xs ≡ Some o → w.version o < w.version e) → w.version o < w.version e
      go true s f ih = subst (λ y. w.version y < w.version e) (some_equal x o f) (h.0 s)
      go false s f ih = ih f

  pub lower_none : (e : E) (xs : List E) → latest w (w.key e) xs ≡ None → AllLower w e xs
  lower_none e [] is = tt
  lower_none e (x ∷ xs) is = go (w.same (w.key e) (w.key x)) refl is (lower_none e xs)
    where
      go : (b : Bool) → w.same (w.key e) (w.key x) ≡ b → cond b (Some x) (latest w (w.key e) xs) ≡ None → (latest w (w.key e) xs ≡ None → AllLower w e xs) → AllLower w e (x ∷ xs)
      go true s f ih = none_some x (sym f)
      go false s f ih = ((λ t. true_false (sym t ∙ s)), ih f)

  module _ (d : Decides w.same) where
    lower_all : (e o : E) (xs : List E) → Rising xs → latest w (w.key e) xs ≡ Some o → w.version o < w.version e → AllLower w e xs
    lower_all e o [] r is lt = tt
    lower_all e o (x ∷ xs) r is lt = go (w.same (w.key e) (w.key x)) refl is (lower_all e o xs r.1)
      where
        go : (b : Bool) → w.same (w.key e) (w.key x) ≡ b → cond b (Some x) (latest w (w.key e) xs) ≡ Some o → (latest w (w.key e) xs ≡ Some o → w.version o < w.version e → AllLower w e xs) → AllLower w e (x ∷ xs)
        go true s f ih =
            let below : w.version x < w.version e = subst (λ y. w.version y < w.version e) (sym (some_equal x o f)) lt in
            ((λ t. below), lower_than e x xs (d.equal (w.key e) (w.key x) s) below r.0)
        go false s f ih = ((λ t. true_false (sym t ∙ s)), ih f lt)

    module _ (n : ℕ) (places : List (Option E)) (xs : List E) (h : Holding n places xs) (e : E) where
      -- what is taken was to be taken
      pub admitted : (old : Option E) → put_answer w places e ≡ Ok old → Admitted w n e xs
      admitted old is = go (look w (w.key e) places) refl is
        where
          go : (o : Option E) → look w (w.key e) places ≡ o → answer_by w o places e ≡ Ok old → Admitted w n e xs
          go None f g =
              record { newest = lower_none e xs (sym (h.looks (w.key e)) ∙ f); room = λ _. at_room (room places) refl g }
            where
              at_room : (b : Bool) → room places ≡ b → ◌≡◌ {A = Result (Option E) Refusal} (cond b (Ok None) (Err RegisterFull)) (Ok old) → keys w xs < n
              at_room true p q = let lt = ltb-true (count places) (length places) (sym (room_count places) ∙ p) in let m = h.many in let l = h.long in omega arith
              at_room false p q = ok_err old RegisterFull (sym q)
          go (Some o) f g = at_version (ltb (w.version o) (w.version e)) refl g
            where
              last : latest w (w.key e) xs ≡ Some o
              last = sym (h.looks (w.key e)) ∙ f

              at_version : (b : Bool) → ltb (w.version o) (w.version e) ≡ b → ◌≡◌ {A = Result (Option E) Refusal} (cond b (Ok (Some o)) (Err (VersionNotHigher (w.document e)))) (Ok old) → Admitted w n e xs
              at_version true p q = record { newest = lower_all e o xs h.rising last (ltb-true (w.version o) (w.version e) p); room = λ none. none_some o (sym none ∙ last) }
              at_version false p q = ok_err old (VersionNotHigher (w.document e)) (sym q)

      -- what is to be taken is taken
      pub taken : Admitted w n e xs → (old : Option E) × (put_answer w places e ≡ Ok old)
      taken a = go (look w (w.key e) places) refl
        where
          go : (o : Option E) → look w (w.key e) places ≡ o → (old : Option E) × (answer_by w o places e ≡ Ok old)
          go None f =
              let lt : count places < length places = (let r = a.room (sym (h.looks (w.key e)) ∙ f) in let m = h.many in let l = h.long in omega arith) in
              (None, ap (λ b. cond b (Ok None) (Err RegisterFull)) (room_count places ∙ lt-ltb (count places) (length places) lt))
          go (Some o) f =
              (Some o, ap (λ b. cond b (Ok (Some o)) (Err (VersionNotHigher (w.document e)))) (lt-ltb (w.version o) (w.version e) (lower_last e o xs a.newest (sym (h.looks (w.key e)) ∙ f))))

      -- after it was taken
      pub holding_put : (old : Option E) → put_answer w places e ≡ Ok old → Holding n (put w places e) (e ∷ xs)
      holding_put old is =
          let laws = held_after w d places e in
          record {
            looks = λ k. looks k (w.same k (w.key e)) refl;
            apart = laws.keys h.apart;
            many = many old is;
            long = laws.places ∙ h.long;
            rising = ((admitted old is).newest, h.rising);
          }
        where
          looks : (k : K) (b : Bool) → w.same k (w.key e) ≡ b → look w k (put w places e) ≡ cond b (Some e) (latest w k xs)
          looks k true s = (held_after w d places e).same_key old is k s
          looks k false s = (held_after w d places e).other_key old is k s ∙ h.looks k

          many : (o : Option E) → put_answer w places e ≡ Ok o → count (put w places e) ≡ cond (is_some (latest w (w.key e) xs)) (keys w xs) (suc (keys w xs))
          many None f =
              (held_after w d places e).added f ∙ ap suc h.many
              ∙ sym (ap (λ o. cond (is_some o) (keys w xs) (suc (keys w xs))) (sym (h.looks (w.key e)) ∙ (held_after w d places e).replaced None f))
          many (Some o) f =
              (held_after w d places e).kept o f ∙ h.many
              ∙ sym (ap (λ o. cond (is_some o) (keys w xs) (suc (keys w xs))) (sym (h.looks (w.key e)) ∙ (held_after w d places e).replaced (Some o) f))

  -- ---- the sum after a put: the new element in, the replaced one out
  sum_add : (f : E → ℤ) (xs : List (Option E)) (e : E) → room xs ≡ true → sum_held f (add xs e) ≡ f e +ℤ sum_held f xs
  sum_add f [] e r = true_false (sym r)
  sum_add f (None ∷ xs) e r = ap (λ z. f e +ℤ z) (sym (+ℤ_idl (sum_held f xs)))
  sum_add f (Some x ∷ xs) e r = let ih = sum_add f xs e r in omega (arith, ints)

  sum_replace : (f : E → ℤ) (xs : List (Option E)) (e old : E) → look w (w.key e) xs ≡ Some old → sum_held f (replace w xs e) +ℤ f old ≡ f e +ℤ sum_held f xs
  sum_replace f [] e old is = none_some old is
  sum_replace f (None ∷ xs) e old is = let ih = sum_replace f xs e old is in omega (arith, ints)
  sum_replace f (Some x ∷ xs) e old is = go (w.same (w.key e) (w.key x)) is (sum_replace f xs e old)
    where
      go : (b : Bool) → cond b (Some x) (look w (w.key e) xs) ≡ Some old → (look w (w.key e) xs ≡ Some old → sum_held f (replace w xs e) +ℤ f old ≡ f e +ℤ sum_held f xs) →
          sum_held f (cond b (Some e ∷ xs) (Some x ∷ replace w xs e)) +ℤ f old ≡ f e +ℤ (f x +ℤ sum_held f xs)
      go true g ih = let same : f x ≡ f old = ap f (some_equal x old g) in omega (arith, ints)
      go false g ih = let more = ih g in omega (arith, ints)

  sum_by : (f : E → ℤ) (xs : List (Option E)) (e : E) (o : Option E) → look w (w.key e) xs ≡ o → (old : Option E) → answer_by w o xs e ≡ Ok old → sum_held f (leaves_by w (Ok old) xs e) +ℤ value_of f old ≡ f e +ℤ sum_held f xs
  sum_by f xs e None is None g = +ℤ_idr (sum_held f (add xs e)) ∙ sum_add f xs e (at_room (room xs) g)
    where
      at_room : (b : Bool) → ◌≡◌ {A = Result (Option E) Refusal} (cond b (Ok None) (Err RegisterFull)) (Ok None) → b ≡ true
      at_room true q = refl
      at_room false q = ok_err None RegisterFull (sym q)
  sum_by f xs e None is (Some old) g = absurd (at_room (room xs) g)
    where
      at_room : (b : Bool) → ◌≡◌ {A = Result (Option E) Refusal} (cond b (Ok None) (Err RegisterFull)) (Ok (Some old)) → ⊥
      at_room true q = none_some old (ok_equal None (Some old) q)
      at_room false q = ok_err (Some old) RegisterFull (sym q)
  sum_by f xs e (Some o) is old g = at_version (ltb (w.version o) (w.version e)) g
    where
      at_version : (b : Bool) → ◌≡◌ {A = Result (Option E) Refusal} (cond b (Ok (Some o)) (Err (VersionNotHigher (w.document e)))) (Ok old) → sum_held f (leaves_by w (Ok old) xs e) +ℤ value_of f old ≡ f e +ℤ sum_held f xs
      at_version true q = subst (λ y. sum_held f (leaves_by w (Ok y) xs e) +ℤ value_of f y ≡ f e +ℤ sum_held f xs) (ok_equal (Some o) old q) (sum_replace f xs e o is)
      at_version false q = ok_err old (VersionNotHigher (w.document e)) (sym q)

  pub sum_put : (f : E → ℤ) (xs : List (Option E)) (e : E) (old : Option E) → put_answer w xs e ≡ Ok old → sum_held f (put w xs e) +ℤ value_of f old ≡ f e +ℤ sum_held f xs
  sum_put f xs e old is =
      ap (λ r. sum_held f (leaves_by w r xs e) +ℤ value_of f old) is ∙ sum_by f xs e (look w (w.key e) xs) refl old is

  -- ---- what a look-up finds, and what a put replaces
  pub look_key : (k : K) (xs : List (Option E)) (o : E) → look w k xs ≡ Some o → w.same k (w.key o) ≡ true
  look_key k [] o h = none_some o h
  look_key k (None ∷ xs) o h = look_key k xs o h
  look_key k (Some x ∷ xs) o h = go (w.same k (w.key x)) refl h (look_key k xs o)
    where
      go : (b : Bool) → w.same k (w.key x) ≡ b → cond b (Some x) (look w k xs) ≡ Some o → (look w k xs ≡ Some o → w.same k (w.key o) ≡ true) → w.same k (w.key o) ≡ true
      go true s f ih = ap (λ y. w.same k (w.key y)) (sym (some_equal x o f)) ∙ s
      go false s f ih = ih f

  -- what is replaced has the same key and a lower version
  pub put_over : Decides w.same → (xs : List (Option E)) (e old : E) → put_answer w xs e ≡ Ok (Some old) → (w.key e ≡ w.key old) × (w.version old < w.version e)
  put_over d xs e old is = go (look w (w.key e) xs) refl is
    where
      go : (o : Option E) → look w (w.key e) xs ≡ o → answer_by w o xs e ≡ Ok (Some old) → (w.key e ≡ w.key old) × (w.version old < w.version e)
      go None f g = at_room (room xs) g
        where
          at_room : {X : Type 0} (b : Bool) → ◌≡◌ {A = Result (Option E) Refusal} (cond b (Ok None) (Err RegisterFull)) (Ok (Some old)) → X
          at_room true q = none_some old (ok_equal None (Some old) q)
          at_room false q = ok_err (Some old) RegisterFull (sym q)
      go (Some o) f g = at_version (ltb (w.version o) (w.version e)) refl g
        where
          at_version : (b : Bool) → ltb (w.version o) (w.version e) ≡ b → ◌≡◌ {A = Result (Option E) Refusal} (cond b (Ok (Some o)) (Err (VersionNotHigher (w.document e)))) (Ok (Some old)) → (w.key e ≡ w.key old) × (w.version old < w.version e)
          at_version true p q =
              let same : o ≡ old = some_equal o old (ok_equal (Some o) (Some old) q) in
              (d.equal (w.key e) (w.key old) (look_key (w.key e) xs old (f ∙ ap Some same)), subst (λ y. w.version y < w.version e) same (ltb-true (w.version o) (w.version e) p))
          at_version false p q = ok_err (Some old) (VersionNotHigher (w.document e)) (sym q)

  -- ---- what each element held is
  each_add : (P : E → Type 0) (xs : List (Option E)) (e : E) → Each P xs → P e → Each P (add xs e)
  each_add P [] e all p = tt
  each_add P (None ∷ xs) e all p = (p, all)
  each_add P (Some x ∷ xs) e all p = (all.0, each_add P xs e all.1 p)

  each_replace : (P : E → Type 0) (xs : List (Option E)) (e : E) → Each P xs → P e → Each P (replace w xs e)
  each_replace P [] e all p = tt
  each_replace P (None ∷ xs) e all p = each_replace P xs e all p
  each_replace P (Some x ∷ xs) e all p = go (w.same (w.key e) (w.key x)) (each_replace P xs e all.1 p)
    where
      go : (b : Bool) → Each P (replace w xs e) → Each P (cond b (Some e ∷ xs) (Some x ∷ replace w xs e))
      go true ih = (p, all.1)
      go false ih = (all.0, ih)

  pub each_put : (P : E → Type 0) (xs : List (Option E)) (e : E) → Each P xs → P e → Each P (put w xs e)
  each_put P xs e all p = go (put_answer w xs e)
    where
      go : (r : Result (Option E) Refusal) → Each P (leaves_by w r xs e)
      go (Ok None) = each_add P xs e all p
      go (Ok (Some old)) = each_replace P xs e all p
      go (Err refusal) = all

pub each_fresh : {E : Type 0} (P : E → Type 0) (n : ℕ) → Each P (replicate n None)
each_fresh P zero = tt
each_fresh P (suc n) = each_fresh P n

pub sum_fresh : {E : Type 0} (f : E → ℤ) (n : ℕ) → sum_held f (replicate n None) ≡ pos 0
sum_fresh f zero = refl
sum_fresh f (suc n) = +ℤ_idl (sum_held f (replicate n None)) ∙ sum_fresh f n
