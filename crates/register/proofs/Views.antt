-- A register seen through a view of its elements: what it answers and holds is that of the views view. Assumes nothing.
use Rattle.std.proofs.Common.{◌≡◌, ℕ, zero, suc, Bool, true, false, cond, ltb, List, [], ◌∷◌, replicate, ℤ, ◌+ℤ◌, Some, None, Ok, Err, Option, Result, refl, ap, ◌∙◌, ap₂}
use Rattle.std.specs.Option.{option_map}
use Rattle.refusal.specs.declared.Refusal.{Refusal}
use Rattle.refusal.specs.declared.Refusal.TheVariants.{VersionNotHigher, RegisterFull}
use Rattle.register.specs.Shapes.{Shape}
use Rattle.register.specs.Views.{through, views, view_answer}
use Rattle.register.specs.Registers.{look, room, add, replace, answer_by, put_answer, leaves_by, put, sum_held, value_of}

module _ {E S K : Type 0} (view : E → S) (w : Shape S K) where
  pub look_view : (k : K) (xs : List (Option E)) → option_map view (look (through view w) k xs) ≡ look w k (views view xs)
  look_view k [] = refl
  look_view k (None ∷ xs) = look_view k xs
  look_view k (Some x ∷ xs) = go (w.same k (w.key (view x))) (look_view k xs)
    where
      go : (b : Bool) → option_map view (look (through view w) k xs) ≡ look w k (views view xs) → option_map view (cond b (Some x) (look (through view w) k xs)) ≡ cond b (Some (view x)) (look w k (views view xs))
      go true ih = refl
      go false ih = ih

  room_view : (xs : List (Option E)) → room xs ≡ room (views view xs)
  room_view [] = refl
  room_view (None ∷ xs) = refl
  room_view (Some x ∷ xs) = room_view xs

  add_view : (xs : List (Option E)) (e : E) → views view (add xs e) ≡ add (views view xs) (view e)
  add_view [] e = refl
  add_view (None ∷ xs) e = refl
  add_view (Some x ∷ xs) e = ap (λ ys. Some (view x) ∷ ys) (add_view xs e)

  replace_view : (xs : List (Option E)) (e : E) → views view (replace (through view w) xs e) ≡ replace w (views view xs) (view e)
  replace_view [] e = refl
  replace_view (None ∷ xs) e = ap (λ ys. None ∷ ys) (replace_view xs e)
  replace_view (Some x ∷ xs) e = go (w.same (w.key (view e)) (w.key (view x))) (replace_view xs e)
    where
      go : (b : Bool) → views view (replace (through view w) xs e) ≡ replace w (views view xs) (view e) →
          views view (cond b (Some e ∷ xs) (Some x ∷ replace (through view w) xs e)) ≡ cond b (Some (view e) ∷ views view xs) (Some (view x) ∷ replace w (views view xs) (view e))
      go true ih = refl
      go false ih = ap (λ ys. Some (view x) ∷ ys) ih

  answer_view_by : (o : Option E) (xs : List (Option E)) (e : E) → view_answer view (answer_by (through view w) o xs e) ≡ answer_by w (option_map view o) (views view xs) (view e)
  answer_view_by None xs e = go (room xs) ∙ ap (λ b. cond b (Ok None) (Err RegisterFull)) (room_view xs)
    where
      go : (b : Bool) → view_answer view (cond b (Ok None) (Err RegisterFull)) ≡ cond b (Ok None) (Err RegisterFull)
      go true = refl
      go false = refl
  answer_view_by (Some old) xs e = go (ltb (w.version (view old)) (w.version (view e)))
    where
      go : (b : Bool) → view_answer view (cond b (Ok (Some old)) (Err (VersionNotHigher (w.document (view e))))) ≡ cond b (Ok (Some (view old))) (Err (VersionNotHigher (w.document (view e))))
      go true = refl
      go false = refl

  pub answer_view : (xs : List (Option E)) (e : E) → view_answer view (put_answer (through view w) xs e) ≡ put_answer w (views view xs) (view e)
  answer_view xs e = answer_view_by (look (through view w) (w.key (view e)) xs) xs e ∙ ap (λ o. answer_by w o (views view xs) (view e)) (look_view (w.key (view e)) xs)

  leaves_view : (r : Result (Option E) Refusal) (xs : List (Option E)) (e : E) → views view (leaves_by (through view w) r xs e) ≡ leaves_by w (view_answer view r) (views view xs) (view e)
  leaves_view (Ok None) xs e = add_view xs e
  leaves_view (Ok (Some old)) xs e = replace_view xs e
  leaves_view (Err refusal) xs e = refl

  pub put_view : (xs : List (Option E)) (e : E) → views view (put (through view w) xs e) ≡ put w (views view xs) (view e)
  put_view xs e = leaves_view (put_answer (through view w) xs e) xs e ∙ ap (λ r. leaves_by w r (views view xs) (view e)) (answer_view xs e)

  pub fresh_view : (n : ℕ) → views view (replicate n None) ≡ replicate n None
  fresh_view zero = refl
  fresh_view (suc n) = ap (λ ys. None ∷ ys) (fresh_view n)

  value_view : (f : S → ℤ) (x : Option E) → value_of (λ e. f (view e)) x ≡ value_of f (option_map view x)
  value_view f None = refl
  value_view f (Some x) = refl

  pub sum_view : (f : S → ℤ) (xs : List (Option E)) → sum_held (λ e. f (view e)) xs ≡ sum_held f (views view xs)
  sum_view f [] = refl
  sum_view f (x ∷ xs) = ap₂ ◌+ℤ◌ (value_view f x) (sum_view f xs)
