-- The first piece of a text, and the text that it leaves. Assumes nothing.
use Rattle.std.proofs.Common.{◌≡◌, ℕ, zero, suc, ◌<◌, Bool, true, false, cond, eqb, List, [], ◌∷◌, length, drop, Some, None, Option, sym, refl, ap, ◌∙◌, subst, ⊎_elim, one-add, arith}
use Rattle.std.specs.Option.{option_map}
use Rattle.std.specs.List.{position_or_len, before_first}
use Rattle.std.proofs.lemmas.List.{length-drop}
use Rattle.std.proofs.lemmas.Bool.{cases_Bool, cond-false, eqb-false, or_parts}
use Rattle.names.specs.declared.Entity.{Entity}
use Rattle.names.specs.Names.{entity, size, byte_of, prefixed, decoded, decoded_after, delimiter, first_piece}

past : (n : ℕ) (xs : List ℕ) → decoded_after n xs ≡ decoded (drop n xs)
past zero [] = refl
past (suc n) [] = refl
past zero (x ∷ xs) = refl
past (suc n) (x ∷ xs) = past n xs

prefixed_none : (o : Option (List ℕ)) → o ≡ prefixed [] o
prefixed_none None = refl
prefixed_none (Some ys) = refl

prefixed_one : (x : ℕ) (xs : List ℕ) (o : Option (List ℕ)) → prefixed (x ∷ []) (prefixed xs o) ≡ prefixed (x ∷ xs) o
prefixed_one x xs None = refl
prefixed_one x xs (Some zs) = refl

-- what the first piece stands for, and then the text of the bytes after it
abbrev joined : Option (List ℕ × List ℕ) → Option (List ℕ)
joined None = None
joined (Some p) = prefixed p.0 (decoded p.1)

abbrev stretch : List ℕ → List ℕ × List ℕ
stretch xs = (before_first delimiter xs, drop (position_or_len delimiter xs) xs)

-- a plain stretch stands for itself
plain_text : (xs : List ℕ) → decoded xs ≡ joined (Some (stretch xs))
plain_text [] = refl
plain_text (x ∷ xs) = ⊎_elim (λ d. rw d (prefixed_none (decoded (x ∷ xs)))) (λ d. rw d (rw one-add (more (or_parts (eqb x 38) (eqb x 60) d) (plain_text xs)))) (cases_Bool (delimiter x))
  where
    more : (eqb x 38 ≡ false) × (eqb x 60 ≡ false) → decoded xs ≡ joined (Some (stretch xs)) → decoded (x ∷ xs) ≡ prefixed (x ∷ before_first delimiter xs) (decoded (stretch xs).1)
    more p e = cond-false (eqb x 60) _ _ p.1 ∙ cond-false (eqb x 38) _ _ p.0 ∙ ap (prefixed (x ∷ [])) e ∙ prefixed_one x _ _

pub text_joined : (xs : List ℕ) → decoded xs ≡ joined (first_piece xs)
text_joined [] = refl
text_joined (x ∷ xs) = at (eqb x 60) (eqb x 38) (entity xs) refl refl
  where
    at : (less amp : Bool) (o : Option Entity) → eqb x 60 ≡ less → eqb x 38 ≡ amp →
        cond less None (cond amp (elim o [ None ↦ None | Some e ↦ prefixed (byte_of e ∷ []) (decoded_after (size e) xs) ]) (prefixed (x ∷ []) (decoded xs)))
        ≡ joined (cond less None (cond amp (option_map (λ e. (byte_of e ∷ [], drop (size e) xs)) o) (Some (stretch (x ∷ xs)))))
    at true amp o e f = refl
    at false true None e f = refl
    at false true (Some n) e f = ap (prefixed (byte_of n ∷ [])) (past (size n) xs)
    at false false o e f = sym (cond-false (eqb x 60) _ _ e ∙ cond-false (eqb x 38) _ _ f) ∙ plain_text (x ∷ xs)

abbrev bytes_left : Option (List ℕ × List ℕ) → ℕ
bytes_left None = 0
bytes_left (Some p) = length p.1

fewer : (xs : List ℕ) → 0 < length xs → bytes_left (first_piece xs) < length xs
fewer [] some = absurd (omega arith)
fewer (x ∷ xs) some = at (eqb x 60) (eqb x 38) (entity xs) refl refl
  where
    at : (less amp : Bool) (o : Option Entity) → eqb x 60 ≡ less → eqb x 38 ≡ amp →
        bytes_left (cond less None (cond amp (option_map (λ e. (byte_of e ∷ [], drop (size e) xs)) o) (Some (stretch (x ∷ xs))))) < length (x ∷ xs)
    at true amp o e f = omega arith
    at false true None e f = omega arith
    at false true (Some n) e f = omega (arith, length-drop (size n) xs)
    at false false o e f = rw (f, e, one-add) (omega (arith, length-drop (position_or_len delimiter xs) xs))

pub piece_text : (xs m rest : List ℕ) → Some (m, rest) ≡ first_piece xs → decoded xs ≡ prefixed m (decoded rest)
piece_text xs m rest e = text_joined xs ∙ ap joined (sym e)

pub piece_less : (xs m rest : List ℕ) → Some (m, rest) ≡ first_piece xs → false ≡ eqb (length xs) 0 → length rest < length xs
piece_less xs m rest e some = subst (λ o. bytes_left o < length xs) (sym e) (fewer xs (omega (arith, eqb-false (length xs) 0 (sym some))))

pub no_piece : (xs : List ℕ) → None ≡ first_piece xs → decoded xs ≡ None
no_piece xs e = text_joined xs ∙ ap joined (sym e)
