-- A text beside a name, piece by piece. Assumes nothing.
use Rattle.std.proofs.Common.{◌≡◌, ℕ, ◌&&◌, List, [], ◌∷◌, ◌++◌, length, Some, None, Ok, Err, Option, Result, Bool, false, MatchOption, Bor, sym, refl, ap, ◌∙◌, ⊎_elim, arith}
use Rattle.std.specs.Str.{bytes_eq}
use Rattle.std.proofs.lemmas.Slice.Eq.{bytes_eq-Decides}
use Rattle.std.proofs.lemmas.Bool.{eq-eqb, ne_eqb, cases_Bool}
use Rattle.names.specs.declared.Malformed.{Malformed}
use Rattle.names.specs.declared.Malformed.TheVariants.{BareDelimiter}
use Rattle.names.specs.Names.{compared, prefixed, blank}

-- the answer where the pieces so far left this of the name, or differed from it
abbrev pub agreed : Option (Bor (List ℕ)) → Option (List ℕ) → Result Bool Malformed
agreed left None = Err BareDelimiter
agreed None (Some read) = Ok false
agreed (Some left) (Some read) = Ok (bytes_eq read left.now)

same_after : (m read next : List ℕ) → bytes_eq (m ++ read) (m ++ next) ≡ bytes_eq read next
same_after [] read next = refl
same_after (x ∷ m) read next = ap (λ t. t && bytes_eq (m ++ read) (m ++ next)) (eq-eqb x x refl) ∙ same_after m read next

-- a piece that stands for m, taken off what is left of the name
taken_off : (left : Bor (List ℕ)) (next : Option (Bor (List ℕ))) (m : List ℕ) (o : Option (List ℕ)) →
    MatchOption next ((rest : List ℕ) → left.now ≡ m ++ rest → ⊥) (λ x. left.now ≡ m ++ x.now) → agreed (Some left) (prefixed m o) ≡ agreed next o
taken_off left next m None e = refl
taken_off left None m (Some read) apart =
    ⊎_elim (λ t. absurd (apart read (sym ((bytes_eq-Decides (m ++ read) left.now).0 t)))) (λ f. ap Ok f) (cases_Bool (bytes_eq (m ++ read) left.now))
taken_off left (Some x) m (Some read) e = ap (λ l. Ok (bytes_eq (m ++ read) l)) e ∙ ap (λ t. Ok t) (same_after m read x.now)

pub goes_on : (left next : Option (Bor (List ℕ))) (begun : Bor (List ℕ)) (m : List ℕ) (o all : Option (List ℕ)) → all ≡ prefixed m o → left ≡ Some begun →
    MatchOption next ((rest : List ℕ) → begun.now ≡ m ++ rest → ⊥) (λ x. begun.now ≡ m ++ x.now) → agreed next o ≡ agreed left all
goes_on left next begun m o all e is c = sym (ap (agreed left) e ∙ ap (λ l. agreed l (prefixed m o)) is ∙ taken_off begun next m o c)

pub differed : (left : Option (Bor (List ℕ))) (m : List ℕ) (o all : Option (List ℕ)) → all ≡ prefixed m o → left ≡ None → agreed left o ≡ agreed left all
differed (Some x) m o all e is = cc
differed None m None all e is = sym (ap (agreed None) e)
differed None m (Some read) all e is = sym (ap (agreed None) e)

pub malformed : (left : Option (Bor (List ℕ))) (o : Option (List ℕ)) (e : Malformed) → o ≡ None → Err e ≡ agreed left o
malformed left o BareDelimiter h = sym (ap (agreed left) h)

pub blank_is : (o : Option (List ℕ)) → compared [] o ≡ blank o
blank_is None = refl
blank_is (Some []) = refl
blank_is (Some (x ∷ read)) = ap Ok (sym (ne_eqb (length (x ∷ read)) 0 (λ e. omega arith)))
