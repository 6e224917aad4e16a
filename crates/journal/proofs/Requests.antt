-- Words that are not known. Assumes nothing.
use Rattle.std.proofs.Common.{◌≡◌, ℕ, ◌==◌, true, false, List, [], ◌∷◌, length, Ok, Err, codes, refl, sym, ap, subst, arith}
use Rattle.std.specs.Str.{bytes_eq, encode_utf8_all, IsUtf8}
use lib.Utf8.{scalars, encode}
use Rattle.std.proofs.lemmas.Bool.{false_from_ne_true, eqb-true, eqb-false}
use Rattle.std.proofs.lemmas.Slice.Eq.{bytes_eq-Decides}
use Rattle.outcomes.specs.declared.outcome.Reason.TheVariants.{UnknownWord}
use Rattle.journal.specs.Reading.{by_word, passed}

apart : (word known : List ℕ) → (word ≡ known → ⊥) → bytes_eq word known ≡ false
apart word known other = false_from_ne_true _ (λ same. other ((bytes_eq-Decides word known).0 same))

-- no word
pub none : (word rest : List ℕ) → true ≡ (length word == 0) → Ok passed ≡ by_word word rest
none [] rest empty = refl
none (b ∷ bs) rest empty = let none = eqb-true (length (b ∷ bs)) 0 (sym empty) in absurd (omega arith)

pub some : (word : List ℕ) → false ≡ (length word == 0) → word ≡ [] → ⊥
some word full e = eqb-false (length word) 0 (sym full) (ap length e)

-- any other word
pub unknown : (word rest : List ℕ) → (word ≡ [] → ⊥) → (word ≡ codes "member" → ⊥) → (word ≡ codes "site" → ⊥) → (word ≡ codes "open" → ⊥) →
    (word ≡ codes "record" → ⊥) → (word ≡ codes "records" → ⊥) → (word ≡ codes "balance" → ⊥) → (word ≡ codes "account" → ⊥) → Err UnknownWord ≡ by_word word rest
unknown word rest e m s o r rs b a =
    let e' = apart word [] e in let m' = apart word (codes "member") m in let s' = apart word (codes "site") s in let o' = apart word (codes "open") o in
    let r' = apart word (codes "record") r in let rs' = apart word (codes "records") rs in let b' = apart word (codes "balance") b in let a' = apart word (codes "account") a in
    rw (e', m', s', o', r', rs', b', a') refl

-- a word that is not UTF-8
pub no_text : (word rest : List ℕ) → (IsUtf8 word → ⊥) → Err UnknownWord ≡ by_word word rest
unfolding encode
no_text word rest wrong =
    unknown word rest (differs [] refl refl) (differs (codes "member") refl refl) (differs (codes "site") refl refl) (differs (codes "open") refl refl)
    (differs (codes "record") refl refl) (differs (codes "records") refl refl) (differs (codes "balance") refl refl) (differs (codes "account") refl refl)
  where
    differs : (known : List ℕ) → scalars known ≡ true → encode_utf8_all known ≡ known → word ≡ known → ⊥
    differs known s e same = wrong (subst IsUtf8 (sym same) (known, (s, e)))
