-- Where lines and records end. Assumes nothing.
use Rattle.std.proofs.Common.{◌≡◌, ℕ, suc, ◌+◌, min, ◌<◌, Bool, true, false, cond, eqb, ltb, not, List, [], ◌∷◌, ◌++◌, length, take, drop, Option, Bor, MatchOption, refl, ap, ◌∙◌, subst, arith}
use Rattle.std.specs.declared.slice.SplitInclusive.{SplitInclusive}
use Rattle.std.specs.List.{position_or_len, onto_first, IsFirstMatchOrLen}
use Rattle.std.specs.Slice.Iter.{split_inclusive_rest, split_inclusive_callee}
use Rattle.std.specs.Fn.{Mut, CalledAt, ComputesKey}
use Rattle.std.specs.Str.Lines.{strip_carriage_return}
use Rattle.std.proofs.lemmas.Grind.{common_steps}
use Rattle.std.proofs.lemmas.Bool.Decides.{nat_tests}
use Rattle.std.proofs.lemmas.List.Sums.{position_or_len_is}
use Rattle.std.proofs.lemmas.Fn.{always_returns_same}
use Rattle.std.proofs.lemmas.Iterator.{YieldsList}
use Rattle.std.proofs.lemmas.Iterator.Splits.{YieldsList-from_shown_while}
use Rattle.journal.specs.Lines.{is_newline, after_line, records_of}

-- a text without a newline is a line
pub whole : (n : ℕ) (bs : List ℕ) → length (drop n bs) < 1 → (take n bs ≡ cond (ltb n (length bs)) (strip_carriage_return (take n bs)) bs) × (drop n bs ≡ drop (n + 1) bs)
whole n bs end = grind (arith, common_steps, nat_tests)

-- the records are the first, up to its newline, and those of what follows it
records_first : (bs : List ℕ) → 0 < length bs → records_of bs ≡ take (position_or_len is_newline bs + 1) bs ∷ records_of (after_line bs)
records_first [] h = absurd (omega arith)
records_first (b ∷ []) h = by (eqb b 10)
  where
    by : (n : Bool) → cond n ((b ∷ []) ∷ []) ((b ∷ []) ∷ []) ≡ take (cond (not n) 1 0 + 1) (b ∷ []) ∷ records_of (drop (cond (not n) 1 0 + 1) (b ∷ []))
    by true = refl
    by false = refl
records_first (b ∷ x ∷ bs) h = by (eqb b 10) (position_or_len is_newline (x ∷ bs)) (records_first (x ∷ bs) (omega arith))
  where
    by : (n : Bool) (m : ℕ) → records_of (x ∷ bs) ≡ take (m + 1) (x ∷ bs) ∷ records_of (drop (m + 1) (x ∷ bs)) →
        cond n ((b ∷ []) ∷ records_of (x ∷ bs)) (onto_first b (records_of (x ∷ bs))) ≡ take (cond (not n) (1 + m) 0 + 1) (b ∷ x ∷ bs) ∷ records_of (drop (cond (not n) (1 + m) 0 + 1) (b ∷ x ∷ bs))
    by true m e = refl
    by false m e = let s : 1 + m + 1 ≡ suc (m + 1) = omega arith in rw s (ap (onto_first b) e)

records_none : (bs : List ℕ) → length bs ≡ 0 → length (records_of bs) ≡ 0
records_none [] h = refl
records_none (b ∷ bs) h = absurd (omega arith)

cut : (bs x rest : List ℕ) (n : ℕ) → bs ≡ x ++ rest → length x ≡ min (n + 1) (length bs) → (take (n + 1) bs ≡ x) × (drop (n + 1) bs ≡ rest)
cut bs x rest n joined long = (grind (arith, common_steps), grind (arith, common_steps))

-- a part up to the first newline is the first record
first_part : (bs x rest : List ℕ) (i : ℕ) → bs ≡ x ++ rest → length x ≡ min (i + 1) (length bs) → IsFirstMatchOrLen is_newline bs i → 0 < length bs → records_of bs ≡ x ∷ records_of rest
first_part bs x rest i joined long first some =
    let n = position_or_len is_newline bs in
    let at : n ≡ min i (length bs) = position_or_len_is is_newline bs (min i (length bs)) 0 (omega arith) (λ k h. first.0 k 0 (omega arith) (omega arith)) (λ h. let e : min i (length bs) ≡ i = omega arith in rw e (first.1 (omega arith) 0)) in
    let parts = cut bs x rest n joined (omega arith) in
    records_first bs some ∙ ap (λ r. r ∷ records_of (drop (n + 1) bs)) parts.0 ∙ ap (λ r. x ∷ records_of r) parts.1

-- what `next` of the parts does
abbrev parts : {F : Type 0} → Mut F (Bor ℕ × Unit {0}) Bool → SplitInclusive ℕ F → Option (Bor (List ℕ)) → SplitInclusive ℕ F → Type 0
parts g s r t = MatchOption r ((length (split_inclusive_rest s) ≡ 0) × (t ≡ s)) (λ x. (split_inclusive_rest s ≡ x.now ++ split_inclusive_rest t) ×
    ((i : ℕ) × (length x.now ≡ min (i + 1) (length (split_inclusive_rest s))) × ((p : ℕ → Bool) → ComputesKey g p (split_inclusive_callee s) → ComputesKey g p (split_inclusive_callee t) × IsFirstMatchOrLen p (split_inclusive_rest s) i)) ×
    (0 < length (split_inclusive_rest s)))

-- the parts that end with a newline each, where the closure tests for one
pub in_parts : {F : Type 0} (g : Mut F (Bor ℕ × Unit {0}) Bool) (s : SplitInclusive ℕ F) (bs : List ℕ) {f : F} → split_inclusive_rest s ≡ bs → split_inclusive_callee s ≡ f →
    ((b : ℕ) (r : Bool) (q : F) → CalledAt g f b r q → (q ≡ f) × (r ≡ is_newline b)) → YieldsList (parts g) (λ x. x.now) s (records_of bs)
in_parts g s bs {f} rest closure computes =
    let tests : ComputesKey g is_newline f = always_returns_same g _ f (λ a r q k. let e = computes a.0.now r q (record { shown = a.0; shows = refl; called = k }) in (e.1, e.0)) in
    let start : ComputesKey g is_newline (split_inclusive_callee s) = rw closure tests in
    let P : List ℕ → Type 0 = λ xs. YieldsList (parts g) (λ x. x.now) s (records_of xs) in
    subst P rest (YieldsList-from_shown_while (parts g) (λ x. x.now) (λ t. records_of (split_inclusive_rest t)) (λ t. ComputesKey g is_newline (split_inclusive_callee t)) (λ s t p h. records_none (split_inclusive_rest s) h.0)
    (λ s x t p h. let first = h.1.2 is_newline p in (first.0, first_part (split_inclusive_rest s) x.now (split_inclusive_rest t) h.1.0 h.0 h.1.1 first.1 h.2)) s start)
