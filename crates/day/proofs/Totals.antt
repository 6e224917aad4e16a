-- The sum of the bills held fits, however many places there are. Assumes nothing.
use Rattle.std.proofs.Common.{◌≡◌, ℕ, zero, suc, ◌*◌, ◌≤◌, Bool, true, false, cond, List, [], ◌∷◌, drop, ℤ, pos, ◌+ℤ◌, nat_abs, Some, None, Option, arith, w64, SFits}
use Rattle.std.proofs.lemmas.Int.{ints}
use Rattle.register.specs.Registers.{distinct, sum_held, Each}
use Rattle.register.proofs.Laws.{first_apart}
use Rattle.register.proofs.Sums.{bounded}
use Rattle.postings.specs.declared.posting.Posting.{Posting}
use Rattle.postings.specs.declared.posting.Content.{Content}
use Rattle.postings.specs.declared.posting.Content.TheVariants.{Award, Mileage, Capacity, Obligation, Bill}
use Rattle.postings.specs.Postings.{said, terms_of, signed, posting_shape}
use Rattle.postings.proofs.Bills.{signed_within}
use Rattle.postings.specs.Keys.{decides}
use Rattle.units.specs.Bounds.{Around}
use Rattle.day.specs.declared.sums.Billed.{Billed}
use Rattle.day.specs.Bills.{counts, cents_for}
use Rattle.day.proofs.BillKeys.{bill_key, key_index, back, BillLimits, covered}

-- ---- what the types of postings keep
bill_limits : (p : Posting) → BillLimits p.hour.value (terms_of p.content)
bill_limits p = go p.content
  where
    go : (content : Content) → BillLimits p.hour.value (terms_of content)
    go (Award a) = tt
    go (Mileage m) = tt
    go (Capacity c) = tt
    go (Obligation o) = tt
    go (Bill b) = record { hours = p.hour.within; members = b.member.within; low = b.number.0.low; high = b.number.0.high }

cents_limit : (billed : Billed) (p : Posting) → nat_abs (cents_for billed (said p).terms) ≤ 999999
cents_limit billed p = go p.content
  where
    where_counted : (b : Bool) (z : ℤ) → nat_abs z ≤ 999999 → nat_abs (cond b z (pos 0)) ≤ 999999
    where_counted true z h = h
    where_counted false z h = omega arith

    go : (content : Content) → nat_abs (cents_for billed (terms_of content)) ≤ 999999
    go (Award a) = omega arith
    go (Mileage a) = omega arith
    go (Capacity c) = omega arith
    go (Obligation o) = omega arith
    go (Bill b) = where_counted (counts billed b.member.value) (signed b.side b.amount.value.0) (signed_within b.side 999999 b.amount.value.0 b.amount.within)

-- ---- the sum over the rest of the places
each_all : {E : Type 0} (P : E → Type 0) → ((x : E) → P x) → (xs : List (Option E)) → Each P xs
each_all P h [] = tt
each_all P h (None ∷ xs) = each_all P h xs
each_all P h (Some x ∷ xs) = (h x, each_all P h xs)

distinct_drop : (xs : List (Option Posting)) (i : ℕ) → distinct posting_shape xs ≡ true → distinct posting_shape (drop i xs) ≡ true
distinct_drop xs zero h = h
distinct_drop [] (suc i) h = h
distinct_drop (None ∷ xs) (suc i) h = distinct_drop xs i h
distinct_drop (Some x ∷ xs) (suc i) h = distinct_drop xs i (first_apart posting_shape x xs h).1

pub sum_limit : (billed : Billed) (xs : List (Option Posting)) → distinct posting_shape xs ≡ true → (i : ℕ) → nat_abs (sum_held (λ p. cents_for billed (said p).terms) (drop i xs)) ≤ 767232 * 999999
sum_limit billed xs h i =
    bounded posting_shape decides (λ p. cents_for billed (said p).terms) bill_key 767232 999999 (drop i xs)
    (record { index = key_index; back = back; covers = each_all _ (λ p. covered billed (said p) (bill_limits p)) (drop i xs) })
    (distinct_drop xs i h) (cents_limit billed)

-- ---- what fits: what was summed and one more, where the rest and all are within the limit
pub total_fits : (t z rest all : ℤ) → t +ℤ rest ≡ all → nat_abs rest ≤ 767232 * 999999 → nat_abs all ≤ 767232 * 999999 → Around 999999 z → SFits w64 (t +ℤ z)
total_fits t z rest all e h k l = let low = l.0 in let high = l.1 in grind (arith, ints)
