-- A share of a mileage and what it leaves. Assumes nothing.
use Rattle.std.proofs.Common.{◌≡◌, zero, suc, ◌*◌, ◌≤◌, ◌≢◌, ℤ, pos, negsuc, ◌+ℤ◌, ◌-ℤ◌, ◌*ℤ◌, ◌≤ℤ◌, Some, refl, mul-le-mul_right, mul_comm, arith}
use native.Mathlib.Nat.{div-le_of_le-mul}
use Rattle.std.proofs.lemmas.Int.{ints}
use Rattle.units.specs.Division.{quotient}
use Rattle.mileage.specs.Mileage.{share, remainder}

-- a share of a schedule that is not above the greatest is within the whole
share_low : (j s h : ℤ) → pos 0 ≤ℤ j → pos 0 ≤ℤ s → pos 0 ≤ℤ share j s h
share_low (pos j) (pos s) (pos zero) low-j low-s = omega (arith, ints)
share_low (pos j) (pos s) (pos (suc h)) low-j low-s = omega (arith, ints)
share_low (pos j) (pos s) (negsuc h) low-j low-s = omega (arith, ints)
share_low (pos j) (negsuc s) h low-j low-s = absurd low-s.le
share_low (negsuc j) s h low-j low-s = absurd low-j.le

share_high : (j s h : ℤ) → pos 0 ≤ℤ j → pos 0 ≤ℤ s → s ≤ℤ h → share j s h ≤ℤ j
share_high (pos j) (pos s) (pos zero) low-j low-s high = omega (arith, ints)
share_high (pos j) (pos s) (pos (suc h)) low-j low-s high =
    let part : j * s ≤ suc h * j = omega (arith, mul-le-mul_right {m = s} {n = suc h} j (omega (arith, ints)), mul_comm j s) in
    let most = div-le_of_le-mul (suc h) {m = j * s} {n = j} part in
    omega (arith, ints)
share_high (pos j) (pos s) (negsuc h) low-j low-s high = absurd high.le
share_high (pos j) (negsuc s) h low-j low-s high = absurd low-s.le
share_high (negsuc j) s h low-j low-s high = absurd low-j.le

-- the parts are together no more than the whole
pub parts_high : (j s h d r : ℤ) → pos 0 ≤ℤ j → d ≡ share j s h → r ≡ remainder j (share j s h) h → (d +ℤ r) ≤ℤ j
parts_high j s h d r low-j is-d is-r = grind (arith, ints)

quotient_share : (j s h q : ℤ) → quotient (j *ℤ s) h ≡ Some q → (q ≡ share j s h) × ((j -ℤ share j s h) ≡ remainder j (share j s h) h) × (h ≢ pos 0)
quotient_share j s (pos zero) q e = cc
quotient_share j s (pos (suc h)) q e = (cc, refl, λ none. omega (arith, ints))
quotient_share j s (negsuc h) q e = cc

-- where there is a quotient q, it is the share of a schedule s that is not above the greatest h
pub record Shared (j s h q : ℤ) : Type 0 where
  pub is : q ≡ share j s h
  pub left : (j -ℤ q) ≡ remainder j (share j s h) h
  pub some : h ≢ pos 0
  pub low : pos 0 ≤ℤ q
  pub high : q ≤ℤ j

pub shared : (j s h q : ℤ) → pos 0 ≤ℤ j → pos 0 ≤ℤ s → s ≤ℤ h → quotient (j *ℤ s) h ≡ Some q → Shared j s h q
shared j s h q low-j low-s high e =
    let found = quotient_share j s h q e in
    record {
      is = found.0;
      left = rw found.0 found.1;
      some = found.2;
      low = rw found.0 (share_low j s h low-j low-s);
      high = rw found.0 (share_high j s h low-j low-s high);
    }
