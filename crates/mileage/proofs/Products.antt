-- Products of numbers within limits. Assumes nothing.
use Rattle.std.proofs.Common.{ℕ, ◌*◌, ◌^◌, ◌<◌, ℤ, pos, negsuc, ◌*ℤ◌, mul-le-mul, arith, w64, SFits}
use Rattle.std.proofs.lemmas.Int.{ints}
use Rattle.units.specs.Bounds.{Within}

pub within_product : (l m : ℕ) (a b : ℤ) → Within l a → Within m b → Within (l * m) (a *ℤ b)
within_product l m (pos a) (pos b) p q =
    let most = mul-le-mul {n₁ = a} {m₁ = b} {n₂ = l} {m₂ = m} (omega (arith, ints)) (omega (arith, ints)) in
    (omega (arith, ints), omega (arith, ints))
within_product l m (pos a) (negsuc b) p q = absurd q.0.le
within_product l m (negsuc a) b p q = absurd p.0.le

pub within_fits : (l : ℕ) (z : ℤ) → l < 2 ^ 63 → Within l z → SFits w64 z
within_fits l z h p = omega (arith, ints)
