-- Division by a number above 0: its value and its remainder. Assumes nothing.
use Rattle.std.proofs.Common.{◌≡◌, ℕ, zero, suc, ◌*◌, ◌/◌, ◌≤◌, ℤ, pos, negsuc, ◌+ℤ◌, ◌*ℤ◌, ◌≤ℤ◌, ◌<ℤ◌, Some, sym, refl, subst, mul-zero, mul-suc, arith}
use Rattle.std.proofs.lemmas.Int.{ints}
use Rattle.std.specs.Int.{int_div_euclid}
use Rattle.units.specs.Division.{quotient}

pub value : (n d : ℤ) → pos 0 <ℤ d → Some (int_div_euclid n d) ≡ quotient n d
value (pos a) (pos zero) h = absurd h.lt
value (pos a) (pos (suc d)) h = refl
value (pos a) (negsuc d) h = absurd h.lt
value (negsuc a) (pos zero) h = absurd h.lt
value (negsuc a) (pos (suc d)) h = refl
value (negsuc a) (negsuc d) h = absurd h.lt

pub low : (n d : ℤ) → pos 0 <ℤ d → (d *ℤ int_div_euclid n d) ≤ℤ n
low (pos a) (pos d) h = omega (arith, ints)
low (negsuc a) (pos d) h = let m = mul-suc d (a / d) in omega (arith, ints)
low (pos a) (negsuc d) h = absurd h.lt
low (negsuc a) (negsuc d) h = absurd h.lt

below_next : (a d q : ℕ) → d * q ≤ a → negsuc a <ℤ (pos d *ℤ (negsuc q +ℤ pos 1))
below_next a d zero h = let z = mul-zero d in omega (arith, ints)
below_next a d (suc q) h =
    let next : negsuc (suc q) +ℤ pos 1 ≡ negsuc q = omega (arith, ints) in
    let least : negsuc a <ℤ (pos d *ℤ negsuc q) = omega (arith, ints) in
    subst (λ (z : ℤ). negsuc a <ℤ (pos d *ℤ z)) (sym next) least

pub high : (n d : ℤ) → pos 0 <ℤ d → n <ℤ (d *ℤ (int_div_euclid n d +ℤ pos 1))
high (pos a) (pos d) h = let m = mul-suc d (a / d) in omega (arith, ints)
high (negsuc a) (pos d) h = below_next a d (a / d) (omega arith)
high (pos a) (negsuc d) h = absurd h.lt
high (negsuc a) (negsuc d) h = absurd h.lt
