-- Payments of parts beside the payment of the whole. Assumes nothing.
use Rattle.std.proofs.Common.{◌≡◌, ℕ, ◌+◌, ◌*◌, ◌≤◌, ℤ, pos, negsuc, ◌+ℤ◌, ◌*ℤ◌, ◌≤ℤ◌, mul-le-mul_right, add-mul, mul-le-mul_left, arith}
use Rattle.std.proofs.lemmas.Int.{ints, clamps}
use Rattle.std.specs.Int.{int_max}
use Rattle.units.specs.Bounds.{Within, full_accuracy, mileage_limit}
use Rattle.units.specs.Division.{floor_div}
use Rattle.mileage.specs.Mileage.{paid, kw_per_mw, price_limit, payment_limit}
use Rattle.mileage.proofs.Products.{within_product}

cents_within : (z : ℤ) → Within (mileage_limit * price_limit * full_accuracy) z → Within payment_limit (floor_div z (kw_per_mw * full_accuracy))
cents_within (pos n) w = (omega (arith, ints), omega (arith, ints))
cents_within (negsuc n) w = absurd w.0.le

pub paid_within : (part price accuracy : ℤ) → Within mileage_limit part → Within price_limit price → Within full_accuracy accuracy → Within payment_limit (paid part price accuracy)
paid_within part price accuracy w v u =
    cents_within (part *ℤ price *ℤ accuracy)
    (within_product (mileage_limit * price_limit) full_accuracy (part *ℤ price) accuracy (within_product mileage_limit price_limit part price w v) u)

products : (d r j p q m a : ℕ) → d + r ≤ j → p ≤ m → q ≤ m → d * p * a + r * q * a ≤ j * m * a
products d r j p q m a parts low high =
    let day_ahead = mul-le-mul_left {m = p} {n = m} d low in
    let real_time = mul-le-mul_left {m = q} {n = m} r high in
    let whole = mul-le-mul_right {m = d + r} {n = j} m parts in
    let sum : d * p + r * q ≤ j * m = omega (arith, add-mul d r m) in
    omega (arith, add-mul (d * p) (r * q) a, mul-le-mul_right {m = d * p + r * q} {n = j * m} a sum)

-- two parts, each at a price, are paid no more than the whole at a price that is not below either
paid_together : (d r j p q m a : ℤ) → pos 0 ≤ℤ d → pos 0 ≤ℤ r → (d +ℤ r) ≤ℤ j → pos 0 ≤ℤ p → pos 0 ≤ℤ q → p ≤ℤ m → q ≤ℤ m → pos 0 ≤ℤ a → (paid d p a +ℤ paid r q a) ≤ℤ paid j m a
paid_together (pos d) (pos r) (pos j) (pos p) (pos q) (pos m) (pos a) d0 r0 sum p0 q0 pm qm a0 =
    let all = products d r j p q m a (omega (arith, ints)) (omega (arith, ints)) (omega (arith, ints)) in
    omega (arith, ints)
paid_together (pos d) (pos r) (pos j) (pos p) (pos q) (pos m) (negsuc a) d0 r0 sum p0 q0 pm qm a0 = absurd a0.le
paid_together (pos d) (pos r) (pos j) (pos p) (pos q) (negsuc m) a d0 r0 sum p0 q0 pm qm a0 = absurd pm.le
paid_together (pos d) (pos r) (pos j) (pos p) (negsuc q) m a d0 r0 sum p0 q0 pm qm a0 = absurd q0.le
paid_together (pos d) (pos r) (pos j) (negsuc p) q m a d0 r0 sum p0 q0 pm qm a0 = absurd p0.le
paid_together (pos d) (pos r) (negsuc j) p q m a d0 r0 sum p0 q0 pm qm a0 = absurd sum.le
paid_together (pos d) (negsuc r) j p q m a d0 r0 sum p0 q0 pm qm a0 = absurd r0.le
paid_together (negsuc d) r j p q m a d0 r0 sum p0 q0 pm qm a0 = absurd d0.le

-- what two parts of a mileage j are paid, x at the price p and y at the price q
pub record Payments (j p q a x y : ℤ) : Type 0 where
  pub low_x : pos 0 ≤ℤ x
  pub low_y : pos 0 ≤ℤ y
  pub together : (x +ℤ y) ≤ℤ paid j (int_max p q) a
  pub high : (x +ℤ y) ≤ℤ pos payment_limit

pub payments : (d r j p q a x y : ℤ) → pos 0 ≤ℤ d → pos 0 ≤ℤ r → (d +ℤ r) ≤ℤ j → Within mileage_limit j → Within price_limit p → Within price_limit q → Within full_accuracy a → x ≡ paid d p a → y ≡ paid r q a → Payments j p q a x y
payments d r j p q a x y d0 r0 sum within-j within-p within-q within_a is_x is_y =
    let within_d : Within mileage_limit d = (d0, omega (arith, ints)) in
    let within_r : Within mileage_limit r = (r0, omega (arith, ints)) in
    let within_m : Within price_limit (int_max p q) = (omega (arith, ints, clamps), omega (arith, ints, clamps)) in
    let both : (x +ℤ y) ≤ℤ paid j (int_max p q) a =
    rw (is_x, is_y) (paid_together d r j p q (int_max p q) a d0 r0 sum within-p.0 within-q.0 (omega (arith, ints, clamps)) (omega (arith, ints, clamps)) within_a.0) in
    let most = (paid_within j (int_max p q) a within-j within_m within_a).1 in
    record {
      low_x = rw is_x (paid_within d p a within_d within-p within_a).0;
      low_y = rw is_y (paid_within r q a within_r within-q within_a).0;
      together = both;
      high = omega (arith, ints);
    }
