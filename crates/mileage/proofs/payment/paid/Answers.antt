use Rattle.std.proofs.Common.{ℤ, ◌*ℤ◌, lit<, w64, SFits, rules}
use Rattle.units.specs.Bounds.{Within, full_accuracy, mileage_limit}
use Rattle.mileage.specs.Mileage.{paid, price_limit, payment_limit}
use Rattle.mileage.proofs.Payments.{paid_within}
use Rattle.mileage.proofs.Products.{within_product, within_fits}
use Rattle.mileage.proofs.payment.paid.Goals as goal

record Fitting (part price accuracy : ℤ) : Type 0 where
  fits_product : SFits w64 (part *ℤ price)
  fits_whole : SFits w64 (part *ℤ price *ℤ accuracy)
  payment : Within payment_limit (paid part price accuracy)

fitting : (part price accuracy : ℤ) → Within mileage_limit part → Within price_limit price → Within full_accuracy accuracy → Fitting part price accuracy
fitting part price accuracy p q r =
    let product = within_product mileage_limit price_limit part price p q in
    record {
      fits_product = within_fits _ (part *ℤ price) (lit< tt) product;
      fits_whole = within_fits _ (part *ℤ price *ℤ accuracy) (lit< tt) (within_product _ full_accuracy (part *ℤ price) accuracy product r);
      payment = paid_within part price accuracy p q r;
    }

pub overflow_mul-amount-2 : goal.overflow_mul-amount-2
overflow_mul-amount-2 c =
    let fits = fitting _ _ _ c.args.part.within c.args.price.within c.args.accuracy.within in
    search rules

pub invariant_of-result : goal.invariant_of-result
invariant_of-result c =
    let fits = fitting _ _ _ c.args.part.within c.args.price.within c.args.accuracy.within in
    search rules

pub returns : goal.returns
returns c =
    let fits = fitting _ _ _ c.args.part.within c.args.price.within c.args.accuracy.within in
    search rules
