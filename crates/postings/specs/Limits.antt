-- The limits of posted numbers. Assumes nothing.
use Rattle.std.specs.Prelude.{ℕ, List, map, ℤ, pos, slice_index_or}
use Rattle.units.specs.declared.quantity.CentsPerMw.{CentsPerMw}
use Rattle.units.specs.declared.quantity.Quantity as Quantity
use Rattle.units.specs.declared.limits.Limited.{Limited}
pub use Rattle.units.specs.Bounds.{Within}

-- the price of a quarter
abbrev pub price_at : {below above : ℕ} {unit : Quantity.Ghosts CentsPerMw} → List (Limited CentsPerMw below above unit) → ℕ → ℤ
price_at prices quarter = slice_index_or (map (λ p. p.value.0) prices) quarter (pos 0)
