-- Small facts on options, tests and keys. Assumes nothing.
use Rattle.std.proofs.Common.{◌≡◌, ℕ, Bool, true, false, Some, None, Option, sym, refl, ap, ◌∙◌, arith}
use Rattle.register.specs.Shapes.{Decides}

pub none_some : {V X : Type 0} (v : V) → ◌≡◌ {A = Option V} None (Some v) → X
none_some v e = let z : ◌≡◌ {A = ℕ} 0 1 = cc in absurd (omega arith)

pub some_equal : {V : Type 0} (v w : V) → ◌≡◌ {A = Option V} (Some v) (Some w) → v ≡ w
some_equal v w e = cc

pub true_false : {X : Type 0} → ◌≡◌ {A = Bool} true false → X
true_false e = let z : ◌≡◌ {A = ℕ} 0 1 = cc in absurd (omega arith)

module _ {K : Type 0} {same : K → K → Bool} (d : Decides same) where
  pub different : (j k : K) → same j k ≡ false → j ≡ k → ⊥
  different j k e h = true_false (sym (d.self j) ∙ ap (same j) h ∙ e)

  pub not_same : (j k : K) → (j ≡ k → ⊥) → same j k ≡ false
  not_same j k h = go (same j k) refl
    where
      go : (b : Bool) → same j k ≡ b → b ≡ false
      go true e = absurd (h (d.equal j k e))
      go false e = refl
