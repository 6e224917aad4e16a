-- How the elements of a register are read. Assumes nothing.
use Rattle.std.specs.Prelude.{◌≡◌, ℕ, Bool, true}
use Rattle.refusal.specs.declared.Document.{Document}

-- an element has a key and a version, and was posted as a document; `same` compares keys
pub record Shape (E K : Type 0) : Type 0 where
  pub key : E → K
  pub version : E → ℕ
  pub document : E → Document
  pub same : K → K → Bool

-- the comparison of keys tells whether they are equal
pub record Decides {K : Type 0} (same : K → K → Bool) : Type 0 where
  pub self : (k : K) → same k k ≡ true
  pub equal : (j k : K) → same j k ≡ true → j ≡ k
