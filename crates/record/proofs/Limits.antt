-- What is read of digits, where a type takes the numbers between two limits. Assumes nothing.
use Rattle.std.proofs.Common.{◌≡◌, ℕ, ◌<◌, ◌≤◌, List, Some, None, Ok, Err, Option, Result, MatchOption, MatchResult, sym, ap, ◌∙◌, arith}
use Rattle.std.proofs.lemmas.Bool.Decides.{nat_tests}
use Rattle.refusal.specs.declared.Refusal.{Refusal}
use Rattle.refusal.specs.declared.Refusal.TheVariants.{WrongHour, WrongVersion}
use Rattle.units.specs.declared.bounds.OutOfRange.{OutOfRange}
use Rattle.units.specs.declared.bounds.Below.{Below}
use Rattle.units.specs.declared.bounds.Version.{Version}
use Rattle.record.specs.Reading.{viewed, field, number_after, between, hour_in, version_in}

inside : (low high n : ℕ) (refusal : Refusal) → low ≤ n → n ≤ high → between low high refusal (Some n) ≡ Ok n
inside low high n refusal h i = grind (arith, nat_tests)

outside : (low high n : ℕ) (refusal : Refusal) → (low ≤ n → high < n) → between low high refusal (Some n) ≡ Err refusal
outside low high n refusal h = grind (arith, nat_tests)

-- a value that was read, or the refusal, where the type takes no number that is past its limits
abbrev pub Read : {T : Type 0} → (T → ℕ) → (ℕ → Type 0) → Refusal → Result T Refusal → Option ℕ → Type 0
Read number Past refusal r o = MatchOption o (r ≡ Err refusal) (λ n. MatchResult r (λ value. number value ≡ n) (λ e. (e ≡ refusal) × (OutOfRange × Past n)))

module _ {T : Type 0} (number : T → ℕ) (low high : ℕ) (Past : ℕ → Type 0) (refusal : Refusal) (within : (value : T) → (low ≤ number value) × (number value ≤ high)) (past : (n : ℕ) → Past n → low ≤ n → high < n) where
  read_between : (o : Option ℕ) (r : Result T Refusal) → Read number Past refusal r o → viewed number r ≡ between low high refusal o
  read_between None r h = ap (viewed number) h
  read_between (Some n) (Ok value) h =
      let limits = within value in
      let low_n : low ≤ n = omega (arith, limits.0) in
      let high_n : n ≤ high = omega (arith, limits.1) in
      ap Ok h ∙ sym (inside low high n refusal low_n high_n)
  read_between (Some n) (Err e) h = ap Err h.0 ∙ sym (outside low high n refusal (past n h.1.1))

-- the hour in the bytes of a record, and its version or number
pub hour_read : (xs : List ℕ) (r : Result (Below 24) Refusal) → Read (λ hour. hour.value) (λ n. 24 ≤ n) WrongHour r (number_after 0 (field 4 2 xs)) → viewed (λ hour. hour.value) r ≡ hour_in (field 4 2 xs)
hour_read xs r h = read_between (λ hour. hour.value) 0 23 (λ n. 24 ≤ n) WrongHour (λ hour. (omega arith, omega (arith, hour.within))) (λ n past low. omega arith) (number_after 0 (field 4 2 xs)) r h

pub serial_read : (xs : List ℕ) (r : Result Version Refusal) → Read (λ version. version.value) (λ n. 1 ≤ n → 999 < n) WrongVersion r (number_after 0 (field 6 3 xs)) → viewed (λ version. version.value) r ≡ version_in (field 6 3 xs)
serial_read xs r h = read_between (λ version. version.value) 1 999 (λ n. 1 ≤ n → 999 < n) WrongVersion (λ version. (version.low, version.high)) (λ n past. past) (number_after 0 (field 6 3 xs)) r h
