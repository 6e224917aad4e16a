-- The first of the causes with the greatest quantity. Assumes nothing.
use Rattle.std.proofs.Common.{◌≡◌, ℕ, ◌+◌, ◌<◌, ◌≤◌, true, false, List, [], ◌∷◌, length, get_or, drop, ℤ, pos, ◌≤ℤ◌, ◌<ℤ◌, Some, None, Option, unwrap_or, sym, refl, ap, ◌∙◌, subst, arith}
use Rattle.std.specs.Int.Signed.{le_z}
use Rattle.std.specs.Option.{option_map}
use Rattle.std.proofs.lemmas.Int.{ints, clamps, by_lt_z}
use Rattle.std.proofs.ByRecursion.{All-weaker}
use Rattle.std.proofs.lemmas.List.{at_drop_more, at_drop_all}
use Rattle.std.specs.Int.{int_max}
use Rattle.std.specs.List.{AllByRecursion, find}
use Rattle.nopay.specs.declared.cause.Cause.{Cause}
use Rattle.nopay.specs.declared.cause.Cause.TheVariants.{Outage, OffControl, Link, Constrained, OutOfRange}
use Rattle.nopay.specs.NoPay.{cause_number, greatest, first_greatest, First, Governs}

reaching : (x y : ℤ) → x ≤ℤ y → le_z x y ≡ true
reaching x y h = grind (arith, ints)

not_reaching : (x y : ℤ) → y <ℤ x → le_z x y ≡ false
not_reaching x y h = grind (arith, ints)

low : (f : Cause → ℤ) (cs : List Cause) → pos 0 ≤ℤ greatest f cs
low f [] = omega (arith, ints)
low f (c ∷ cs) = let rest = low f cs in omega (arith, ints, clamps)

pub starts : (f : Cause → ℤ) (cs : List Cause) → int_max (pos 0) (greatest f cs) ≡ greatest f cs
starts f cs = let least = low f cs in omega (arith, ints, clamps)

-- with the quantity of one cause more
pub next : (f : Cause → ℤ) (cs : List Cause) (i : ℕ) (c : Cause) (g q h : ℤ) → i < length cs → int_max g (greatest f (drop i cs)) ≡ greatest f cs → q ≡ f (get_or cs i c) → h ≡ int_max g q →
    int_max h (greatest f (drop (i + 1) cs)) ≡ greatest f cs
next f cs i c g q h lt so quantity is =
    let this : greatest f (drop i cs) ≡ int_max (f (get_or cs i c)) (greatest f (drop (i + 1) cs)) = at_drop_more (greatest f) cs i c lt in
    omega (arith, ints, clamps)

pub ends : (f : Cause → ℤ) (cs : List Cause) (i : ℕ) (g : ℤ) → length cs ≤ i → pos 0 ≤ℤ g → int_max g (greatest f (drop i cs)) ≡ greatest f cs → g ≡ greatest f cs
ends f cs i g le low so =
    let none : greatest f (drop i cs) ≡ pos 0 = at_drop_all (greatest f) cs i le in
    omega (arith, ints, clamps)

most : (f : Cause → ℤ) (cs : List Cause) → AllByRecursion (λ c. f c ≤ℤ greatest f cs) cs
most f [] = tt
most f (c ∷ cs) = (omega (arith, ints, clamps), All-weaker (λ d. f d ≤ℤ greatest f cs) (λ d. f d ≤ℤ greatest f (c ∷ cs)) (λ d h. omega (arith, ints, clamps)) cs (most f cs))

record Reached (v : ℤ) (f : Cause → ℤ) (cs : List Cause) (cause : Option Cause) : Type 0 where
  total : unwrap_or (option_map f cause) (pos 0) ≡ v
  first : First v f cs cause

later : (v : ℤ) (f : Cause → ℤ) (cause : Option Cause) (d : Cause) (cs : List Cause) → f d <ℤ v → Reached v f cs cause → Reached v f (d ∷ cs) cause
later v f cause d cs h found =
    let place = found.first in
    record {
      total = found.total;
      first = record {
        one = place.one;
        is_one = place.is_one;
        earlier = d ∷ place.earlier;
        later = place.later;
        order = ap (λ ds. d ∷ ds) place.order;
        below = (h, place.below);
      };
    }

-- the first that reaches the greatest
reached : (v : ℤ) (f : Cause → ℤ) (cs : List Cause) → pos 0 <ℤ v → v ≡ greatest f cs → Reached v f cs (find (λ c. le_z v (f c)) cs)
reached v f [] some is = absurd (omega (arith, ints))
reached v f (c ∷ cs) some is =
    by_lt_z (f c) v
    (λ h. rw (not_reaching v (f c) h) (later v f (find (λ d. le_z v (f d)) cs) c cs h (reached v f cs some (omega (arith, ints, clamps)))))
    (λ h. rw (reaching v (f c) h) (record { total = omega (arith, ints, clamps); first = record { one = c; is_one = refl; earlier = []; later = cs; order = refl; below = tt } }))

pub first : (f : Cause → ℤ) (cs : List Cause) (g : ℤ) (cause : Option Cause) → g ≡ greatest f cs → pos 0 <ℤ g → cause ≡ find (λ c. le_z g (f c)) cs → cause ≡ first_greatest f cs
first f cs g cause is some found =
    let above : pos 0 <ℤ greatest f cs = subst (λ v. pos 0 <ℤ v) is some in
    rw (not_reaching (greatest f cs) (pos 0) above) (found ∙ ap (λ v. find (λ c. le_z v (f c)) cs) is)

numbered : (f : Cause → ℤ) (cause : Option Cause) → cause_number cause ≡ 0 → unwrap_or (option_map f cause) (pos 0) ≡ pos 0
numbered f None zero = refl
numbered f (Some Outage) zero = absurd cc
numbered f (Some OffControl) zero = absurd cc
numbered f (Some Link) zero = absurd cc
numbered f (Some Constrained) zero = absurd cc
numbered f (Some OutOfRange) zero = absurd cc

pub governs : (f : Cause → ℤ) (cs : List Cause) → Governs f cs (first_greatest f cs)
governs f cs =
    by_lt_z (pos 0) (greatest f cs)
    (λ h. rw (not_reaching (greatest f cs) (pos 0) h)
    (let found = reached (greatest f cs) f cs h refl in
    record {
      reaches = found.total;
      most = most f cs;
      none = record { only = λ zero. sym found.total ∙ numbered f (find (λ c. le_z (greatest f cs) (f c)) cs) zero; whenever = λ zero. absurd (omega (arith, ints)) };
      first = λ some. found.first;
    }))
    (λ h. rw (reaching (greatest f cs) (pos 0) h)
    (let least = low f cs in
    let nothing : greatest f cs ≡ pos 0 = omega (arith, ints) in
    record { reaches = sym nothing; most = most f cs; none = record { only = λ zero. nothing; whenever = λ zero. refl }; first = λ some. absurd (some nothing) }))
