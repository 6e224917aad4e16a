-- What the bytes of a record say, or why they are turned back. Assumes nothing.
use Rattle.std.specs.Prelude.{ℕ, zero, suc, ◌+◌, ◌-◌, ◌*◌, Bool, true, false, cond, ◌&&◌, List, [], ◌∷◌, length, take, drop, ℤ, pos, negsuc, Some, None, Ok, Err, codes, Option, Result, ◌==◌, nat_le, slice_index, slice_index_or}
use Rattle.std.specs.Option.{ok_or}
use Rattle.refusal.specs.declared.Refusal.{Refusal}
use Rattle.refusal.specs.declared.Refusal.TheVariants.{RecordLength, UnknownKind, UnknownDirection, WrongHour, WrongVersion, MalformedName, UnknownName, WrongNumber}
use Rattle.units.specs.declared.bounds.Direction.{Direction}
use Rattle.units.specs.Directions.{direction_of}
use Rattle.names.specs.Names.{text}
use Rattle.roster.specs.Rosters.{Lines, found, site_names}
use Rattle.postings.specs.declared.posting.Kind.{Kind}
use Rattle.postings.specs.declared.posting.Kind.TheVariants.{Award, Mileage, Capacity, Obligation, Bill}
use Rattle.postings.specs.declared.posting.Side.{Side}
use Rattle.postings.specs.declared.posting.Side.TheVariants.{Charge, Credit}
use Rattle.postings.specs.Postings.{Terms, award, mileage, capacity, obligation, bill, Said}
pub use Rattle.refusal.specs.Checks.{then, viewed}

-- the bytes from a place on, so many of them
abbrev pub field : ℕ → ℕ → List ℕ → List ℕ
field from count xs = take count (drop from xs)

-- 64 bytes, a newline last
abbrev pub framed : List ℕ → Bool
framed xs = length xs == 64 && slice_index xs 63 == 10

-- whether xs begins with the letters
abbrev pub begins : List ℕ → List ℕ → Bool
begins [] xs = true
begins (p ∷ ps) [] = false
begins (p ∷ ps) (x ∷ xs) = cond (x == p) (begins ps xs) false

abbrev pub kind_in : List ℕ → Result Kind Refusal
kind_in xs =
    cond (begins (codes "AWD") xs) (Ok Award)
    (cond (begins (codes "MIL") xs) (Ok Mileage)
    (cond (begins (codes "CAP") xs) (Ok Capacity)
    (cond (begins (codes "OBL") xs) (Ok Obligation)
    (cond (begins (codes "BIL") xs) (Ok Bill) (Err UnknownKind)))))

-- U or D
abbrev pub direction_in : ℕ → Result Direction Refusal
direction_in letter = ok_or (direction_of letter) UnknownDirection

abbrev pub digit : ℕ → Bool
digit b = nat_le 48 b && nat_le b 57

-- the number that decimal digits write after n
abbrev pub number_after : ℕ → List ℕ → Option ℕ
number_after n [] = Some n
number_after n (d ∷ ds) = cond (digit d) (number_after (n * 10 + (d - 48)) ds) None

-- the number if it is from low to high
abbrev pub between : ℕ → ℕ → Refusal → Option ℕ → Result ℕ Refusal
between low high refusal None = Err refusal
between low high refusal (Some n) = cond (nat_le low n && nat_le n high) (Ok n) (Err refusal)

abbrev pub hour_in : List ℕ → Result ℕ Refusal
hour_in digits = between 0 23 WrongHour (number_after 0 digits)

-- a version, or the number of a bill
abbrev pub version_in : List ℕ → Result ℕ Refusal
version_in digits = between 1 999 WrongVersion (number_after 0 digits)

-- whether a text is blank is as it should be
abbrev pub blank_as : Bool → Option (List ℕ) → Result (Unit {0}) Refusal
blank_as wanted None = Err MalformedName
blank_as wanted (Some []) = cond wanted (Ok tt) (Err MalformedName)
blank_as wanted (Some (x ∷ xs)) = cond wanted (Err MalformedName) (Ok tt)

-- the index of a text among the names
abbrev pub named_in : List (List ℕ) → Option (List ℕ) → Result ℕ Refusal
named_in names t = then (blank_as false t) (λ _. ok_or (found t names) UnknownName)

-- the index of the site or member that the kind names, 0 where it names none
abbrev pub name_in : Lines → Kind → List ℕ → Result ℕ Refusal
name_in roster Award xs = named_in (site_names roster) (text xs)
name_in roster Mileage xs = then (blank_as true (text xs)) (λ _. Ok 0)
name_in roster Capacity xs = then (blank_as true (text xs)) (λ _. Ok 0)
name_in roster Obligation xs = named_in roster.members (text xs)
name_in roster Bill xs = named_in roster.members (text xs)

-- the limit of each of the five numbers; one that the kind does not have is 0
abbrev pub limits_of : Kind → List ℕ
limits_of Award = 20000 ∷ 20000 ∷ 20000 ∷ 20000 ∷ 20000 ∷ []
limits_of Mileage = 10000 ∷ 10000 ∷ 10000 ∷ 10000 ∷ 10000 ∷ []
limits_of Capacity = 100000 ∷ 100000 ∷ 0 ∷ 0 ∷ 0 ∷ []
limits_of Obligation = 999999 ∷ 0 ∷ 0 ∷ 0 ∷ 0 ∷ []
limits_of Bill = 999999 ∷ 1 ∷ 0 ∷ 0 ∷ 0 ∷ []

-- a number of six digits, at most its limit
abbrev pub number_in : ℕ → ℕ → List ℕ → Result ℤ Refusal
number_in index limit digits = viewed pos (between 0 limit (WrongNumber index) (number_after 0 digits))

-- a number for each limit, from the index on
abbrev pub numbers_in : ℕ → List ℕ → List ℕ → Result (List ℤ) Refusal
numbers_in index [] xs = Ok []
numbers_in index (limit ∷ limits) xs =
    then (number_in index limit (field (6 * index) 6 xs)) (λ n.
    then (numbers_in (index + 1) limits xs) (λ ns. Ok (n ∷ ns)))

-- a charge is 0, a credit 1
abbrev pub side_number : Side → ℕ
side_number Charge = 0
side_number Credit = 1

abbrev pub side_of : ℤ → Side
side_of (pos zero) = Charge
side_of (pos (suc n)) = Credit
side_of (negsuc n) = Credit

-- the terms of a kind, by the index of its name, the number of a bill and the five numbers
abbrev pub terms_for : Kind → ℕ → ℕ → (ℕ → ℤ) → Terms
terms_for Award name serial n = award name (n 0) (n 1) (n 2) (n 3) (n 4)
terms_for Mileage name serial n = mileage (n 0) (n 1) (n 2) (n 3) (n 4)
terms_for Capacity name serial n = capacity (n 0) (n 1)
terms_for Obligation name serial n = obligation name (n 0)
terms_for Bill name serial n = bill name serial (side_of (n 1)) (n 0)

-- the terms that the five numbers give
abbrev pub terms_in : Kind → ℕ → ℕ → List ℕ → Result Terms Refusal
terms_in kind name serial xs = viewed (λ numbers. terms_for kind name serial (λ i. slice_index_or numbers i (pos 0))) (numbers_in 0 (limits_of kind) xs)

abbrev pub version_for : Kind → ℕ → ℕ
version_for Award serial = serial
version_for Mileage serial = serial
version_for Capacity serial = serial
version_for Obligation serial = serial
version_for Bill serial = 0

-- what a record says, or the first check that it fails: the kind stands in bytes 0 to 2, the direction in 3, the hour in 4 and 5,
-- the version or the number of a bill in 6 to 8, the name in 9 to 32, the five numbers in 33 to 62, a newline in 63
abbrev pub reading : Lines → List ℕ → Result Said Refusal
reading roster xs =
    cond (framed xs)
    (then (kind_in xs) (λ kind.
    then (direction_in (slice_index xs 3)) (λ direction.
    then (hour_in (field 4 2 xs)) (λ hour.
    then (version_in (field 6 3 xs)) (λ serial.
    then (name_in roster kind (field 9 24 xs)) (λ name.
    then (terms_in kind name serial (field 33 30 xs)) (λ terms.
    Ok (record { direction = direction; hour = hour; version = version_for kind serial; terms = terms }))))))))
    (Err RecordLength)
