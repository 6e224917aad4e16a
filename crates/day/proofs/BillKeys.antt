-- The keys of bills: there are 16 × 2 × 24 × 999 of them. Assumes nothing.
use Rattle.std.proofs.Common.{◌≡◌, ℕ, zero, suc, ◌+◌, ◌-◌, ◌*◌, ◌/◌, ◌%◌, ◌<◌, ◌≤◌, ◌⊎◌, pos, refl, ap, ◌∙◌, inl, inr, arith}
use Rattle.units.specs.declared.bounds.Direction.{Direction}
use Rattle.units.specs.declared.bounds.Direction.TheVariants.{Up, Down}
use Rattle.postings.specs.declared.posting.Subject.{Subject}
use Rattle.postings.specs.declared.posting.Subject.TheVariants.{Award, Mileage, Capacity, Obligation, Bill}
use Rattle.postings.specs.declared.posting.Key.{Key}
use Rattle.postings.specs.Postings.{Terms, award, mileage, capacity, obligation, bill, Said, key_of, subject_of, direction_number}
use Rattle.day.specs.declared.sums.Billed.{Billed}
use Rattle.day.specs.Bills.{cents_for}

abbrev direction_at : ℕ → Direction
direction_at zero = Up
direction_at (suc n) = Down

-- the keys of bills, numbered from 0 to 767,231
abbrev pub bill_key : ℕ → Key
bill_key i = record { direction = direction_at (i / 999 / 24 % 2); hour = i / 999 % 24; subject = Bill (i / 999 / 24 / 2) (i % 999 + 1) }

-- the number of a key of bills
abbrev index_at : ℕ → ℕ → Subject → ℕ
index_at direction hour (Award site) = 0
index_at direction hour Mileage = 0
index_at direction hour Capacity = 0
index_at direction hour (Obligation member) = 0
index_at direction hour (Bill member number) = ((member * 2 + direction) * 24 + hour) * 999 + (number - 1)

abbrev pub key_index : Key → ℕ
key_index k = index_at (direction_number k.direction) k.hour k.subject

direction_back : (n : ℕ) → n < 2 → direction_number (direction_at n) ≡ n
direction_back zero h = refl
direction_back (suc zero) h = refl
direction_back (suc (suc n)) h = absurd (omega arith)

pub back : (i : ℕ) → i < 767232 → key_index (bill_key i) ≡ i
back i h = let d = direction_back (i / 999 / 24 % 2) (omega arith) in omega arith

-- what the type of a bill keeps, and the reading of one
pub record Limits (hour member number : ℕ) : Type 0 where
  pub hours : hour < 24
  pub members : member < 16
  pub low : 1 ≤ number
  pub high : number ≤ 999

abbrev pub BillLimits : ℕ → Terms → Type 0
BillLimits h (award site a1 a2 a3 a4 a5) = Unit {0}
BillLimits h (mileage p q0 q1 q2 q3) = Unit {0}
BillLimits h (capacity p q) = Unit {0}
BillLimits h (obligation member quantity) = Unit {0}
BillLimits h (bill member number side amount) = Limits h member number

-- a key that is one of them
abbrev pub Numbered : Key → Type 0
Numbered k = (key_index k < 767232) × (bill_key (key_index k) ≡ k)

-- the number of a key of bills, and the parts that it is taken into
numbers : (t h m n : ℕ) → t < 2 → Limits h m n → let x = ((m * 2 + t) * 24 + h) * 999 + (n - 1) in
    (x < 767232) × (x / 999 / 24 % 2 ≡ t) × (x / 999 % 24 ≡ h) × (x / 999 / 24 / 2 ≡ m) × (x % 999 + 1 ≡ n)
numbers t h m n two l =
    let low = l.low in
    let high = l.high in
    let hours = l.hours in
    let members = l.members in
    let x = ((m * 2 + t) * 24 + h) * 999 + (n - 1) in
    let turns : x / 999 ≡ (m * 2 + t) * 24 + h = omega arith in
    let days : x / 999 / 24 ≡ m * 2 + t = omega arith in
    (omega arith, omega arith, omega arith, omega arith, omega arith)

own_key : (d : Direction) (h m n : ℕ) → Limits h m n → Numbered (record { direction = d; hour = h; subject = Bill m n })
own_key d h m n l =
    let e = numbers (direction_number d) h m n (two d) l in
    (e.0, λ i. record { direction = (ap direction_at e.1 ∙ again d) i; hour = e.2 i; subject = Bill (e.3 i) (e.4 i) })
  where
    two : (e : Direction) → direction_number e < 2
    two Up = omega arith
    two Down = omega arith

    again : (e : Direction) → direction_at (direction_number e) ≡ e
    again Up = refl
    again Down = refl

-- a posting adds nothing, or has one of these keys
pub covered : (billed : Billed) (s : Said) → BillLimits s.hour s.terms → (cents_for billed s.terms ≡ pos 0) ⊎ Numbered (key_of s)
covered billed s l = go s.terms l
  where
    go : (t : Terms) → BillLimits s.hour t → (cents_for billed t ≡ pos 0) ⊎ Numbered (record { direction = s.direction; hour = s.hour; subject = subject_of t })
    go (award site a1 a2 a3 a4 a5) l = inl refl
    go (mileage p q0 q1 q2 q3) l = inl refl
    go (capacity p q) l = inl refl
    go (obligation member quantity) l = inl refl
    go (bill member number side amount) l = inr (own_key s.direction s.hour member number l)
