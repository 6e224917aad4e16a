-- What a record says, as plain data, and the key that it is held under. Assumes nothing.
use Rattle.std.specs.Prelude.{ℕ, Bool, true, false, ◌&&◌, ℤ, neg_ℤ, ◌==◌}
use Rattle.refusal.specs.declared.Document.TheVariants.{Record}
use Rattle.register.specs.Shapes.{Shape}
use Rattle.units.specs.declared.bounds.Direction.{Direction}
use Rattle.postings.specs.declared.posting.Subject.{Subject}
use Rattle.postings.specs.declared.posting.Subject.TheVariants.{Award as AWD, Mileage as MIL, Capacity as CAP, Obligation as OBL, Bill as BIL}
use Rattle.postings.specs.declared.posting.Side.{Side}
use Rattle.postings.specs.declared.posting.Side.TheVariants.{Charge, Credit}
use Rattle.postings.specs.declared.posting.Content.{Content}
use Rattle.postings.specs.declared.posting.Content.TheVariants.{Award, Mileage, Capacity, Obligation, Bill}
use Rattle.postings.specs.declared.posting.Posting.{Posting}
use Rattle.postings.specs.declared.posting.Key.{Key}
use Rattle.postings.specs.Limits.{price_at}
pub use Rattle.units.specs.Directions.{direction_number}

-- what is posted, by kind, with its numbers; a version is not part of it
pub data Terms : Type 0 where
  award : (site : ℕ) (day_ahead self_provision real_time schedule disqualified : ℤ) → Terms
  mileage : (day_ahead q0 q1 q2 q3 : ℤ) → Terms
  capacity : (day_ahead real_time : ℤ) → Terms
  obligation : (member : ℕ) (quantity : ℤ) → Terms
  bill : (member number : ℕ) (side : Side) (amount : ℤ) → Terms

-- what a record says; a bill has no version, and 0 here
pub record Said : Type 0 where
  pub direction : Direction
  pub hour : ℕ
  pub version : ℕ
  pub terms : Terms

abbrev pub terms_of : Content → Terms
terms_of (Award a) = award a.site.value a.day_ahead.value.0 a.self_provision.value.0 a.real_time.value.0 a.schedule.value.0 a.disqualified.value.0
terms_of (Mileage m) = mileage m.day_ahead.value.0 (price_at m.real_time 0) (price_at m.real_time 1) (price_at m.real_time 2) (price_at m.real_time 3)
terms_of (Capacity c) = capacity c.day_ahead.value.0 c.real_time.value.0
terms_of (Obligation o) = obligation o.member.value o.quantity.value.0
terms_of (Bill b) = bill b.member.value b.number.0.value b.side b.amount.value.0

abbrev pub version_of : Content → ℕ
version_of (Award a) = a.version.value
version_of (Mileage m) = m.version.value
version_of (Capacity c) = c.version.value
version_of (Obligation o) = o.version.value
version_of (Bill b) = 0

-- a posting as plain data
abbrev pub said : Posting → Said
said p = record { direction = p.direction; hour = p.hour.value; version = version_of p.content; terms = terms_of p.content }

-- what is posted, without its numbers
abbrev pub subject_of : Terms → Subject
subject_of (award site a1 a2 a3 a4 a5) = AWD site
subject_of (mileage p q0 q1 q2 q3) = MIL
subject_of (capacity p q) = CAP
subject_of (obligation member q) = OBL member
subject_of (bill member number side amount) = BIL member number

abbrev pub key_of : Said → Key
key_of s = record { direction = s.direction; hour = s.hour; subject = subject_of s.terms }

abbrev pub same_subject : Subject → Subject → Bool
same_subject (AWD i) (AWD j) = i == j
same_subject MIL MIL = true
same_subject CAP CAP = true
same_subject (OBL i) (OBL j) = i == j
same_subject (BIL i m) (BIL j n) = i == j && m == n
same_subject _ _ = false

-- whether two keys are equal, part by part
abbrev pub same_key : Key → Key → Bool
same_key j k = direction_number j.direction == direction_number k.direction && (j.hour == k.hour && same_subject j.subject k.subject)

-- how a register reads what a record says
abbrev pub shape : Shape Said Key
shape = record { key = key_of; version = λ s. s.version; document = λ s. Record; same = same_key }

-- how a register reads a posting: as what it says
abbrev pub posting_shape : Shape Posting Key
posting_shape = record { key = λ p. key_of (said p); version = λ p. (said p).version; document = λ p. Record; same = same_key }

-- what a bill adds to its member's balance: a credit takes away
abbrev pub signed : Side → ℤ → ℤ
signed Charge amount = amount
signed Credit amount = neg_ℤ amount
