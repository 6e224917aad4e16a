-- The kind of a record, with the index of whom it names. Assumes nothing.
use Rattle.std.specs.Prelude.{ℕ}
use Rattle.postings.specs.declared.posting.Kind.{Kind}
use Rattle.postings.specs.declared.posting.Kind.TheVariants.{Award as AWD, Mileage as MIL, Capacity as CAP, Obligation as OBL, Bill as BIL}
use Rattle.record.specs.declared.kinds.NamedKind.{NamedKind}
use Rattle.record.specs.declared.kinds.NamedKind.TheVariants.{Award, Mileage, Capacity, Obligation, Bill}

abbrev pub kind_of : NamedKind → Kind
kind_of (Award site) = AWD
kind_of Mileage = MIL
kind_of Capacity = CAP
kind_of (Obligation member) = OBL
kind_of (Bill member) = BIL

-- 0 where the kind has no name
abbrev pub name_of : NamedKind → ℕ
name_of (Award site) = site.value
name_of Mileage = 0
name_of Capacity = 0
name_of (Obligation member) = member.value
name_of (Bill member) = member.value
