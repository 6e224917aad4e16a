-- What every record that reads well keeps. Assumes nothing.
use Rattle.std.proofs.Common.{◌≡◌, ℕ, ◌<◌, ◌≤◌, Bool, true, false, cond, ◌&&◌, leb, List, [], length, get_or, ℤ, pos, Some, None, Ok, Err, Option, Result, sym, refl, ap, ◌∙◌, subst, arith, leb-true}
use Rattle.std.specs.Option.{ok_or}
use Rattle.std.specs.Str.{bytes_eq}
use Rattle.std.proofs.lemmas.List.Quantifiers.{position-Some}
use Rattle.refusal.specs.declared.Refusal.{Refusal}
use Rattle.refusal.specs.declared.Refusal.TheVariants.{RecordLength, WrongHour, WrongVersion, UnknownName}
use Rattle.register.proofs.Basics.{true_false}
use Rattle.register.proofs.Laws.{ok_err, ok_equal}
use Rattle.units.specs.declared.bounds.Direction.{Direction}
use Rattle.names.specs.Names.{text}
use Rattle.roster.specs.Rosters.{Lines, found, index_of}
use Rattle.postings.specs.declared.posting.Kind.{Kind}
use Rattle.postings.specs.declared.posting.Kind.TheVariants.{Award, Mileage, Capacity, Obligation, Bill}
use Rattle.postings.specs.declared.posting.Side.{Side}
use Rattle.postings.specs.declared.posting.Subject.TheVariants.{Bill as BIL}
use Rattle.postings.specs.Postings.{Terms, award, mileage, capacity, obligation, bill, Said, subject_of, key_of}
use Rattle.record.specs.Reading.{then, viewed, framed, kind_in, direction_in, number_after, between, hour_in, version_in, blank_as, name_in, limits_of, numbers_in, terms_for, terms_in, version_for, field, reading}

-- a bill has a member of the roster, a number from 1 to 999 and no version
pub record BillSound (roster : Lines) (version member number : ℕ) : Type 0 where
  pub members : member < length roster.members
  pub low : 1 ≤ number
  pub high : number ≤ 999
  pub no_version : version ≡ 0

abbrev pub TermsSound : Lines → ℕ → Terms → Type 0
TermsSound roster v (award site a1 a2 a3 a4 a5) = Unit {0}
TermsSound roster v (mileage p q0 q1 q2 q3) = Unit {0}
TermsSound roster v (capacity p q) = Unit {0}
TermsSound roster v (obligation member quantity) = Unit {0}
TermsSound roster v (bill member number side amount) = BillSound roster v member number

pub record Sound (roster : Lines) (s : Said) : Type 0 where
  pub hours : s.hour < 24
  pub terms : TermsSound roster s.version s.terms

-- what went on was not turned back before
then_ok : {A B : Type 0} (r : Result A Refusal) (next : A → Result B Refusal) (y : B) → then r next ≡ Ok y → (x : A) × ((r ≡ Ok x) × (next x ≡ Ok y))
then_ok (Ok x) next y h = (x, (refl, h))
then_ok (Err e) next y h = ok_err y e (sym h)

viewed_ok : {A B : Type 0} (view : A → B) (r : Result A Refusal) (y : B) → viewed view r ≡ Ok y → (x : A) × (view x ≡ y)
viewed_ok view (Ok x) y h = (x, ok_equal (view x) y h)
viewed_ok view (Err e) y h = ok_err y e (sym h)

both : (a b : Bool) → (a && b) ≡ true → (a ≡ true) × (b ≡ true)
both true true e = (refl, refl)
both true false e = true_false (sym e)
both false b e = true_false (sym e)

between_ok : (low high : ℕ) (refusal : Refusal) (o : Option ℕ) (n : ℕ) → between low high refusal o ≡ Ok n → (low ≤ n) × (n ≤ high)
between_ok low high refusal None n h = ok_err n refusal (sym h)
between_ok low high refusal (Some m) n h = go (leb low m && leb m high) refl h
  where
    go : (b : Bool) → (leb low m && leb m high) ≡ b → ◌≡◌ {A = Result ℕ Refusal} (cond b (Ok m) (Err refusal)) (Ok n) → (low ≤ n) × (n ≤ high)
    go true e f =
        let tests = both (leb low m) (leb m high) e in
        let same = ok_equal m n f in
        (subst (λ i. low ≤ i) same (leb-true low m tests.0), subst (λ i. i ≤ high) same (leb-true m high tests.1))
    go false e f = ok_err n refusal (sym f)

found_within : (t : Option (List ℕ)) (names : List (List ℕ)) (i : ℕ) → ok_or (found t names) UnknownName ≡ Ok i → i < length names
found_within None names i h = ok_err i UnknownName (sym h)
found_within (Some name) names i h = go (index_of name names) refl h
  where
    go : (o : Option ℕ) → index_of name names ≡ o → ok_or o UnknownName ≡ Ok i → i < length names
    go None e f = ok_err i UnknownName (sym f)
    go (Some j) e f = subst (λ n. n < length names) (ok_equal j i f) (position-Some (bytes_eq name) names j [] e).0

terms_sound : (roster : Lines) (kind : Kind) (name serial : ℕ) (n : ℕ → ℤ) (xs : List ℕ) → name_in roster kind xs ≡ Ok name → 1 ≤ serial → serial ≤ 999 →
    TermsSound roster (version_for kind serial) (terms_for kind name serial n)
terms_sound roster Award name serial n xs h low high = tt
terms_sound roster Mileage name serial n xs h low high = tt
terms_sound roster Capacity name serial n xs h low high = tt
terms_sound roster Obligation name serial n xs h low high = tt
terms_sound roster Bill name serial n xs h low high =
    let named = then_ok (blank_as false (text xs)) (λ _. ok_or (found (text xs) roster.members) UnknownName) name h in
    record { members = found_within (text xs) roster.members name named.1.1; low = low; high = high; no_version = refl }

abbrev saying : Kind → Direction → ℕ → ℕ → Terms → Said
saying kind direction hour serial terms = record { direction = direction; hour = hour; version = version_for kind serial; terms = terms }

pub sound : (roster : Lines) (xs : List ℕ) (s : Said) → reading roster xs ≡ Ok s → Sound roster s
sound roster xs s h = go (framed xs) h
  where
    go : (b : Bool) → cond b (then (kind_in xs) (λ kind. then (direction_in (get_or xs 3 0)) (λ direction. then (hour_in (field 4 2 xs)) (λ hour. then (version_in (field 6 3 xs)) (λ serial.
        then (name_in roster kind (field 9 24 xs)) (λ name. then (terms_in kind name serial (field 33 30 xs)) (λ terms. Ok (saying kind direction hour serial terms)))))))) (Err RecordLength) ≡ Ok s → Sound roster s
    go false f = ok_err s RecordLength (sym f)
    go true f =
        let kind = then_ok (kind_in xs) _ s f in
        let direction = then_ok (direction_in (get_or xs 3 0)) _ s kind.1.1 in
        let hour = then_ok (hour_in (field 4 2 xs)) _ s direction.1.1 in
        let serial = then_ok (version_in (field 6 3 xs)) _ s hour.1.1 in
        let name = then_ok (name_in roster kind.0 (field 9 24 xs)) _ s serial.1.1 in
        let terms = then_ok (terms_in kind.0 name.0 serial.0 (field 33 30 xs)) _ s name.1.1 in
        let numbers = viewed_ok _ (numbers_in 0 (limits_of kind.0) (field 33 30 xs)) terms.0 terms.1.0 in
        let hours = between_ok 0 23 WrongHour (number_after 0 (field 4 2 xs)) hour.0 hour.1.0 in
        let serials = between_ok 1 999 WrongVersion (number_after 0 (field 6 3 xs)) serial.0 serial.1.0 in
        let told = terms_sound roster kind.0 name.0 serial.0 (λ i. get_or numbers.0 i (pos 0)) (field 9 24 xs) name.1.0 serials.0 serials.1 in
        subst (Sound roster) (ok_equal (saying kind.0 direction.0 hour.0 serial.0 terms.0) s terms.1.1)
        (record { hours = omega (arith, hours.1); terms = subst (TermsSound roster (version_for kind.0 serial.0)) numbers.1 told })

-- a bill is never replaced: what has its key is a bill, and has no version
pub bill_not_replaced : (roster : Lines) (new old : Said) → Sound roster new → key_of new ≡ key_of old → old.version < new.version →
    (member number : ℕ) (side : Side) (amount : ℤ) → old.terms ≡ bill member number side amount → ⊥
bill_not_replaced roster new old is same higher member number side amount e = go new.terms named is.terms
  where
    named : subject_of new.terms ≡ BIL member number
    named = ap (λ k. k.subject) same ∙ ap subject_of e

    go : (t : Terms) → subject_of t ≡ BIL member number → TermsSound roster new.version t → ⊥
    go (award site a1 a2 a3 a4 a5) f s = cc
    go (mileage p q0 q1 q2 q3) f s = cc
    go (capacity p q) f s = cc
    go (obligation m q) f s = cc
    go (bill m n sd a) f s = let v = s.no_version in omega arith
