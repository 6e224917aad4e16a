-- What a site was not available for in a quarter, by which cause, and what it is therefore not paid. Assumes nothing.
use Rattle.std.specs.Prelude.{◌≡◌, ℕ, cond, ◌≢◌, List, [], ◌∷◌, ◌++◌, ℤ, pos, ◌+ℤ◌, ◌-ℤ◌, ◌≤ℤ◌, ◌<ℤ◌, Some, None, fold, Option, int_le}
use Rattle.std.specs.Int.{int_min, int_max}
use Rattle.std.specs.List.{AllByRecursion, find}
use Rattle.std.specs.Option.{option_map, unwrap_or}
use Rattle.units.specs.Division.{floor_div}
use Rattle.units.specs.Exactly.{ExactlyWhen}
use Rattle.units.specs.declared.bounds.Direction.{Direction}
use Rattle.units.specs.declared.bounds.Direction.TheVariants.{Up, Down}
use Rattle.watch.specs.Availabilities.{Available}
use Rattle.nopay.specs.declared.cause.Cause.{Cause}
use Rattle.nopay.specs.declared.cause.Cause.TheVariants.{Outage, OffControl, Link, Constrained, OutOfRange}

-- 0 for none
abbrev pub cause_number : Option Cause → ℕ
cause_number None = 0
cause_number (Some Outage) = 1
cause_number (Some OffControl) = 2
cause_number (Some Link) = 3
cause_number (Some Constrained) = 4
cause_number (Some OutOfRange) = 5

-- the causes in order: of those with equal quantities the first counts
abbrev pub causes : List Cause
causes = Outage ∷ OffControl ∷ Link ∷ Constrained ∷ OutOfRange ∷ []

abbrev pub room : Available → Direction → Option ℤ
room a Up = a.room_up
room a Down = a.room_down

-- what a schedule has beyond the room to move; nothing where the site is exempt
abbrev pub beyond_room : (schedule : ℤ) → Option ℤ → ℤ
beyond_room schedule None = pos 0
beyond_room schedule (Some kw) = int_max (pos 0) (schedule -ℤ kw)

-- what a site was not available for by one cause
abbrev pub quantity : (schedule : ℤ) → Available → Direction → Cause → ℤ
quantity schedule a direction Outage = cond a.outage schedule (pos 0)
quantity schedule a direction OffControl = cond a.off_control schedule (pos 0)
quantity schedule a direction Link = cond a.link_down schedule (pos 0)
quantity schedule a direction Constrained = beyond_room schedule (room a direction)
quantity schedule a direction OutOfRange = cond a.tripped schedule (pos 0)

-- the greatest of the causes' quantities
abbrev pub greatest : (Cause → ℤ) → List Cause → ℤ
greatest quantity_of [] = pos 0
greatest quantity_of (c ∷ cs) = int_max (quantity_of c) (greatest quantity_of cs)

-- the first cause whose quantity reaches the greatest; none where that is 0
abbrev pub first_greatest : (Cause → ℤ) → List Cause → Option Cause
first_greatest quantity_of cs = cond (int_le (greatest quantity_of cs) (pos 0)) None (find (λ c. int_le (greatest quantity_of cs) (quantity_of c)) cs)

-- what a site was not available for
abbrev pub unavailable : (schedule : ℤ) → Available → Direction → ℤ
unavailable schedule a direction = greatest (quantity schedule a direction) causes

-- the cause that counts
abbrev pub governing_cause : (schedule : ℤ) → Available → Direction → Option Cause
governing_cause schedule a direction = first_greatest (quantity schedule a direction) causes

-- what is not paid for what a site was not available for and what it was disqualified for: of the award, day-ahead and real-time
abbrev pub no_pay_award : (day_ahead real_time disqualified not_available : ℤ) → ℤ
no_pay_award day_ahead real_time disqualified not_available = int_min (day_ahead +ℤ real_time) (not_available +ℤ disqualified)

-- and of the self-provision, as far as the award does not reach; the rest is dropped
abbrev pub no_pay_self_provision : (day_ahead self_provision real_time disqualified not_available : ℤ) → ℤ
no_pay_self_provision day_ahead self_provision real_time disqualified not_available =
    int_min self_provision ((not_available +ℤ disqualified) -ℤ no_pay_award day_ahead real_time disqualified not_available)

-- the figure of an hour: a quarter of the sum, rounded down
abbrev pub hour_figure : (quarters : List ℤ) → ℤ
hour_figure quarters = floor_div (fold ◌+ℤ◌ (pos 0) quarters) 4

-- of an award w, a self-provision o and a loss m: nothing is taken twice, nothing beyond what was awarded, and of the self-provision nothing while there is award left
pub record Withheld (w o m award self_provision : ℤ) : Type 0 where
  pub award_high : award ≤ℤ w
  pub self_provision_high : self_provision ≤ℤ o
  pub together : award +ℤ self_provision ≡ int_min (w +ℤ o) m
  pub award_first : self_provision ≢ pos 0 → award ≡ w

-- a cause stands among others, and each before it has a quantity below the total
pub record First (total : ℤ) (quantity_of : Cause → ℤ) (cs : List Cause) (cause : Option Cause) : Type 0 where
  pub one : Cause
  pub is_one : cause ≡ Some one
  pub earlier : List Cause
  pub later : List Cause
  pub order : cs ≡ earlier ++ (one ∷ later)
  pub below : AllByRecursion (λ c. quantity_of c <ℤ total) earlier

-- the cause that counts: no cause has a greater quantity, and none before it one as great; its number is 0 exactly where none has any
pub record Governs (quantity_of : Cause → ℤ) (cs : List Cause) (cause : Option Cause) : Type 0 where
  pub reaches : unwrap_or (option_map quantity_of cause) (pos 0) ≡ greatest quantity_of cs
  pub most : AllByRecursion (λ c. quantity_of c ≤ℤ greatest quantity_of cs) cs
  pub none : ExactlyWhen (cause_number cause ≡ 0) (greatest quantity_of cs ≡ pos 0)
  pub first : greatest quantity_of cs ≢ pos 0 → First (greatest quantity_of cs) quantity_of cs cause
