-- The laws over runs. Assumes nothing.
use Rattle.std.proofs.Common.{◌≡◌, ℕ, zero, suc, ◌<◌, ◌≤◌, cond, eqb, ltb, List, [], ◌∷◌, length, ℤ, pos, ◌+ℤ◌, neg_ℤ, Some, None, Ok, Err, Option, Result, sym, refl, ap, ◌∙◌, subst, ap₂, arith, lt-ltb}
use lib.IntN.{+ℤ_idr}
use Rattle.std.proofs.lemmas.Bool.Decides.{nat_tests}
use Rattle.std.proofs.lemmas.Int.{ints}
use Rattle.std.specs.Option.{option_map, ok_or}
use Rattle.refusal.specs.declared.Refusal.{Refusal}
use Rattle.refusal.specs.declared.Refusal.TheVariants.{WrongArgument}
use Rattle.refusal.specs.Checks.{viewed}
use Rattle.register.specs.Registers.{look, put_answer, value_of, sum_held, sum_over, Each}
use Rattle.register.specs.Taken.{latest, Admitted}
use Rattle.register.proofs.Taken.{admitted, taken, lower_last, lower_none}
use Rattle.register.proofs.Laws.{ok_err}
use Rattle.register.proofs.Sums.{by_key, over_alike}
use Rattle.roster.specs.Rosters.{Lines}
use Rattle.roster.proofs.Openings.{few_members}
use Rattle.postings.specs.declared.posting.Key.{Key}
use Rattle.postings.specs.Postings.{Terms, award, mileage, capacity, obligation, bill, Said, key_of, shape, signed}
use Rattle.record.specs.Reading.{reading}
use Rattle.postings.specs.Keys.{decides}
use Rattle.record.proofs.Readings.{TermsSound, Sound, sound}
use Rattle.day.specs.declared.sums.Billed.{Billed}
use Rattle.day.specs.declared.sums.Billed.TheVariants.{Member, Everyone}
use Rattle.day.specs.declared.account.Account.{Account}
use Rattle.day.specs.declared.account.Account.TheVariants.{Rounding, Neutrality, PassThrough}
use Rattle.day.specs.declared.calls.Reply.TheVariants.{Taken, Figure}
use Rattle.day.specs.Accounts.{account_at}
use Rattle.day.specs.Bills.{bill_cents, all_cents, cents_for}
use Rattle.day.specs.Days.{State}
use Rattle.day.specs.Requests.{post, balance}
use Rattle.day.specs.Answers.{answer, cents, balance_of, account_of}
use Rattle.day.proofs.BillKeys.{bill_key, key_index, back, BillLimits, covered}
use Rattle.history.specs.Runs.{Opening}
use Rattle.history.specs.Events.{records_taken}
use Rattle.history.specs.Laws.{TakenExactlyWhen, BillTakenExactlyWhen, BalancesAreBills, sum_below, figure_in, AddsUpToZero, FiguresDependOnHoldingsAlone}
use Rattle.history.proofs.Keeps.{adds, put_reply, Kept, kept}

-- ---- taken exactly when
-- what a record that reads well is answered
post_is : (o : Opening) (xs : List Said) (s : State) → Kept o xs s → (bytes : List ℕ) (said : Said) → reading o.roster bytes ≡ Ok said →
    answer s (post bytes) ≡ put_reply (put_answer shape s.records said)
post_is o xs s k bytes said read = rw (k.roster, read)

pub taken_exactly_when : TakenExactlyWhen
taken_exactly_when o es s run bytes said read =
    let k = kept o run in
    record {
      only = λ e. only k (put_answer shape s.records said) refl (sym (post_is o _ s k bytes said read) ∙ e);
      whenever = λ a.
          let t = taken shape decides o.places s.records (records_taken o.roster es) k.holding said a in
          post_is o _ s k bytes said read ∙ ap put_reply t.1;
    }
  where
    only : Kept o (records_taken o.roster es) s → (r : Result (Option Said) Refusal) → put_answer shape s.records said ≡ r → put_reply r ≡ Ok Taken → Admitted shape o.places said (records_taken o.roster es)
    only k (Ok old) is e = admitted shape decides o.places s.records (records_taken o.roster es) k.holding said old is
    only k (Err refusal) is e = ok_err Taken refusal (sym e)

pub bill_taken_exactly_when : BillTakenExactlyWhen
bill_taken_exactly_when o es s run bytes said read member number side amount is =
    let law = taken_exactly_when o es s run bytes said read in
    record {
      only = λ e. let a = law.only e in let none = none_earlier a (latest shape (key_of said) (records_taken o.roster es)) refl in (none, a.room none);
      whenever = λ p. law.whenever (record { newest = lower_none shape said (records_taken o.roster es) p.0; room = λ _. p.1 });
    }
  where
    no_version : said.version ≡ 0
    no_version = (subst (TermsSound o.roster said.version) is (sound o.roster bytes said read).terms).no_version

    none_earlier : Admitted shape o.places said (records_taken o.roster es) → (l : Option Said) → latest shape (key_of said) (records_taken o.roster es) ≡ l → latest shape (key_of said) (records_taken o.roster es) ≡ None
    none_earlier a None e = e
    none_earlier a (Some old) e = let v = no_version in let lt = lower_last shape said old (records_taken o.roster es) a.newest e in absurd (omega arith)

-- ---- balances
balance_is : (o : Opening) (xs : List Said) (s : State) → Kept o xs s → (m : ℕ) → m < length o.roster.members → answer s (balance m) ≡ Ok (Figure (cents (balance_of s m)))
balance_is o xs s k m lt = rw (k.roster, lt-ltb m (length o.roster.members) lt)

pub balances_are_bills : BalancesAreBills
balances_are_bills o es s run =
    let k = kept o run in
    record {
      balances = λ m lt. balance_is o (records_taken o.roster es) s k m lt ∙ ap (λ z. Ok (Figure (cents z))) (k.sums (Member m));
      rounding = refl;
      neutrality = refl;
      pass_through = ap (λ z. Ok (Figure (cents (neg_ℤ z)))) (k.sums Everyone);
    }

-- ---- the sum is zero
sum_alike : (f g : ℕ → ℤ) (n : ℕ) → ((m : ℕ) → m < n → f m ≡ g m) → sum_below f n ≡ sum_below g n
sum_alike f g zero h = refl
sum_alike f g (suc n) h = ap₂ ◌+ℤ◌ (sum_alike f g n (λ m lt. h m (omega arith))) (h n (omega arith))

sum_nothing : (n : ℕ) → sum_below (λ m. pos 0) n ≡ pos 0
sum_nothing zero = refl
sum_nothing (suc n) = +ℤ_idr (sum_below (λ m. pos 0) n) ∙ sum_nothing n

sum_both : (f g : ℕ → ℤ) (n : ℕ) → sum_below (λ m. f m +ℤ g m) n ≡ sum_below f n +ℤ sum_below g n
sum_both f g zero = refl
sum_both f g (suc n) = omega (arith, ints, sum_both f g n)

-- what is one member's is everyone's
one_member : (member : ℕ) (z : ℤ) (n : ℕ) → sum_below (λ m. cond (eqb member m) z (pos 0)) n ≡ cond (ltb member n) z (pos 0)
one_member member z zero = grind (arith, nat_tests)
one_member member z (suc n) = let ih = one_member member z n in grind (arith, ints, nat_tests)

terms_of_all : (roster : Lines) (version : ℕ) (t : Terms) → TermsSound roster version t → sum_below (λ m. bill_cents m t) (length roster.members) ≡ all_cents t
terms_of_all roster v (award site a1 a2 a3 a4 a5) h = sum_nothing (length roster.members)
terms_of_all roster v (mileage p q0 q1 q2 q3) h = sum_nothing (length roster.members)
terms_of_all roster v (capacity p q) h = sum_nothing (length roster.members)
terms_of_all roster v (obligation member quantity) h = sum_nothing (length roster.members)
terms_of_all roster v (bill member number side amount) h =
    one_member member (signed side amount) (length roster.members) ∙ ap (λ b. cond b (signed side amount) (pos 0)) (lt-ltb member (length roster.members) h.members)

members_all : (roster : Lines) (xs : List (Option Said)) → Each (Sound roster) xs → sum_below (λ m. sum_held (adds (Member m)) xs) (length roster.members) ≡ sum_held (adds Everyone) xs
members_all roster [] h = sum_nothing (length roster.members)
members_all roster (None ∷ xs) h =
    sum_both (λ m. pos 0) (λ m. sum_held (adds (Member m)) xs) (length roster.members) ∙ ap₂ ◌+ℤ◌ (sum_nothing (length roster.members)) (members_all roster xs h)
members_all roster (Some x ∷ xs) h =
    sum_both (λ m. adds (Member m) x) (λ m. sum_held (adds (Member m)) xs) (length roster.members)
    ∙ ap₂ ◌+ℤ◌ (terms_of_all roster x.version x.terms h.0.terms) (members_all roster xs h.1)

pub adds_up_to_zero : AddsUpToZero
adds_up_to_zero o es s run =
    let k = kept o run in
    let n = length o.roster.members in
    let members : sum_below (λ m. figure_in (answer s (balance m))) n ≡ sum_held (adds Everyone) s.records =
    sum_alike (λ m. figure_in (answer s (balance m))) (balance_of s) n (λ m lt. ap figure_in (balance_is o _ s k m lt)) ∙ members_all o.roster s.records k.sounds in
    omega (arith, ints, members)

-- ---- figures depend on holdings alone
bill_limits : (roster : Lines) (said : Said) → length roster.members ≤ 16 → Sound roster said → BillLimits said.hour said.terms
bill_limits roster said few is = go said.terms is.terms
  where
    go : (t : Terms) → TermsSound roster said.version t → BillLimits said.hour t
    go (award site a1 a2 a3 a4 a5) h = tt
    go (mileage p q0 q1 q2 q3) h = tt
    go (capacity p q) h = tt
    go (obligation member quantity) h = tt
    go (bill member number side amount) h = let lt = h.members in record { hours = is.hours; members = omega arith; low = h.low; high = h.high }

each_so : (P Q : Said → Type 0) → ((x : Said) → P x → Q x) → (xs : List (Option Said)) → Each P xs → Each Q xs
each_so P Q f [] h = tt
each_so P Q f (None ∷ xs) h = each_so P Q f xs h
each_so P Q f (Some x ∷ xs) h = (f x h.0, each_so P Q f xs h.1)

-- the sum over what is held is that of the look-ups over the keys of bills
over_keys : (o : Opening) (xs : List Said) (s : State) → Kept o xs s → (billed : Billed) → sum_held (adds billed) s.records ≡ sum_over shape (adds billed) bill_key 767232 s.records
over_keys o xs s k billed =
    by_key shape decides (adds billed) bill_key 767232 s.records
    (record { index = key_index; back = back; covers = each_so (Sound o.roster) _ (λ x is. covered billed x (bill_limits o.roster x (few_members o.roster k.asked) is)) s.records k.sounds })
    k.holding.apart

value_terms : (f : Terms → ℤ) (o : Option Said) → value_of (λ said. f said.terms) o ≡ value_of f (option_map (λ said. said.terms) o)
value_terms f None = refl
value_terms f (Some x) = refl

same_sums : (o p : Opening) (xs ys : List Said) (s t : State) → Kept o xs s → Kept p ys t → ((k : Key) → option_map (λ said. said.terms) (latest shape k xs) ≡ option_map (λ said. said.terms) (latest shape k ys)) →
    (billed : Billed) → sum_held (adds billed) s.records ≡ sum_held (adds billed) t.records
same_sums o p xs ys s t j k same billed =
    over_keys o xs s j billed ∙ over_alike shape (adds billed) bill_key s.records t.records alike 767232 ∙ sym (over_keys p ys t k billed)
  where
    alike : (key : Key) → value_of (adds billed) (look shape key s.records) ≡ value_of (adds billed) (look shape key t.records)
    alike key =
        let values = value_terms (cents_for billed) in
        rw (values (look shape key s.records), values (look shape key t.records), j.holding.looks key, k.holding.looks key, same key)

pub figures_depend_on_holdings_alone : FiguresDependOnHoldingsAlone
figures_depend_on_holdings_alone o p es fs s t run run' rosters same =
    let j = kept o run in
    let k = kept p run' in
    let sums = same_sums o p (records_taken o.roster es) (records_taken p.roster fs) s t j k same in
    let roster : s.roster ≡ t.roster = j.roster ∙ rosters ∙ sym k.roster in (
      (λ m. rw (roster, sums (Member m))),
      (λ n. ap (viewed Figure) (by_account (account_at n) (sums Everyone))),
    )
  where
    by_account : (a : Option Account) → sum_held (adds Everyone) s.records ≡ sum_held (adds Everyone) t.records → viewed (λ b. cents (account_of s b)) (ok_or a (WrongArgument 0)) ≡ viewed (λ b. cents (account_of t b)) (ok_or a (WrongArgument 0))
    by_account None e = refl
    by_account (Some Rounding) e = refl
    by_account (Some Neutrality) e = refl
    by_account (Some PassThrough) e = ap (λ z. Ok (cents (neg_ℤ z))) e
