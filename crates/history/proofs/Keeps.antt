-- What every run keeps. Assumes nothing.
use Rattle.std.proofs.Common.{◌≡◌, ℕ, ◌<◌, List, [], ◌∷◌, ℤ, pos, Some, None, Ok, Err, Option, Result, sym, refl, ap, arith}
use Rattle.std.proofs.lemmas.Int.{ints}
use Rattle.refusal.specs.declared.Refusal.{Refusal}
use Rattle.refusal.specs.Checks.{then, viewed}
use Rattle.register.specs.Registers.{put_answer, put, value_of, sum_held, Each}
use Rattle.register.specs.Taken.{sum_taken}
use Rattle.register.proofs.Taken.{Holding, holding_fresh, holding_put, sum_put, put_over, each_put, each_fresh, sum_fresh}
use Rattle.roster.specs.Rosters.{Lines, opening}
use Rattle.postings.specs.Postings.{Terms, award, mileage, capacity, obligation, bill, Said, key_of, shape}
use Rattle.record.specs.Reading.{reading}
use Rattle.postings.specs.Keys.{decides}
use Rattle.record.proofs.Readings.{Sound, sound, bill_not_replaced}
use Rattle.day.specs.declared.sums.Billed.{Billed}
use Rattle.day.specs.declared.calls.Reply.{Reply}
use Rattle.day.specs.declared.calls.Reply.TheVariants.{Taken}
use Rattle.day.specs.Bills.{cents_for}
use Rattle.day.specs.Days.{State, fresh}
use Rattle.day.specs.Requests.{Request, post, balance, account}
use Rattle.day.specs.Answers.{answer, after, put_in, posted_by}
use Rattle.history.specs.Runs.{Opening, Event, Run, opened, called}
use Rattle.history.specs.Events.{records_taken, with_taken}

-- what a record adds to the bills of one member, or of everyone
abbrev pub adds : Billed → Said → ℤ
adds billed said = cents_for billed said.terms

pub record Kept (o : Opening) (taken : List Said) (s : State) : Type 0 where
  pub roster : s.roster ≡ o.roster
  pub asked : opening o.roster ≡ Ok tt
  pub holding : Holding shape o.places s.records taken
  pub sounds : Each (Sound o.roster) s.records
  pub sums : (billed : Billed) → sum_held (adds billed) s.records ≡ sum_taken (adds billed) taken

-- a record that is replaced is no bill, and adds nothing
no_bill : (roster : Lines) (billed : Billed) (new old : Said) → Sound roster new → key_of new ≡ key_of old → old.version < new.version → adds billed old ≡ pos 0
no_bill roster billed new old is same higher = go old.terms refl
  where
    go : (t : Terms) → old.terms ≡ t → cents_for billed t ≡ pos 0
    go (award site a1 a2 a3 a4 a5) e = refl
    go (mileage p q0 q1 q2 q3) e = refl
    go (capacity p q) e = refl
    go (obligation member quantity) e = refl
    go (bill member number side amount) e = absurd (bill_not_replaced roster new old is same higher member number side amount e)

replaced_nothing : (roster : Lines) (billed : Billed) (xs : List (Option Said)) (new : Said) (old : Option Said) → Sound roster new → put_answer shape xs new ≡ Ok old → value_of (adds billed) old ≡ pos 0
replaced_nothing roster billed xs new None is h = refl
replaced_nothing roster billed xs new (Some old) is h =
    let over = put_over shape decides xs new old h in
    no_bill roster billed new old is over.0 over.1

-- ---- a record that was read
-- what its call replies
abbrev pub put_reply : Result (Option Said) Refusal → Result Reply Refusal
put_reply r = viewed (λ (u : Unit {0}). Taken) (viewed (λ old. tt) r)

abbrev after_put : State → Said → State
after_put s new = record { roster = s.roster; records = put shape s.records new }

kept_put : (o : Opening) (taken : List Said) (s : State) → Kept o taken s → (new : Said) → Sound o.roster new → (old : Option Said) → put_answer shape s.records new ≡ Ok old → Kept o (new ∷ taken) (after_put s new)
kept_put o taken s k new is old h = record {
  roster = k.roster;
  asked = k.asked;
  holding = holding_put shape decides o.places s.records taken k.holding new old h;
  sounds = each_put shape (Sound o.roster) s.records new k.sounds is;
  sums = λ billed. omega (arith, ints, sum_put shape (adds billed) s.records new old h, replaced_nothing o.roster billed s.records new old is h, k.sums billed);
}

kept_read : (o : Opening) (taken : List Said) (s : State) → Kept o taken s → (bytes : List ℕ) (new : Said) → reading o.roster bytes ≡ Ok new → (r : Result (Option Said) Refusal) → put_answer shape s.records new ≡ r →
    Kept o (with_taken o.roster (post bytes) (put_reply r) taken) (after_put s new)
kept_read o taken s k bytes new read (Ok old) h = rw read (kept_put o taken s k new (sound o.roster bytes new read) old h)
kept_read o taken s k bytes new read (Err refusal) h = rw h k

-- ---- any call
kept_post : (o : Opening) (taken : List Said) (s : State) → Kept o taken s → (bytes : List ℕ) → (a : Result Said Refusal) → reading o.roster bytes ≡ a → reading s.roster bytes ≡ a →
    Kept o (with_taken o.roster (post bytes) (viewed (λ u. Taken) (then a (put_in s))) taken) (posted_by s a)
kept_post o taken s k bytes (Ok new) read here = kept_read o taken s k bytes new read (put_answer shape s.records new) refl
kept_post o taken s k bytes (Err refusal) read here = k

kept_call : (o : Opening) (taken : List Said) (s : State) → Kept o taken s → (q : Request) → Kept o (with_taken o.roster q (answer s q) taken) (after s q)
kept_call o taken s k (post bytes) = kept_post o taken s k bytes (reading s.roster bytes) (ap (λ r. reading r bytes) (sym k.roster)) refl
kept_call o taken s k (balance m) = k
kept_call o taken s k (account n) = k

kept_fresh : (o : Opening) → opening o.roster ≡ Ok tt → Kept o [] (fresh o.roster o.places)
kept_fresh o asked = record {
  roster = refl;
  asked = asked;
  holding = holding_fresh shape o.places;
  sounds = each_fresh (Sound o.roster) o.places;
  sums = λ billed. sum_fresh (adds billed) o.places;
}

pub kept : (o : Opening) {es : List Event} {s : State} → Run o es s → Kept o (records_taken o.roster es) s
kept o (opened asked) = kept_fresh o asked
kept o (called {es} {s} run q) = kept_call o (records_taken o.roster es) s (kept o run) q
