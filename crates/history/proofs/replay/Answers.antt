use Rattle.std.proofs.Common.{◌+◌, ◌++◌, map, drop, sym, ap, ◌∙◌, subst, arith, rules}
use Rattle.day.specs.Requests.{request_of}
use Rattle.day.specs.States.{state_of}
use Rattle.history.specs.Runs.{Run, events, with_events}
use Rattle.history.proofs.Plays.{plays_run, requests_are, answers, play_more, answers_more, play_end, answers_end}
use Rattle.history.proofs.Laws.{taken_exactly_when, bill_taken_exactly_when, balances_are_bills, adds_up_to_zero, figures_depend_on_holdings_alone}
use Rattle.history.proofs.replay.Goals as goal

pub returns-in_err-given : goal.returns-in_err-given
returns-in_err-given c = record {
  leaves = search rules;
  answers = search rules;
  calls = requests_are (state_of c.args.day.now) (map request_of c.args.calls.now);
  run = search rules;
  taken = taken_exactly_when;
  bills = bill_taken_exactly_when;
  balances = balances_are_bills;
  zero = adds_up_to_zero;
  holdings = figures_depend_on_holdings_alone;
}

pub loop-call-preserved : goal.loop-call-preserved
loop-call-preserved c =
    let calls = c.args.calls.now in
    let i = c.loop-call.call-index in
    let s = state_of c.loop-call.day in
    let t = state_of c.make.new.self in
    let lt = c.loop-call-test.true in
    record {
      plays = play_more request_of calls i _ s t lt c.make.ensures.leaves ∙ c.loop-call.invariant.plays;
      answers =
          ap (λ items. items ++ answers t (map request_of (drop (i + 1) calls))) c.push_reserved.ensures.items
          ∙ answers_more request_of calls i _ s t _ _ lt c.make.ensures.leaves c.make.ensures.answers ∙ c.loop-call.invariant.answers;
      so_far = omega arith;
      room = omega arith;
    }

pub returns : goal.returns
returns c =
    let calls = c.args.calls.now in
    let i = c.loop-call.call-index in
    let s = state_of c.args.day.now in
    let t = state_of c.loop-call.day in
    let le = c.loop-call-test.false in
    let plays = play_end request_of calls i t le ∙ c.loop-call.invariant.plays in
    record {
      leaves = plays;
      calls = requests_are s (map request_of calls);
      answers = answers_end request_of calls i t _ le ∙ c.loop-call.invariant.answers;
      run = λ o es run. subst (λ u. Run o (with_events es (events s (map request_of calls))) u) (sym plays) (plays_run o (map request_of calls) s es run);
      taken = taken_exactly_when;
      bills = bill_taken_exactly_when;
      balances = balances_are_bills;
      zero = adds_up_to_zero;
      holdings = figures_depend_on_holdings_alone;
    }
