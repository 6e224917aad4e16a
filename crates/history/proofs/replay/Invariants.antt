use Rattle.std.proofs.Common.{◌≡◌, ◌≤◌, ◌++◌, map, length, drop, vec_items, vec_len, vec_capacity}
use Rattle.day.specs.Requests.{request_of}
use Rattle.day.specs.States.{state_of}
use Rattle.history.specs.Runs.{play}
use Rattle.history.proofs.Plays.{answers}
use Rattle.history.proofs.replay.Given as goal

abbrev pub invariant-loop-call : goal.invariant-loop-call
invariant-loop-call l =
    let rest = map request_of (drop l.call-index l.calls) in
    record {
      plays : play (state_of l.day) rest ≡ play (state_of l.initial.day) (map request_of l.calls);
      answers : vec_items l.given ++ answers (state_of l.day) rest ≡ answers (state_of l.initial.day) (map request_of l.calls);
      so_far : vec_len l.given ≡ l.call-index;
      room : length l.calls ≤ vec_capacity l.given;
    }
